-- A query's refusals on a sound site: 17 for a mask of no class, 18 where no place is free, 24 where as many were begun as 32 bits hold; else it is
-- accepted, at the lowest free place. Assumes nothing.
use Prim.Native.Nat.{ℕ, suc, ◌^◌, ◌<◌, ◌≤◌}
use native.Mathlib.Omega.{arith}
use mathlib.Core.Path.{◌≡◌}
use mathlib.Core.Logic.{◌⊎◌, inl, inr}
use mathlib.Core.Bool.{true}
use lib.Dec.{ltb}
use borrow.Author.Tests.{lt-ltb, le-ltb, lt-leb, le-leb, ltb-true, ltb-false}
use Rattle.plain.specs.Steps as K
use Rattle.plain.specs.Site as S
use Rattle.plain.specs.Site.{lowest, named, first_named}
use Rattle.plain.proofs.Tests.{by_test, no}
use Rattle.plain.proofs.Sums.{lowest_none, lowest_past}
use Rattle.store.specs.Calls.{State, RightCells, SoundState, Did, plain_of}
use Rattle.store.specs.Meaning.{plain}
use Rattle.queries.specs.Table.{lowest_free_place}
use Rattle.store.specs.Store.{Shaped, Store}
use Rattle.store.proofs.Masks.{none_named, some_named}
use Rattle.store.proofs.Offered.{not_done}
use Rattle.store.proofs.Reading.{free_place_is}

-- a mask that names a class, by its number
first_named_lem : (m : ℕ) → m < 2 ^ 16 → (m ≡ 0 → ⊥) → first_named m < 16
unfolding first_named
first_named_lem m l ne = go (some_named m l)
  where
    go : (m ≡ 0) ⊎ ((c : ℕ) × (c < 16) × (named m c ≡ true)) → lowest (named m) 0 16 < 16
    go (inl z) = absurd (ne z)
    go (inr y) =
        by_test (ltb (lowest (named m) 0 16) 16) (ltb-true _ 16)
        (λ f. no _ y.2 (lowest_none (named m) 0 16 (ltb-false _ 16 f) y.0 (omega arith) y.1))

none_first : first_named 0 ≡ 16
unfolding first_named
none_first = lowest_past (named 0) 0 16 (λ c l. none_named c)

module _ (x : State) (w : Shaped x.site) (r : RightCells x) (q : SoundState x) (m : ℕ) (small : m < 2 ^ 16) where
  abbrev s : Store
  s = x.site

  abbrev p : S.Site
  p = plain_of x

  -- the first free index of the table
  abbrev index : ℕ
  index = lowest_free_place x.site.queries

  place_is : S.free_place p ≡ suc index
  unfolding lowest_free_place
  place_is = free_place_is s w q.laid x.committed x.working

  pub query_empty : m ≡ 0 → Did x (S.query m) x (K.refused 17)
  unfolding S.refusal
  query_empty z = not_done x (S.query m) 17 r q (omega arith) (rw (z, none_first))

  module _ (some : m ≡ 0 → ⊥) where
    pub query_full : 8 ≤ index → Did x (S.query m) x (K.refused 18)
    unfolding S.refusal
    query_full h = not_done x (S.query m) 18 r q (omega arith)
        (rw (lt-leb 16 (first_named m) (first_named_lem m small some), place_is, lt-ltb 8 (suc index) (omega arith)))

    module _ (free : index < 8) where
      pub query_last : 4294967295 ≤ s.begun → Did x (S.query m) x (K.refused 24)
      unfolding S.refusal plain
      query_last h = not_done x (S.query m) 24 r q (omega arith)
          (rw (lt-leb 16 (first_named m) (first_named_lem m small some), place_is, le-ltb 8 (suc index) (omega arith), le-leb 4294967295 s.begun h))

      pub query_taken : s.begun < 4294967295 → (S.refusal p (S.query m) ≡ 0) × (S.free_place p ≡ suc index)
      unfolding S.refusal plain
      query_taken h =
          (rw (lt-leb 16 (first_named m) (first_named_lem m small some), place_is, le-ltb 8 (suc index) (omega arith), lt-leb 4294967295 s.begun h), place_is)
