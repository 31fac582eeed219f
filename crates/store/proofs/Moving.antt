-- The places of a queue moved in the array are the requests moved in the plain queue. Assumes nothing.
use Prim.Native.Nat.{ℕ, zero, suc, ◌+◌, ◌-◌, ◌<◌, ◌≤◌}
use native.Mathlib.Omega.{arith}
use mathlib.Core.Path.{◌≡◌, sym, ap, ◌∙◌, subst}
use mathlib.Core.Bool.{true, false, cond}
use mathlib.Core.Option.{Option, none, some}
use mathlib.Core.List.{List, [], ◌∷◌, ◌++◌}
use lib.Dec.{eqb}
use lib.ListN.{length, get_or, take, drop, replicate, length-append, take-append-drop, get_or-append}
use lib.Seq.{slice, split_at, take-append-le, drop-append-le, take-take, length-take-le}
use Rattle.plain.specs.Queue as Q
use Rattle.plain.specs.Steps as K
use Rattle.places.proofs.Shift.{moved_append, moved_length}
use Rattle.places.specs.Moves.{moved_up, part}
use Rattle.plain.proofs.Tests.{by_test, or_left, or_right}
use Rattle.plain.specs.Sound.{All, Waiting}
use Rattle.store.proofs.Canonical.{part_is, places_length}
use Rattle.store.proofs.Lists.{times_append}
use Rattle.store.proofs.Relaid.{Queued}
use Rattle.store.proofs.Entering.{before_at}
use Rattle.store.specs.Meaning.{len_of, places}
use Rattle.store.specs.Sound.{Laid, times}
use Rattle.store.specs.Store.{Shaped, Store}

-- taken out at `from` and put in at `to`
pub out_and_in : {A : Type 0} (x : A) (q : List A) (from to : ℕ) → from < length q → to ≤ from
    → take to (take from q ++ drop (suc from) q) ++ x ∷ drop to (take from q ++ drop (suc from) q) ≡ moved_up x q from to
out_and_in x q from to l k =
    let n : length (take from q) ≡ from = length-take-le from q (omega arith) in
    rw (take-append-le to (take from q) (drop (suc from) q) (omega arith), drop-append-le to (take from q) (drop (suc from) q) (omega arith), take-take to from q k)

-- a request by its id
pub without_at : (i : ℕ) (q : List Q.Item) (from : ℕ) (d : Q.Item) → from < length q → Q.id_is i (get_or q from d) ≡ true → Q.has i (take from q) ≡ false
    → (Q.without i q ≡ take from q ++ drop (suc from) q) × (Q.entry_of i q ≡ some (get_or q from d))
without_at i [] from d l e n = absurd (omega arith)
without_at i (x ∷ q) zero d l e n = (rw e, rw e)
without_at i (x ∷ q) (suc from) d l e n =
    let r = without_at i q from d (omega arith) e (or_right (Q.id_is i x) (Q.has i (take from q)) n) in
    let f = or_left (Q.id_is i x) (Q.has i (take from q)) n in
    (rw (f, r.0), rw (f, r.1))

-- before the first waiting one
abbrev pub Confirmed : Q.Item → Type 0
Confirmed e = Q.is_confirmed e ≡ true

all_append : (P : Q.Item → Type 0) (p q : List Q.Item) → All P (p ++ q) → All P p × All P q
all_append P [] q h = (tt, h)
all_append P (x ∷ p) q h = let r = all_append P p q h.1 in ((h.0, r.0), r.1)

append_all : (P : Q.Item → Type 0) (p q : List Q.Item) → All P p → All P q → All P (p ++ q)
append_all P [] q a b = b
append_all P (x ∷ p) q a b = (a.0, append_all P p q a.1 b)

-- Confirm's move
pub moved_is : (i n : ℕ) (q : List Q.Item) (from to : ℕ) (d : Q.Item) → from < length q → to ≤ from → Q.id_is i (get_or q from d) ≡ true → Q.has i (take from q) ≡ false
    → All Confirmed (take to q) → All Waiting (drop to q) → K.moved i n q ≡ moved_up (K.numbered n (get_or q from d)) q from to
moved_is i n q from to d l k e f a b =
    let w = without_at i q from d l e f in
    let m : length (take from q) ≡ from = length-take-le from q (omega arith) in
    let x = K.numbered n (get_or q from d) in
    let t : take to (take from q ++ drop (suc from) q) ≡ take to q = take-append-le to (take from q) (drop (suc from) q) (omega arith) ∙ take-take to from q k in
    let r : drop to (take from q ++ drop (suc from) q) ≡ slice to from q ++ drop (suc from) q = drop-append-le to (take from q) (drop (suc from) q) (omega arith) in
    subst (λ (o : Option Q.Item). elim o [ none ↦ q | some e ↦ Q.before_waiting (K.numbered n e) (Q.without i q) ] ≡ moved_up x q from to) (sym w.1) (rw w.0 (before_at x (take from q ++ drop (suc from) q) to (omega (arith, length-append (take from q) (drop (suc from) q)))
    (rw t a) (rw r (append_all Waiting (slice to from q) (drop (suc from) q) still.0 still.1.1)) ∙ out_and_in x q from to l k))
  where
    -- from `to` on: up to `from`, that one, and the rest
    split : drop to q ≡ slice to from q ++ get_or q from d ∷ drop (suc from) q
    split =
        ap (drop to) (split_at q from d l)
        ∙ drop-append-le to (take from q) (get_or q from d ∷ drop (suc from) q) (omega (arith, length-take-le from q (omega arith)))

    still : All Waiting (slice to from q) × All Waiting (get_or q from d ∷ drop (suc from) q)
    still = all_append Waiting (slice to from q) (get_or q from d ∷ drop (suc from) q) (rw split at b)

-- in the array: the queue's places, of which no number is lost
pub times_moved : (j : ℕ) (ps : List ℕ) (from to : ℕ) → from < length ps → to ≤ from → times j (moved_up (get_or ps from 0) ps from to) ≡ times j ps
times_moved j ps from to l k =
    omega (
      arith,
      times_append j (take to ps) (get_or ps from 0 ∷ (slice to from ps ++ drop (suc from) ps)),
      cons (slice to from ps ++ drop (suc from) ps),
      times_append j (slice to from ps) (drop (suc from) ps),
      cons (drop (suc from) ps),
      times_append j (slice to from ps) (get_or ps from 0 ∷ drop (suc from) ps),
      times_append j (take to ps) (drop to ps),
      ap (times j) split,
      ap (times j) (take-append-drop to ps),
    )
  where
    cons : (r : List ℕ) → times j (get_or ps from 0 ∷ r) ≡ cond (eqb (get_or ps from 0) j) 1 0 + times j r
    cons r = by_test (eqb (get_or ps from 0) j) (λ t. rw t (omega arith)) (λ f. rw f (omega arith))

    split : drop to ps ≡ slice to from ps ++ get_or ps from 0 ∷ drop (suc from) ps
    split =
        ap (drop to) (split_at ps from 0 l)
        ∙ drop-append-le to (take from ps) (get_or ps from 0 ∷ drop (suc from) ps) (omega (arith, length-take-le from ps (omega arith)))

module _ (s t : Store) (w : Shaped s) (h : Laid s) (c from to : ℕ) (l : c < 16) (m : from < len_of s c) (k : to ≤ from) where
  pub moved_queue : part t.queue c ≡ moved_up (get_or (part s.queue c) from 0) (part s.queue c) from to → t.lens ≡ s.lens
      → ((d : ℕ) → (d ≡ c → ⊥) → part t.queue d ≡ part s.queue d) → Queued s t c (moved_up (get_or (places s c) from 0) (places s c) from to)
  moved_queue e f o =
      let n = places_length s w h c l in
      let zs : List ℕ = replicate (136 - len_of s c) 0 in
      let same : length (moved_up (get_or (places s c) from 0) (places s c) from to) ≡ len_of s c = moved_length (places s c) from (omega arith) to (get_or (places s c) from 0) k ∙ n in
      record {
        fits = omega (arith, h.not_longer_than_136 c l);
        len = ap (λ (r : List ℕ). get_or r c 0) f ∙ sym same;
        own = e ∙ ap (λ (r : List ℕ). moved_up (get_or r from 0) r from to) (part_is s w h c l)
            ∙ ap (λ (x : ℕ). moved_up x (places s c ++ zs) from to) (get_or-append (places s c) zs 0 from (omega arith))
            ∙ moved_append (places s c) from (omega arith) to (get_or (places s c) from 0) zs k
            ∙ ap (λ (n : ℕ). moved_up (get_or (places s c) from 0) (places s c) from to ++ replicate (136 - n) 0) (sym same);
        others = λ d k ne. (ap (λ (r : List ℕ). get_or r d 0) f, o d ne);
      }
