-- Laws of lists, over any element type, and of how often a number stands in a list. Assumes nothing.
use Prim.Native.Nat.{ℕ, zero, suc, ◌+◌, ◌*◌, ◌<◌}
use native.Mathlib.Omega.{arith}
use native.Mathlib.Nat.{mul-zero, mul-suc}
use mathlib.Core.Path.{◌≡◌, refl, sym, ◌∙◌}
use mathlib.Core.List.{List, [], ◌∷◌, ◌++◌, map}
use lib.Dec.{eqb}
use lib.ListN.{length, get_or, take, drop, set, replicate, take-append-drop, length-drop}
use lib.Seq.{drop-drop, set_at, append_snoc, take_at, drop_at}
use Rattle.places.specs.Moves.{moved_up, first_off}
use borrow.Author.Tests.{eqb-true, eqb-false, ne_eqb}
use Rattle.plain.proofs.Tests.{by_test}
use Rattle.plain.specs.Sound.{All}
use Rattle.store.specs.Sound.{times}

module _ {A : Type 0} where
  none_left : (l m : List A) → length l ≡ 0 → length m ≡ 0 → l ≡ m
  none_left [] [] a b = refl
  none_left [] (x ∷ m) a b = absurd (omega arith)
  none_left (x ∷ l) m a b = absurd (omega arith)

  -- a flat list is known by its k parts of n
  pub by_parts : (n k : ℕ) (l m : List A) → length l ≡ n * k → length m ≡ n * k
      → ((c : ℕ) → c < k → take n (drop (n * c) l) ≡ take n (drop (n * c) m)) → l ≡ m
  by_parts n zero l m a b e = none_left l m (a ∙ mul-zero n) (b ∙ mul-zero n)
  by_parts n (suc k) l m a b e =
      let first : take n l ≡ take n m = rw mul-zero at (e 0 (omega arith)) in
      let rest : drop n l ≡ drop n m =
      by_parts n k (drop n l) (drop n m) (omega (arith, length-drop n l, mul-suc n k)) (omega (arith, length-drop n m, mul-suc n k)) (λ c h.
      let next : n * suc c ≡ n + n * c = omega (arith, mul-suc n c) in
      rw (drop-drop, drop-drop, ← next) (e (suc c) (omega arith))) in
      sym (take-append-drop n l) ∙ rw (first, rest) (take-append-drop n m)

-- a map of a list's parts, and of a list in which one has moved
module _ {A B : Type 0} (f : A → B) where
  pub map_append : (p q : List A) → map f (p ++ q) ≡ map f p ++ map f q
  map_append [] q = refl
  map_append (a ∷ p) q = rw (map_append p q)

  pub map_take : (n : ℕ) (l : List A) → map f (take n l) ≡ take n (map f l)
  map_take zero l = refl
  map_take (suc n) [] = refl
  map_take (suc n) (x ∷ l) = rw (map_take n l)

  pub map_drop : (n : ℕ) (l : List A) → map f (drop n l) ≡ drop n (map f l)
  map_drop zero l = refl
  map_drop (suc n) [] = refl
  map_drop (suc n) (x ∷ l) = map_drop n l

  pub map_moved : (x : A) (l : List A) (from to : ℕ) → map f (moved_up x l from to) ≡ moved_up (f x) (map f l) from to
  map_moved x l from to = simp (map_append, map_drop, map_take)

-- the first of a queue's places goes, the rest of the part being zero
pub first_off_lem : (p : ℕ) (ps zs : List ℕ) → first_off ((p ∷ ps) ++ zs) (suc (length ps)) ≡ ps ++ 0 ∷ zs
first_off_lem p ps zs = rw (take_at ps zs (length ps) refl, drop_at ps zs (length ps) refl)

-- two maps that agree on a list agree at what stands in it
pub map_at : {B : Type 0} (f g : ℕ → B) (i : ℕ) (ps : List ℕ) → map f ps ≡ map g ps → 0 < times i ps → f i ≡ g i
map_at f g i [] e h = absurd (omega arith)
map_at f g i (x ∷ ps) e h =
    by_test (eqb x i)
    (λ t. let p : x ≡ i = eqb-true x i t in let q : f x ≡ g x = cc in rw p at q)
    (λ n. map_at f g i ps (cc) (rw n at h))

-- .. and a map is the same list where it differs only at what does not stand there
pub map_same : {B : Type 0} (f g : ℕ → B) (i : ℕ) (ps : List ℕ) → ((j : ℕ) → (j ≡ i → ⊥) → f j ≡ g j) → times i ps ≡ 0 → map f ps ≡ map g ps
map_same f g i [] e h = refl
map_same f g i (x ∷ ps) e h =
    by_test (eqb x i)
    (λ t. absurd (omega (arith, rw t at h)))
    (λ n. let r = map_same f g i ps e (rw n at h) in rw (e x (eqb-false x i n), r))

pub times_append : (i : ℕ) (p q : List ℕ) → times i (p ++ q) ≡ times i p + times i q
times_append i [] q = omega arith
times_append i (x ∷ p) q =
    by_test (eqb x i)
    (λ t. rw t (omega (arith, times_append i p q)))
    (λ n. rw n (times_append i p q))

pub map_set : {A B : Type 0} (f : A → B) (l : List A) (i : ℕ) (x : A) → map f (set l i x) ≡ set (map f l) i (f x)
map_set f [] i x = refl
map_set f (y ∷ l) zero x = refl
map_set f (y ∷ l) (suc i) x = rw (map_set f l i x)

-- a list of n places of which the first are used: one more is taken at the end
pub push : {A : Type 0} (l ps : List A) (n k : ℕ) (z x : A) (at : ℕ) → l ≡ ps ++ replicate n z → length ps ≡ at → n ≡ suc k
    → set l at x ≡ (ps ++ (x ∷ [])) ++ replicate k z
push l ps n k z x at e h m = rw (e, m, set_at ps z (replicate k z) x at h) (sym (append_snoc ps x (replicate k z)))

-- n times a, and one at the front
pub replicate_more : {A : Type 0} (n k : ℕ) (a : A) → n ≡ suc k → replicate n a ≡ a ∷ replicate k a
replicate_more n k a e = rw e

-- what holds of every one of a list, by place, and of what stands there
pub all_place : {A : Type 0} (Q : A → Type 0) (d : A) (l : List A) → All Q l → (k : ℕ) → k < length l → Q (get_or l k d)
all_place Q d [] h k m = absurd (omega arith)
all_place Q d (x ∷ l) h zero m = h.0
all_place Q d (x ∷ l) h (suc k) m = all_place Q d l h.1 k (omega arith)

-- what stands at no place of a list does not stand in it
pub times_none : (i : ℕ) (ps : List ℕ) → ((k : ℕ) → k < length ps → get_or ps k 0 ≡ i → ⊥) → times i ps ≡ 0
times_none i [] h = refl
times_none i (x ∷ ps) h = rw (ne_eqb x i (h 0 (omega arith))) (times_none i ps (λ k l. h (suc k) (omega arith)))
