-- Sums over the places of a queue and over the flags of the map. Assumes nothing.
use Prim.Native.Nat.{ℕ, suc, ◌+◌, ◌<◌}
use native.Mathlib.Omega.{arith}
use mathlib.Core.Path.{◌≡◌, refl, sym, subst}
use mathlib.Core.Bool.{Bool, true, false, not, cond}
use mathlib.Core.List.{List, [], ◌∷◌}
use lib.ListN.{length, get_or}
use borrow.Author.Tests.{eq-eqb, ne_eqb}
use Rattle.plain.specs.Queue.{count}
use Rattle.plain.specs.Site.{sum, lowest}
use Rattle.plain.specs.Sound.{All}
use Rattle.plain.proofs.Tests.{by_test}
use Rattle.plain.proofs.Sums.{sum_change, sum_front, sum_nothing}
use Rattle.usedmap.specs.Flags.{first_free, count_used}
use Rattle.store.specs.Sound.{times}

-- how many places pass a test: over the numbers below n, as often as each stands there
pub count_times : (g : ℕ → Bool) (n : ℕ) (ps : List ℕ) → All (λ i. i < n) ps → count g ps ≡ sum (λ i. cond (g i) (times i ps) 0) n
count_times g n [] h = sym (sum_nothing (λ i. cond (g i) 0 0) n (λ i l. both (g i)))
  where
    both : (b : Bool) → ◌≡◌ {A = ℕ} (cond b 0 0) 0
    both true = refl
    both false = refl
count_times g n (x ∷ ps) h =
    let r = count_times g n ps h.1 in
    let c = sum_change (λ i. cond (g i) (times i ps) 0) (λ i. cond (g i) (times i (x ∷ ps)) 0) n x h.0 (λ d ne. rw (ne_eqb x d (λ q. ne (sym q)))) in
    by_test (g x)
    (λ t. let now : cond (g x) (times x (x ∷ ps)) 0 ≡ suc (times x ps) = rw (t, eq-eqb x x refl) in
    let was : cond (g x) (times x ps) 0 ≡ times x ps = rw t in
    rw t (omega arith))
    (λ f. let now : cond (g x) (times x (x ∷ ps)) 0 ≡ 0 = rw f in
    let was : cond (g x) (times x ps) 0 ≡ 0 = rw f in
    rw f (omega arith))

-- the count of flags as a sum, and the lowest number that passes as the first flag that is not set
pub sum_flags : (bs : List Bool) → count_used bs ≡ sum (λ i. cond (get_or bs i false) 1 0) (length bs)
unfolding sum count_used
sum_flags [] = refl
sum_flags (true ∷ bs) = omega (arith, sum_flags bs, sum_front (λ i. cond (get_or (true ∷ bs) i false) 1 0) (length bs))
sum_flags (false ∷ bs) = omega (arith, sum_flags bs, sum_front (λ i. cond (get_or (false ∷ bs) i false) 1 0) (length bs))

pub lowest_flag : (bs : List Bool) (p : ℕ → Bool) (from : ℕ) → ((i : ℕ) → i < length bs → p (from + i) ≡ not (get_or bs i false))
    → lowest p from (length bs) ≡ from + first_free bs
unfolding first_free
lowest_flag [] p from e = omega arith
lowest_flag (true ∷ bs) p from e =
    let z : p from ≡ false = subst (λ (k : ℕ). p k ≡ false) (omega arith) (e 0 (omega arith)) in
    rw z (omega (arith, lowest_flag bs p (suc from) (λ i l. subst (λ (k : ℕ). p k ≡ not (get_or bs i false)) (omega arith) (e (suc i) (omega arith)))))
lowest_flag (false ∷ bs) p from e =
    let z : p from ≡ true = subst (λ (k : ℕ). p k ≡ true) (omega arith) (e 0 (omega arith)) in
    rw z (omega arith)
