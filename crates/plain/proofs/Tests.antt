-- Boolean tests: by cases on one, and what `and` and `or` of two tell. Assumes nothing.
use Prim.Native.Nat.{ℕ}
use native.Mathlib.Omega.{arith}
use mathlib.Core.Path.{◌≡◌, refl, sym, ◌∙◌}
use mathlib.Core.Bool.{Bool, true, false, ◌&&◌, ◌||◌}
use mathlib.Core.List.{List, [], ◌∷◌}
use Rattle.plain.specs.Ops.{every}
use Rattle.plain.specs.Sound.{All}

-- by cases on a test, with what it came to
pub by_test {ℓ} : {X : Type ℓ} (b : Bool) → (b ≡ true → X) → (b ≡ false → X) → X
by_test true f g = f refl
by_test false f g = g refl

-- a test does not come to both
pub no : {X : Type 0} (b : Bool) → b ≡ true → b ≡ false → X
no b t f = let z : true ≡ false = sym t ∙ f in let y : ◌≡◌ {A = ℕ} 0 1 = cc in absurd (omega arith)

pub or_left : (a b : Bool) → (a || b) ≡ false → a ≡ false
or_left true b e = e
or_left false b e = refl

pub or_right : (a b : Bool) → (a || b) ≡ false → b ≡ false
or_right true b e = let z : true ≡ b = cc in cc
or_right false b e = e

pub and_both : (a b : Bool) → (a && b) ≡ true → (a ≡ true) × (b ≡ true)
and_both true b e = (refl, e)
and_both false b e = no _ e refl

-- all of a list of tests hold
pub all_true : (bs : List Bool) → every bs ≡ true → All (λ b. b ≡ true) bs
all_true [] e = tt
all_true (b ∷ bs) e = by_test b (λ y. (y, all_true bs (rw y at e))) (λ f. no _ e (rw f))

pub every_true : (bs : List Bool) → All (λ b. b ≡ true) bs → every bs ≡ true
every_true [] h = refl
every_true (b ∷ bs) h = rw h.0 (every_true bs h.1)
