-- Any two outcomes of taking bookings are equal: where a booking ends, the records, the place, the answer, and what is left. Assumes nothing.
use Rattle.std.proofs.Common.{◌≡◌, ℕ, suc, ◌<◌, Bool, ltb, List, ◌++◌, length, drop, sym, refl, ap, ◌∙◌, arith, ltb-false, ltb-true}
use mathlib.Core.Option.{Option, some}
use Rattle.plain.proofs.Tests.{by_test}
use Rattle.text.specs.Text.{joined}
use Rattle.text.specs.Calls.{Answer}
use Rattle.text.proofs.OneText.{one_request}
use Rattle.text.proofs.Encoding.{one_record}
use Rattle.text.proofs.Laws.{one_bad_line, valid_is_not_bad, valid_request}
use Rattle.input.specs.Pieces.{behind}
use Rattle.typed.specs.Bookings.{bookings, Ends}
use Rattle.typed.specs.Taking.{Takes, all, one, stop, answered, TakesBlock}
use Rattle.typed.proofs.Cutting.{nothing_lost}

-- a booking ends at one place
no_later : (t : List ℕ) (at e f : ℕ) → Ends t at e → Ends t at f → e < f → ⊥
no_later t at e f h k l = k.first e h.behind l (h.stops (omega (arith, k.within)))

pub one_end : (t : List ℕ) (at e f : ℕ) → Ends t at e → Ends t at f → e ≡ f
one_end t at e f h k =
    by_test (ltb e f)
    (λ y. absurd (no_later t at e f h k (ltb-true e f y)))
    (λ n. by_test (ltb f e)
    (λ y. absurd (no_later t at f e k h (ltb-true f e y)))
    (λ m. omega (arith, ltb-false e f n, ltb-false f e m)))

-- and what is taken is one
pub one_taking : {bs : List (List ℕ)} {r s : List ℕ} {d e : ℕ} {x y : Option ℕ} → Takes bs r d x → Takes bs s e y → (r ≡ s) × (d ≡ e) × (x ≡ y)
one_taking all all = (refl, refl, refl)
one_taking (one b bs bytes i r d x p q h) (one b' bs' other j s e y u v k) =
    let same : i ≡ j = one_request i j (sym q ∙ v) in
    let stored : bytes ≡ other = one_record bytes other j (p ∙ ap some same) u in
    let w = one_taking h k in
    (ap (λ (l : List ℕ). l ++ r) stored ∙ ap (λ (l : List ℕ). other ++ l) w.0, ap suc w.1, w.2)
one_taking (one b bs bytes i r d x p q h) (stop b' bs' line f) = absurd (valid_is_not_bad b line i (valid_request bytes i p) q f)
one_taking (stop b bs line f) (one b' bs' bytes i r d x p q h) = absurd (valid_is_not_bad b line i (valid_request bytes i p) q f)
one_taking (stop b bs line f) (stop b' bs' m g) = (refl, refl, ap some (one_bad_line b line m f g))

-- so is what comes of a block
pub one_block : (t : List ℕ) (last : Bool) (place : ℕ) (r s : List ℕ) (at from n m : ℕ) (a b : Answer) → TakesBlock t last place r at n a
    → TakesBlock t last place s from m b → (r ≡ s) × (n ≡ m) × (a ≡ b) × (drop at t ≡ drop from t)
one_block t last place r s at from n m a b h k =
    let w = one_taking h.takes k.takes in (
      w.0,
      h.counts ∙ ap (behind place) w.1 ∙ sym k.counts,
      h.answers ∙ ap (λ (l : List ℕ). answered (length l) h.bad) w.0 ∙ ap (answered (length s)) w.2 ∙ sym k.answers,
      sym (nothing_lost (drop at t)) ∙ ap (joined (λ x. x)) (h.left ∙ ap (λ (d : ℕ). drop d (bookings t)) w.1 ∙ sym k.left) ∙ nothing_lost (drop from t),
    )
