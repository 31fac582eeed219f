-- Any two outcomes of an input's events are equal: the site, its cells and the lines. Assumes nothing.
use Rattle.std.proofs.Common.{◌≡◌, ℕ, List, ◌++◌, sym, refl, ap, ◌∙◌, subst}
use Rattle.store.specs.Calls.{State}
use Rattle.event.proofs.Unique.{one_line}
use Rattle.input.specs.Pieces.{behind}
use Rattle.drive.specs.Listing.{Lists, done, next}

pub one_listing : {x y z : State} {place : ℕ} {bs : List (List ℕ)} {t u : List ℕ} → Lists x place bs y t → Lists x place bs z u → (y ≡ z) × (t ≡ u)
one_listing (done x place) (done x' place') = (refl, refl)
one_listing (next x place b y line bs z text one h) (next x' place' b' w other bs' v more two k) =
    let e = one_line one two in
    let s = one_listing h (subst (λ (i : State). Lists i (behind place 1) bs v more) (sym e.0) k) in
    (s.0, ap (λ (l : List ℕ). l ++ text) e.1 ∙ ap (λ (l : List ℕ). other ++ l) s.1)
