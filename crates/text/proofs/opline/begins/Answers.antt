-- The word stands there, and then a blank, or it does not. Assumes nothing.
use Rattle.std.proofs.Common.{◌≡◌, ℕ, ◌-◌, ◌+◌, ◌<◌, List, ◌∷◌, ◌++◌, Bool, true, false, length, take, drop, get_or, sym, ap, subst, ◌∙◌, arith}
use Rattle.std.specs.List.{starts_with}
use Rattle.std.proofs.lemmas.Slice.Eq.{starts_is}
use Rattle.std.proofs.lemmas.Bool.Decides.{Decides-eqb}
use lib.Dec.{eqb}
use lib.ListN.{length-drop}
use lib.Seq.{take_all, get_or-append_seam}
use Rattle.plain.specs.Decides.{Decides}
use Rattle.plain.proofs.Tests.{no}
use Rattle.plain.proofs.Deciding.{decides_false, decides_as, decides_eq}
use Rattle.decimal.proofs.Runs.{at_place}
use Rattle.text.specs.Text.{blank}
use Rattle.text.specs.Pieces.{Begins}
use Rattle.text.proofs.opline.begins.Goals as goal

module _ (l word : List ℕ) (starts : Bool) (is : starts ≡ starts_with eqb l word) where
  not_there : starts ≡ false → Begins word l → ⊥
  not_there f b = no starts ((starts_is Decides-eqb l word starts is).1 (blank ∷ b.0) b.1) f

  at_word : starts ≡ true → (x : ℕ) → length word < length l → x ≡ get_or l (length word) 0 → Decides (eqb x blank) (Begins word l)
  at_word t x h e =
      let n = length word in
      let behind : l ≡ word ++ (get_or l n 0 ∷ drop (n + 1) l) =
      (starts_is Decides-eqb l word starts is).0 t ∙ ap (λ (r : List ℕ). word ++ r) (at_place l n h) in
      decides_as
      (λ q. let is_blank : get_or l n 0 ≡ blank = sym e ∙ q in (drop (n + 1) l, behind ∙ ap (λ (y : ℕ). word ++ (y ∷ drop (n + 1) l)) is_blank))
      (λ b. e ∙ ap (λ (t : List ℕ). get_or t n 0) b.1 ∙ get_or-append_seam word blank b.0 0)
      (decides_eq x blank)

-- the part from a place on is all that stands there
all_from : (text : List ℕ) (at : ℕ) → take (length text - at) (drop at text) ≡ drop at text
all_from text at = take_all (length text - at) (drop at text) (omega (arith, length-drop at text))

pub returns-then-not-starts_with : goal.returns-then-not-starts_with
returns-then-not-starts_with c =
    subst (λ (l : List ℕ). Decides false (Begins c.args.word.now l)) (all_from c.args.text.now c.args.at)
    (decides_false (not_there _ _ _ c.starts_with.ensures.value c.if-not-starts_with.true))

pub returns-in-Some : goal.returns-in-Some
returns-in-Some c =
    let found = c.in-Some.ensures.lookup.3 in
    subst (λ (l : List ℕ). Decides (eqb c.in-Some.byte.now blank) (Begins c.args.word.now l)) (all_from c.args.text.now c.args.at)
    (at_word _ _ _ c.starts_with.ensures.value c.if-not-starts_with.false _ found.0 (found.1 0))
