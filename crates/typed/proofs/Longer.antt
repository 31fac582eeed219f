-- A text that is longer than any valid one is bad at the same line, whatever comes behind it. Assumes nothing.
use Rattle.std.proofs.Common.{◌≡◌, ℕ, zero, suc, ◌+◌, ◌-◌, ◌<◌, eqb, List, [], ◌∷◌, ◌++◌, length, sym, refl, ap, ◌∙◌, arith}
use Rattle.plain.proofs.Tests.{by_test}
use Rattle.text.specs.Text.{newline, text_of}
use Rattle.text.specs.Lines.{first_line, after_line, Agree, FirstBad}
use Rattle.text.proofs.OneText.{at_most_168}
use Rattle.typed.specs.Taking.{longest}

-- the first line and what stands behind it are the text
line_and_rest : (t : List ℕ) → length (first_line t) + length (after_line t) ≡ length t
line_and_rest [] = refl
line_and_rest (x ∷ t) =
    by_test (eqb x newline)
    (λ y. rw y (omega arith))
    (λ f. rw f (omega (arith, line_and_rest t)))

-- a first line that ends within t is the first line of t, and what stands behind it goes on with what comes behind t
pub record Within (t more : List ℕ) : Type 0 where
  pub line : first_line (t ++ more) ≡ first_line t
  pub rest : after_line (t ++ more) ≡ after_line t ++ more

within : (t more : List ℕ) → length (first_line t) < length t → Within t more
within [] more l = absurd (omega arith)
within (x ∷ t) more l =
    by_test (eqb x newline)
    (λ y. record { line = rw y; rest = rw y })
    (λ f.
    let w = within t more (omega (arith, rw f at l)) in
    record { line = rw f (ap (λ (s : List ℕ). x ∷ s) w.line); rest = rw f w.rest })

within_both : (t more : List ℕ) → length (first_line (t ++ more)) < length t → Within t more
within_both [] more l = absurd (omega arith)
within_both (x ∷ t) more l =
    by_test (eqb x newline)
    (λ y. record { line = rw y; rest = rw y })
    (λ f.
    let w = within_both t more (omega (arith, rw f at l)) in
    record { line = rw f (ap (λ (s : List ℕ). x ∷ s) w.line); rest = rw f w.rest })

-- AGREEMENT with a shorter text holds of a text and of what it begins
module _ (more : List ℕ) where
  -- one line, and then the lines behind it
  first_of : (k : ℕ) (t u : List ℕ) → Agree (suc k) t u → first_line t ≡ first_line u
  first_of k t u a = a 0 (omega arith)

  others_of : (k : ℕ) (t u : List ℕ) → Agree (suc k) t u → Agree k (after_line t) (after_line u)
  others_of k t u a j l = a (suc j) (omega arith)

  together : (k : ℕ) (t u : List ℕ) → first_line t ≡ first_line u → Agree k (after_line t) (after_line u) → Agree (suc k) t u
  together k t u e a zero l = e
  together k t u e a (suc j) l = a j (omega arith)

  shorter : (t u : List ℕ) → length u < length t → first_line t ≡ first_line u → length (after_line u) < length (after_line t)
  shorter t u l e = omega (arith, line_and_rest t, line_and_rest u, ap length e)

  pub agrees_on : (k : ℕ) (t u : List ℕ) → length u < length t → Agree k t u → Agree k (t ++ more) u
  agrees_on zero t u l a = λ j m. absurd (omega arith)
  agrees_on (suc k) t u l a =
      let e = first_of k t u a in
      let w = within t more (omega (arith, line_and_rest u, ap length e)) in
      together k (t ++ more) u (w.line ∙ e) (rw w.rest (agrees_on k (after_line t) (after_line u) (shorter t u l e) (others_of k t u a)))

  pub agreed : (k : ℕ) (t u : List ℕ) → length u < length t → Agree k (t ++ more) u → Agree k t u
  agreed zero t u l a = λ j m. absurd (omega arith)
  agreed (suc k) t u l a =
      let e = first_of k (t ++ more) u a in
      let w = within_both t more (omega (arith, line_and_rest u, ap length e)) in
      let i : first_line t ≡ first_line u = sym w.line ∙ e in
      together k t u i (agreed k (after_line t) (after_line u) (shorter t u l i) (rw w.rest at (others_of k (t ++ more) u a)))

-- SO IS THE FIRST BAD LINE
pub bad_all_the_same : (t more : List ℕ) (line : ℕ) → longest < length t → FirstBad t line → FirstBad (t ++ more) line
bad_all_the_same t more line l h = record {
  request = h.request;
  is_valid = h.is_valid;
  before = agrees_on more (line - 1) t (text_of h.request) (omega (arith, at_most_168 h.request h.is_valid)) h.before;
  none = λ r v a. h.none r v (agreed more line t (text_of r) (omega (arith, at_most_168 r v)) a);
}
