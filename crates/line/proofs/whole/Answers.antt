-- After i turns the first i numbers stand behind the word, a blank before each. Assumes nothing.
use Prim.Native.Nat.{ℕ, ◌+◌, ◌≤◌, ◌<◌}
use native.Mathlib.Numerals.{add-one}
use native.Mathlib.Omega.{arith}
use mathlib.Core.Path.{◌≡◌, ◌∙◌, ap, refl, sym}
use mathlib.Core.List.{List, [], ◌∷◌, ◌++◌, append_assoc, append-nil}
use lib.ListN.{length, get_or, take}
use lib.Seq.{take-suc, take_all}
use borrow.Author.Rules.{rules}
use Rattle.decimal.specs.Decimal.{decimal, blanked}
use Rattle.line.specs.Text.{line_with}
use Rattle.line.proofs.Behind.{went_well}
use Rattle.line.proofs.whole.Goals as goal

-- the numbers with one more behind them
blanked-more : (ns : List ℕ) (n : ℕ) → blanked (ns ++ (n ∷ [])) ≡ blanked ns ++ (32 ∷ decimal n)
unfolding blanked
blanked-more [] n = append-nil (32 ∷ decimal n)
blanked-more (m ∷ ns) n =
    ap (λ (t : List ℕ). (32 ∷ decimal m) ++ t) (blanked-more ns n) ∙ sym (append_assoc (32 ∷ decimal m) (blanked ns) (32 ∷ decimal n))

-- a turn: a blank, and the number
one_more : (ns start now then after : List ℕ) (i : ℕ) → i < length ns → now ≡ start ++ blanked (take i ns) → then ≡ now ++ (32 ∷ [])
    → after ≡ then ++ decimal (get_or ns i 0) → after ≡ start ++ blanked (take (i + 1) ns)
one_more ns start now then after i h e f g =
    let d = decimal (get_or ns i 0) in
    let p : blanked (take (i + 1) ns) ≡ blanked (take i ns) ++ (32 ∷ d) = rw (add-one, take-suc ns i 0) (blanked-more (take i ns) (get_or ns i 0)) in
    rw (g, f, e, p) (append_assoc (start ++ blanked (take i ns)) (32 ∷ []) d ∙ append_assoc start (blanked (take i ns)) (32 ∷ d))

-- before the first turn the place, a blank and the word stand there
none_yet : (place : ℕ) (word now then behind : List ℕ) → now ≡ [] ++ decimal place → then ≡ now ++ (32 ∷ []) → behind ≡ then ++ word
    → behind ≡ (decimal place ++ (32 ∷ word)) ++ blanked []
unfolding blanked
none_yet place word now then behind e f g = rw (g, f, e) (append_assoc (decimal place) (32 ∷ []) word ∙ sym (append-nil (decimal place ++ (32 ∷ word))))

-- behind the last one comes the newline
ended : (place : ℕ) (word ns now then : List ℕ) (i : ℕ) → length ns ≤ i → now ≡ (decimal place ++ (32 ∷ word)) ++ blanked (take i ns)
    → then ≡ now ++ (10 ∷ []) → then ≡ line_with place word ns
unfolding line_with
ended place word ns now then i h e f =
    f ∙ ap (λ (t : List ℕ). t ++ (10 ∷ [])) (e ∙ ap (λ (t : List ℕ). (decimal place ++ (32 ∷ word)) ++ blanked t) (take_all i ns h))

pub loop-number-init : goal.loop-number-init
loop-number-init c =
    let word = went_well _ _ _ c.unwrap.ensures c.try_extend_from_slice.ensures.ok in (
      none_yet _ _ _ _ _ (c.put_number.ensures.line_after ∙ rw c.new-line.ensures refl) c.push.ensures.items word,
      omega (arith, went_well _ _ _ c.unwrap.ensures c.try_extend_from_slice.ensures.len, c.push.ensures.len, c.put_number.ensures.len_bound, ap (λ (t : List ℕ). length t) c.new-line.ensures, c.requires.word_len_bound),
    )

pub loop-number-preserved : goal.loop-number-preserved
loop-number-preserved c =
    let loop = c.loop-number in (
      one_more _ _ _ _ _ loop.number-index (search rules) loop.invariant.0 c.push-in-loop-number.ensures.items c.put_number-in-loop-number.ensures.line_after,
      omega (arith, loop.invariant.1, c.push-in-loop-number.ensures.len, c.put_number-in-loop-number.ensures.len_bound),
    )

pub returns : goal.returns
returns c = record {
  result_value = c.line_with_text.ensures.result_value ∙ ended _ _ _ _ _ c.loop-number.number-index c.loop-number-test.false c.loop-number.invariant.0 c.push-2.ensures.items;
  len_bound = c.line_with_text.ensures.len_bound;
  rest = c.line_with_text.ensures.rest;
}
