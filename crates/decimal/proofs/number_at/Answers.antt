-- The first byte is a digit, or no number stands there. Assumes nothing.
use Rattle.std.proofs.Common.{◌≡◌, ℕ, ◌+◌, ◌<◌, List, ◌++◌, length, get_or, drop, ◌∙◌, sym, arith}
use lib.ListN.{drop_of_length-le}
use Rattle.decimal.specs.Decimal.{decimal}
use Rattle.decimal.proofs.Runs.{one_digit, no_text, no_digit, at_place}
use Rattle.decimal.proofs.number_at.Goals as goal

-- the first digit
first_digit : (text : List ℕ) (at d : ℕ) → at < length text → d < 10 → get_or text at 0 ≡ 48 + d
    → drop at text ≡ decimal d ++ drop (at + 1) text
first_digit text at d l h e = rw (at_place text at l, e, one_digit d h)

pub returns-in_err-get-clause-number_at : goal.returns-in_err-get-clause-number_at
returns-in_err-get-clause-number_at c =
    let past = c.in_err-get.ensures.lookup.3 in
    rw (c.from_residual.ensures, drop_of_length-le c.args.text.now {i = c.args.at} past) (no_text _ _ (λ d. omega arith))

pub returns-in_err-first-clause-number_at : goal.returns-in_err-first-clause-number_at
returns-in_err-first-clause-number_at c =
    let at_byte = c.in_ok-get.ensures.lookup.3 in
    rw (c.from_residual-in_err-first.ensures, at_place c.args.text.now c.args.at at_byte.0, ← at_byte.1 0)
    (no_digit _ _ (λ d. omega arith) _ _ c.in_err-first.ensures)

pub number_from-requires-clause-from_in_bounds : goal.number_from-requires-clause-from_in_bounds
number_from-requires-clause-from_in_bounds c =
    let at_byte = c.in_ok-get.ensures.lookup.3 in
    let digit = c.in_ok-first.ensures in
    (omega (arith, at_byte.0), first_digit _ _ _ at_byte.0 digit.0 (sym (at_byte.1 0) ∙ digit.1))
