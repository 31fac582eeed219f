-- The digits so far are those of the value so far; each way out says why no number stands there, or that one does. Assumes nothing.
use Rattle.std.proofs.Common.{◌≡◌, ℕ, ◌+◌, ◌<◌, List, [], ◌∷◌, ◌++◌, length, get_or, drop, ◌∙◌, ap, arith}
use lib.ListN.{drop_of_length-le}
use Rattle.decimal.specs.Decimal.{decimal}
use Rattle.decimal.proofs.Runs.{ended, stopped, zero_first, too_large, longer, at_place, went_past}
use Rattle.decimal.proofs.number_from.Goals as goal

-- the byte behind the digits so far
behind : (text : List ℕ) (at i value : ℕ) → i < length text → drop at text ≡ decimal value ++ drop i text
    → drop at text ≡ decimal value ++ (get_or text i 0 ∷ drop (i + 1) text)
behind text at i value l e = e ∙ ap (λ (t : List ℕ). decimal value ++ t) (at_place text i l)

-- and where it is a digit
digit_behind : (text : List ℕ) (at i value d : ℕ) → i < length text → drop at text ≡ decimal value ++ drop i text → get_or text i 0 ≡ 48 + d
    → drop at text ≡ decimal value ++ ((48 + d) ∷ drop (i + 1) text)
digit_behind text at i value d l e f = rw f at (behind text at i value l e)

pub returns-then-byte-stop-clause-ends_at : goal.returns-then-byte-stop-clause-ends_at
returns-then-byte-stop-clause-ends_at c = went_past c.args.text.now _ _ _ (omega arith) (omega arith) c.loop-i.invariant.digits

pub returns-in_err-more-clause-number_at : goal.returns-in_err-more-clause-number_at
returns-in_err-more-clause-number_at c =
    let p = behind c.args.text.now c.args.at c.loop-i.i c.loop-i.value (omega arith) c.loop-i.invariant.digits in
    rw c.from_residual.ensures (stopped _ _ (λ d. omega arith) _ _ _ _ c.in_err-more.ensures c.if-byte-stop.false p)

pub returns-then-value-eq0-clause-number_at : goal.returns-then-value-eq0-clause-number_at
returns-then-value-eq0-clause-number_at c =
    let d = c.in_ok-more.ensures in
    let z : c.loop-i.value ≡ 0 = c.if-value-eq0.true in
    let p = digit_behind c.args.text.now c.args.at c.loop-i.i c.loop-i.value c.in_ok-more.field-0 (omega arith) c.loop-i.invariant.digits d.1 in
    zero_first _ _ (λ e. omega arith) _ _ _ (omega arith, omega (arith, d.0)) (rw z at p)

pub returns-then-most-more-clause-number_at : goal.returns-then-most-more-clause-number_at
returns-then-most-more-clause-number_at c =
    let d = c.in_ok-more.ensures in
    let p = digit_behind c.args.text.now c.args.at c.loop-i.i c.loop-i.value c.in_ok-more.field-0 (omega arith) c.loop-i.invariant.digits d.1 in
    too_large _ _ (λ e. omega arith) _ _ _ _ d.0 (omega arith) c.if-most-more.true p

pub loop-i-preserved : goal.loop-i-preserved
loop-i-preserved c =
    let d = c.in_ok-more.ensures in
    let p = digit_behind c.args.text.now c.args.at c.loop-i.i c.loop-i.value c.in_ok-more.field-0 (omega arith) c.loop-i.invariant.digits d.1 in
    record { small = omega arith; digits = longer _ _ _ _ d.0 (omega arith) p }

pub returns-clause-number_at : goal.returns-clause-number_at
returns-clause-number_at c =
    let e : drop c.loop-i.i c.args.text.now ≡ [] = drop_of_length-le c.args.text.now {i = c.loop-i.i} (omega arith) in
    ended _ _ (λ d. omega arith) _ _ (rw e at c.loop-i.invariant.digits)
