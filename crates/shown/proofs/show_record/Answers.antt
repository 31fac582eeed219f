-- `show_record` meets its contract: there is room for any text, so it is written, or the bytes are no record. Assumes nothing.
use Rattle.std.proofs.Common.{◌≡◌, ◌+◌, ◌-◌, [], arith, refl}
use Rattle.std.proofs.lemmas.Result.{err_from_is_err_and}
use Rattle.text.specs.Calls.{refusal_of}
use Rattle.refusal.proofs.Outcomes.{no_length}
use Rattle.shown.proofs.Showing.{none_shown, one_shown}
use Rattle.shown.proofs.show_record.Goals as goal

pub returns-in_err-n-clause-shows_one : goal.returns-in_err-n-clause-shows_one
returns-in_err-n-clause-shows_one c =
    let args = c.args in
    let p = err_from_is_err_and c.from_residual.result c.from_residual.ensures.1 in
    let e = c.in_err-n.field-0.0 in
    rw (p.1, p.2) (none_shown args.bytes.now args.text.now args.len c.requires (refusal_of e) _ _ c.in_err-n.ensures (no_length e))

pub overflow_add-result : goal.overflow_add-result
overflow_add-result c =
    let args = c.args in
    let shown = one_shown args.bytes.now args.text.now args.len c.requires _ _ [] c.in_ok-n.ensures _ refl in
    omega (arith, shown.1)

pub returns : goal.returns
returns c =
    let args = c.args in
    let n = c.in_ok-n.n in
    let shown = one_shown args.bytes.now args.text.now args.len c.requires _ _ _ c.in_ok-n.ensures n refl in
    let m : args.len + n - args.len ≡ n = omega arith in
    record {
      shows_one = rw m shown.0;
      len_bound = (omega arith, omega (arith, shown.1));
    }
