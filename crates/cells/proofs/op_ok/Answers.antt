-- A test for each rule; which operations use their second cell is read from the table, which is plain's. Assumes nothing.
use Rattle.std.proofs.Common.{◌≡◌, true, sym, arith, rules, ◌∙◌}
use Rattle.std.specs.Result.{is_err}
use Rattle.plain.proofs.Deciding.{decides_false, decides_as, decides_both, decides_eq, decides_ne, decides_lt}
use Rattle.cells.proofs.Codes.{byte_known, byte_unknown}
use Rattle.cells.proofs.Ops.{OpFacts, facts, from_facts, is_used_lem, not_used}
use Rattle.cells.proofs.op_ok.Goals as goal
use Rattle.cells.proofs.op_ok.Goals.{then-is_err-via-then-is_err, then-is_err-via-else-is_err+then-op-ge-CELLS}

pub returns-then-is_err : goal.returns-then-is_err
returns-then-is_err c =
    decides_false (λ h.
    let f : OpFacts c.args.op = facts h in
    elim c.then-is_err.branch [
      | then-is_err-via-then-is_err w ↦
          let e : is_err c.try_from.result ≡ true = sym c.is_err.ensures.value ∙ w.if-is_err.true in
          byte_unknown _ _ c.try_from.ensures e f.known.0 f.known.1
      | then-is_err-via-else-is_err+then-op-ge-CELLS w ↦ let g = w.if-op-ge-CELLS.true in omega arith
    ])

pub returns-then-op : goal.returns-then-op
returns-then-op c =
    let o = c.args.op in
    let k = byte_known _ _ c.try_from.ensures c.if-is_err.ensures.negation in
    let m = is_used_lem o.code k.1 c.if-op.true in
    decides_as
    (λ h. from_facts record {
      known = k;
      cell = omega arith;
      zero = λ s. absurd (omega arith);
      second = λ f. h;
      amount = search rules;
    })
    (λ h. (facts h).second m)
    (decides_both (decides_lt _ _) (decides_ne _ _))

pub returns-else-op : goal.returns-else-op
returns-else-op c =
    let o = c.args.op in
    let k = byte_known _ _ c.try_from.ensures c.if-is_err.ensures.negation in
    let l = not_used o.code k.1 c.if-op.false in
    decides_as
    (λ e. from_facts record {
      known = k;
      cell = omega arith;
      zero = λ s. e;
      second = λ f. absurd (omega arith);
      amount = search rules;
    })
    (λ h. (facts h).zero l)
    (decides_eq _ 0)
