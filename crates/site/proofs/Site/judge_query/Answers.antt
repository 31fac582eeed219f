-- `Site::judge_query` meets its contract: each way out is a row of the table, or a query may begin. Assumes nothing.
use Prim.Native.Nat.{◌<◌, ◌^◌}
use native.Mathlib.Omega.{arith}
use Rattle.site.proofs.Ways.{on_sound}
use Rattle.store.proofs.Judged.{query_empty, query_full, query_last}
use borrow.Author.Rules.{rules}
use Rattle.site.proofs.Site.judge_query.Goals as goal

pub returns-then-mask-eq0 : goal.returns-then-mask-eq0
returns-then-mask-eq0 c =
    let small : c.args.mask < 2 ^ 16 = search rules in
    on_sound c.well_formed.0 c.in_ok-door.ensures (λ w r q. query_empty _ w r q c.args.mask small c.if-mask-eq0.true)

pub returns-in_default : goal.returns-in_default
returns-in_default c =
    let small : c.args.mask < 2 ^ 16 = search rules in
    on_sound c.well_formed.0 c.in_ok-door.ensures (λ w r q. query_full _ w r q c.args.mask small c.if-mask-eq0.false (omega (arith, c.in_default.ensures.none)))

pub returns-then-self-eq4294967295 : goal.returns-then-self-eq4294967295
returns-then-self-eq4294967295 c =
    let small : c.args.mask < 2 ^ 16 = search rules in
    let p = c.in-Some.ensures.some in
    on_sound c.well_formed.0 c.in_ok-door.ensures (λ w r q. query_last _ w r q c.args.mask small c.if-mask-eq0.false (omega (arith, p.0, p.1))
    (omega (arith, c.if-self-eq4294967295.true)))

pub returns : goal.returns
returns c =
    let o = c.in_ok-door.ensures in
    let p = c.in-Some.ensures.some in (
      record {
        right = o.0;
        sound = o.1;
        some = c.if-mask-eq0.false;
        free = omega (arith, p.0, p.1);
        more = omega (arith, c.if-self-eq4294967295.false, c.well_formed.0);
      },
      p.0,
    )
