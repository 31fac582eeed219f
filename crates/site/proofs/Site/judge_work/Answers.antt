-- `Site::judge_work` meets its contract: each way out is a row of the table, or there is work. Assumes nothing.
use native.Mathlib.Omega.{arith}
use Rattle.site.proofs.Ways.{on_sound}
use Rattle.store.proofs.Work.{work_class, work_empty, work_idle}
use Rattle.site.proofs.Site.judge_work.Goals as goal

pub returns-then-class-ge-CLASSES : goal.returns-then-class-ge-CLASSES
returns-then-class-ge-CLASSES c =
    on_sound c.well_formed.0 c.in_ok-door.ensures (λ w r q. work_class _ w r q c.args.class c.if-class-ge-CLASSES.true)

pub returns-then-self-c-eq0 : goal.returns-then-self-c-eq0
returns-then-self-c-eq0 c =
    on_sound c.well_formed.0 c.in_ok-door.ensures (λ w r q. work_empty _ w r q c.args.class c.if-class-ge-CLASSES.false (omega (arith, c.if-self-c-eq0.true)))

pub returns-then-b-ge-SLOT_LIMIT : goal.returns-then-b-ge-SLOT_LIMIT
returns-then-b-ge-SLOT_LIMIT c =
    let o = c.in_ok-door.ensures in
    record {
      right = o.0;
      sound = o.1;
      class = c.if-class-ge-CLASSES.false;
      some = omega (arith, c.if-self-c-eq0.false);
      unfinished = λ m. absurd (omega (arith, m, c.if-b-ge-SLOT_LIMIT.true));
    }

pub returns-then-v : goal.returns-then-v
returns-then-v c =
    on_sound c.well_formed.0 c.in_ok-door.ensures (λ w r q. work_idle _ w r q c.args.class c.if-class-ge-CLASSES.false
    (omega (arith, c.if-self-c-eq0.false)) c.if-b-ge-SLOT_LIMIT.false c.if-v.true)

pub returns : goal.returns
returns c =
    let o = c.in_ok-door.ensures in
    record {
      right = o.0;
      sound = o.1;
      class = c.if-class-ge-CLASSES.false;
      some = omega (arith, c.if-self-c-eq0.false);
      unfinished = λ m. c.if-v.false;
    }
