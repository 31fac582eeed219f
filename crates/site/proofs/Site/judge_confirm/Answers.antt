-- `Site::judge_confirm` meets its contract: each way out is a row of the table, or the request may be confirmed. Assumes nothing.
use mathlib.Core.Path.{refl}
use native.Mathlib.Omega.{arith}
use Rattle.site.proofs.Ways.{on_sound}
use Rattle.store.proofs.Confirming.{all_taken, not_next, unknown, confirmed_already}
use Rattle.site.proofs.Site.judge_confirm.Goals as goal

pub returns-then-self : goal.returns-then-self
returns-then-self c =
    on_sound c.well_formed.0 c.in_ok-door.ensures (λ w r q. all_taken _ w r q c.args.id c.args.number (omega (arith, c.if-self.true)))

pub returns-then-number-self : goal.returns-then-number-self
returns-then-number-self c =
    on_sound c.well_formed.0 c.in_ok-door.ensures (λ w r q. not_next _ w r q c.args.id c.args.number
    (omega (arith, c.if-self.false, c.well_formed.0)) c.if-number-self.true)

pub returns-in_default : goal.returns-in_default
returns-in_default c =
    on_sound c.well_formed.0 c.in_ok-door.ensures (λ w r q. unknown _ w r q c.args.id c.args.number
    (omega (arith, c.if-self.false, c.well_formed.0)) c.if-number-self.false c.in_default.ensures)

pub returns-then-v-ne0 : goal.returns-then-v-ne0
returns-then-v-ne0 c =
    let f = c.in-Some.ensures in
    on_sound c.well_formed.0 c.in_ok-door.ensures (λ w r q. confirmed_already _ w r q c.args.id c.args.number
    (omega (arith, c.if-self.false, c.well_formed.0)) c.if-number-self.false c.in-Some.slot f.0 f.1 f.2 (omega (arith, c.if-v-ne0.true)))

pub returns : goal.returns
returns c =
    let o = c.in_ok-door.ensures in
    let f = c.in-Some.ensures in
    record {
      ready = record {
        right = o.0;
        sound = o.1;
        small = f.0;
        used = omega (arith, f.1, f.2);
        waits = omega (arith, c.if-v-ne0.false);
        more = omega (arith, c.if-self.false, c.well_formed.0);
      };
      is = f.1;
      next = c.if-number-self.false;
      class = refl;
    }
