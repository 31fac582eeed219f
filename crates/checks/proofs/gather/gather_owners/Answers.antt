-- After i turns it is decided whether the first i slots are in order, and their ids and classes are gathered. Assumes nothing.
use Prim.Native.Nat.{◌≤◌}
use native.Mathlib.Omega.{arith}
use mathlib.Core.Path.{◌≡◌}
use mathlib.Core.Logic.{◌⊎◌}
use borrow.Author.Count.{below_none}
use Rattle.plain.proofs.Deciding.{decides_true, decides_le, decides_both, decides_more}
use Rattle.slots.specs.Meaning.{slot_at, slot_free}
use Rattle.slots.specs.Rules.{Holds}
use Rattle.store.proofs.Gathered.{class_within, owned_none, owned_more, owned_all}
use Rattle.checks.proofs.gather.gather_owners.Goals as goal

pub loop-i-init : goal.loop-i-init
loop-i-init c = (decides_true (below_none _), owned_none c.args.slots)

pub loop-i-preserved : goal.loop-i-preserved
loop-i-preserved c =
    let loop = c.loop-i in
    let slots· = c.args.slots in
    let top· = c.args.top in (
      decides_more (λ k. ((slot_at slots· k ≡ slot_free) ⊎ Holds (slot_at slots· k)) × ((slot_at slots· k).backs ≤ top·)) loop.i loop.invariant.0
          (decides_both c.slot_ok.ensures (decides_le (slot_at slots· loop.i).backs top·)),
      owned_more slots· loop.all.ids loop.all.classes loop.i loop.invariant.1 c.loop-i-test.true,
    )

pub invariant_of-result : goal.invariant_of-result
invariant_of-result c =
    let loop = c.loop-i in
    let ordered = loop.invariant.0.yes c.if-not-fit.false in
    record { classed = λ i l. rw (loop.invariant.1.class.1 i (omega arith)) (class_within _ (ordered i (omega arith)).0) }

pub returns-clause-owned : goal.returns-clause-owned
returns-clause-owned c =
    owned_all c.args.slots c.loop-i.all.ids c.loop-i.all.classes c.loop-i.i c.loop-i.invariant.1 (omega arith) c.loop-i-test.false

pub returns-then-not-fit-clause-owned : goal.returns-then-not-fit-clause-owned
returns-then-not-fit-clause-owned c =
    owned_all c.args.slots c.loop-i.all.ids c.loop-i.all.classes c.loop-i.i c.loop-i.invariant.1 (omega arith) c.loop-i-test.false
