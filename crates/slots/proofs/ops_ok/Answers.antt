-- All of the operations, each with its number. Assumes nothing.
use Rattle.std.proofs.Common.{rules, ◌≡◌, ℕ, ◌<◌, ◌≤◌, Bool, true, false, List, length, get_or, sym, subst, ◌∙◌, arith}
use Rattle.std.specs.Bool.{MatchBool}
use Rattle.std.specs.List.{AllWithin, HoldsAt, enumerate_from}
use Rattle.std.proofs.lemmas.Iterator.{cases_from_all, YieldsList-from_slice}
use Rattle.std.proofs.lemmas.Iterator.Consumers.{YieldsList-from_enumerate}
use Rattle.std.proofs.lemmas.List.FromFn.{length-enumerate_from, get_or-enumerate_from}
use borrow.Author.Tests.{tests}
use Rattle.plain.specs.Sizes.{most_ops}
use Rattle.plain.specs.Decides.{Decides}
use Rattle.plain.proofs.Deciding.{decides_true, decides_false}
use Rattle.cells.specs.declared.Op.{Op}
use Rattle.cells.specs.Ops.{OpOk, no_op}
use Rattle.slots.specs.declared.Slot.{Slot}
use Rattle.slots.specs.Meaning.{op_at}
use Rattle.slots.specs.Rules.{OpsOk}
use Rattle.slots.proofs.Shape.{seven}
use Rattle.slots.proofs.ops_ok.Goals as goal

-- the rule of an operation with its number
abbrev Rule : ℕ → ℕ × Op → Type 0
Rule count p = (p.0 < count → OpOk p.1) × (count ≤ p.0 → p.1 ≡ no_op)

module _ (v : Slot) (seven : length v.ops ≡ most_ops) where
  placed : List (ℕ × Op)
  placed = enumerate_from 0 v.ops

  long : length placed ≡ most_ops
  unfolding placed
  long = length-enumerate_from 0 v.ops ∙ seven

  at : (k : ℕ) → k < most_ops → get_or placed k (0, no_op) ≡ (k, op_at v k)
  unfolding placed
  at k l = get_or-enumerate_from 0 v.ops k (0, no_op) (omega arith) ∙ search rules

  decided : (r : Bool) → MatchBool r (AllWithin (Rule v.count) placed 0 (length placed)) ((k : ℕ) × (k < length placed) × HoldsAt (λ p. Rule v.count p → ⊥) placed k)
      → Decides r (OpsOk v)
  decided true h =
      decides_true (λ k l.
      let r = subst (Rule v.count) (at k l) (h k (0, no_op) (omega arith) (omega (arith, long))) in
      record { within = r.0; past = r.1 })
  decided false (k, l, h) =
      decides_false (λ ok.
      let s : k < most_ops = omega (arith, long) in
      let o = ok k s in
      h (0, no_op) (subst (Rule v.count) (sym (at k s)) (o.within, o.past)))

pub returns : goal.returns
unfolding placed
returns c =
    let v = c.args.v in
    decided v (seven v _ c.well_formed.0) _
    (cases_from_all _ _ _ (Rule v.count) (λ p. Rule v.count p → ⊥) c.all.ensures.ran
    (YieldsList-from_enumerate (YieldsList-from_slice v.ops cc) (search rules)) (λ x q k. search (rules, tests)) (λ x q k. search (rules, tests)))
