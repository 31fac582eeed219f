-- A slot's operations, done one by one: each makes of the cells what plain's run makes of one operation more, and where one declined its
-- place stays. Assumes nothing.
use Prim.Native.Nat.{ℕ, suc, ◌+◌, ◌-◌, ◌<◌}
use native.Mathlib.Omega.{arith}
use mathlib.Core.Path.{◌≡◌, sym, ap, ◌∙◌}
use mathlib.Core.Logic.{inl, inr}
use mathlib.Core.List.{List, [], ◌∷◌, ◌++◌}
use lib.ListN.{length, get_or, take, get_or-map}
use lib.Seq.{get_or-take, take-suc, take-add, length-take-le}
use Rattle.plain.specs.Sizes.{most_ops}
use Rattle.plain.specs.Ops as P
use Rattle.plain.specs.Sound.{Head, so_far}
use Rattle.plain.proofs.Items.{carry_append}
use Rattle.cells.specs.Ops.{no_op, op_of}
use Rattle.slots.specs.declared.Slot.{Slot}
use Rattle.slots.specs.Meaning.{op_at, request_of, entry_of}
use Rattle.slots.specs.Rules.{Holds}
use Rattle.slots.specs.Steps.{carried_at, tried_by, Marked, StepDone}
use Rattle.slots.proofs.Records.{ops_count}

-- where one declined its place stays
then_declined : (p : ℕ) (m : P.Ran) (f g : List ℕ → P.Ran) → ((r : List ℕ) → f r ≡ P.declined p → g r ≡ P.declined p)
    → P.and_then m f ≡ P.declined p → P.and_then m g ≡ P.declined p
then_declined p (P.carried r) f g h e = h r e
then_declined p (P.declined q) f g h e = e

declined_then : (p k : ℕ) (a b : List P.Op) (l : List ℕ) → P.carry_from k a l ≡ P.declined p → P.carry_from k (a ++ b) l ≡ P.declined p
declined_then p k [] b l e = let z : ◌≡◌ {A = ℕ} 0 1 = cc in absurd (omega arith)
declined_then p k (x ∷ a) b l e =
    then_declined p (P.carry_at k x l) (P.carry_from (suc k) a) (P.carry_from (suc k) (a ++ b)) (λ r. declined_then p (suc k) a b r) e

module _ (v : Slot) (seven : length v.ops ≡ most_ops) (h : Holds v) (base : List ℕ) (k : ℕ) (l : k < v.count) where
  pub one_more : (w : List ℕ) → P.carry_all (take k (request_of v).ops) base ≡ P.carried w
      → P.carry_all (take (suc k) (request_of v).ops) base ≡ carried_at v k w
  one_more w e =
      let os = (request_of v).ops in
      let n = ops_count v seven h in
      let is_op : get_or os k (op_of no_op) ≡ op_of (op_at v k) =
      get_or-map op_of (take v.count v.ops) k no_op ∙ ap op_of (get_or-take v.count v.ops k no_op l) in
      let place : suc k ≡ 1 + length (take k os) = omega (arith, length-take-le k os (omega arith)) in
      rw (take-suc os k (op_of no_op) (omega arith), carry_append 1 (suc k) (take k os) (get_or os k (op_of no_op)) base place, e, is_op)

  pub stays_declined : (n p : ℕ) → k < n → P.carry_all (take (suc k) (request_of v).ops) base ≡ P.declined p
      → P.carry_all (take n (request_of v).ops) base ≡ P.declined p
  stays_declined n p m e =
      let os = (request_of v).ops in
      let s : n ≡ suc k + (n - suc k) = omega arith in
      ap (λ (j : ℕ). P.carry_all (take j os) base) s ∙ rw take-add (declined_then p 1 (take (suc k) os) _ base e)

-- a head's mark and cells
pub marked : (i : ℕ) (v : Slot) (base w : List ℕ) → Head (entry_of i v) base w → Marked v base w
marked i v base w h = go (so_far (entry_of i v) base) h.mark h.cells
  where
    go : (t : P.Ran) → v.mark ≡ P.mark_of t → w ≡ P.leaves t base → Marked v base w
    go (P.carried l) m c = inl m
    go (P.declined p) m c = inr c

-- a step's outcome, by what the operation came to
pub step_as : (v : Slot) (base w w' : List ℕ) (m : ℕ) (t : P.Ran) → tried_by v w ≡ t → m ≡ P.mark_of t → w' ≡ P.leaves t base
    → StepDone v base w
    (record { id = v.id; class = v.class; count = v.count; ops = v.ops; number = v.number; done = v.done + 1; mark = m; backs = v.backs }) w'
step_as v base w w' m t h e f =
    let one : v.done + 1 ≡ suc v.done = omega arith in
    let mark : m ≡ P.mark_of (tried_by v w) = e ∙ ap P.mark_of (sym h) in
    record {
      slot = λ i. record { id = v.id; class = v.class; count = v.count; ops = v.ops; number = v.number; done = one i; mark = mark i; backs = v.backs };
      cells = f ∙ ap (λ (o : P.Ran). P.leaves o base) (sym h);
    }
