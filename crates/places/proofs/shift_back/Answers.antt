-- `places::shift_back` meets its contract. At each turn the list is as if what stood at i had gone there from `from`; the last store puts
-- there what stood at `from`. Assumes nothing.
use Prim.Native.Nat.{◌+◌, ◌-◌}
use mathlib.Core.Path.{◌≡◌, sym}
use native.Mathlib.Omega.{arith}
use lib.ListN.{get_or}
use borrow.Author.Rules.{rules}
use Rattle.places.proofs.Shift.{moved_stay, moved_set, moved_turn}
use Rattle.places.proofs.shift_back.Goals as goal

pub loop-i-init : goal.loop-i-init
loop-i-init c =
    let a = c.args in
    (search rules, search rules, search rules, sym (moved_stay a.q.now a.from (omega arith) 0))

pub loop-i-preserved : goal.loop-i-preserved
loop-i-preserved c =
    let a = c.args in
    let s = c.loop-i in
    let turn = moved_turn a.q.now a.from (omega arith) s.i 0 (omega arith) (omega arith) in
    let behind : s.i - 1 + 1 ≡ s.i = omega arith in
    (search rules, search rules, search rules, rw (s.invariant.3, behind) turn)

pub returns : goal.returns
returns c =
    let a = c.args in
    let s = c.loop-i in
    let l = a.q.now in
    let e : s.i ≡ a.to = omega arith in
    rw (s.invariant.3, e) (moved_set l a.from (omega arith) a.to (get_or l a.from 0) (get_or l a.to 0) (omega arith))
