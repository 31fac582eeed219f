-- `places::close_up` meets its contract. At each turn what stood after `at` up to i has moved up; the last store clears the place that is left
-- over. Assumes nothing.
use Prim.Native.Nat.{suc, ◌-◌}
use mathlib.Core.Path.{◌≡◌, sym}
use native.Mathlib.Omega.{arith}
use borrow.Author.Rules.{rules}
use Rattle.places.proofs.Shift.{shifted_stay, shifted_turn, shifted_end}
use Rattle.places.proofs.close_up.Goals as goal

pub loop-i-init : goal.loop-i-init
loop-i-init c = (search rules, search rules, search rules, sym (shifted_stay c.args.q.now c.args.at))

pub loop-i-preserved : goal.loop-i-preserved
loop-i-preserved c =
    let a = c.args in
    let s = c.loop-i in
    let turn = shifted_turn a.q.now a.at s.i 0 (omega arith) (omega arith) in
    (search rules, search rules, search rules, rw s.invariant.3 turn)

pub returns : goal.returns
returns c =
    let a = c.args in
    let s = c.loop-i in
    let last : a.end - 1 ≡ s.i = omega arith in
    let e : a.end ≡ suc s.i = omega arith in
    rw (s.invariant.3, last, e) (shifted_end a.q.now a.at s.i (omega arith) (omega arith))
