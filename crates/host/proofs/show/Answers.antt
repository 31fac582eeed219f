-- An entry's cells are those of its class; any other answer leaves the array. Assumes nothing.
use Prim.Native.Nat.{◌+◌, ◌*◌, ◌-◌}
use native.Mathlib.Omega.{arith}
use mathlib.Core.Path.{◌≡◌}
use Rattle.host.proofs.Told.{read_right, shown_entry, shown_other}
use Rattle.host.proofs.show.Goals as goal

pub overflow_mul-a : goal.overflow_mul-a
overflow_mul-a c = let r = read_right _ _ _ _ c.in-Entry.is c.requires in record { fits = omega (arith, r.1) }

pub overflow_add-b : goal.overflow_add-b
overflow_add-b c = let r = read_right _ _ _ _ c.in-Entry.is c.requires in record { fits = omega (arith, r.1) }

pub offset_bounds-committed-a : goal.offset_bounds-committed-a
offset_bounds-committed-a c = let r = read_right _ _ _ _ c.in-Entry.is c.requires in record { fits = omega (arith, r.1) }

pub returns-in-Entry : goal.returns-in-Entry
returns-in-Entry c =
    let args = c.args in
    let e : 64 * args.class + 64 - 64 * args.class ≡ 64 = omega arith in
    shown_entry args.answer _ _ _ _ c.in-Entry.is (rw e at c.copy_cells.ensures)

pub returns-in_default : goal.returns-in_default
returns-in_default c = shown_other c.args.answer _ _ c.in_default.not-Entry
