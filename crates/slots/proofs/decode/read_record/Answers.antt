-- The length, the spare bytes and the rules of the slot that the bytes name: together they are what makes a record. Assumes nothing.
use native.Mathlib.Omega.{arith}
use Rattle.plain.proofs.Deciding.{holds}
use Rattle.slots.proofs.Reading.{Bytes, not_record, decides_record, refuted, a_record}
use Rattle.slots.proofs.decode.read_record.Goals as goal
use Rattle.slots.proofs.decode.read_record.Goals.{then-bytes-ne-RECORD-via-then-bytes-ne-RECORD, then-bytes-ne-RECORD-via-else-bytes-ne-RECORD+then-not-spare_zero}

pub returns-then-bytes-ne-RECORD-clause-none : goal.returns-then-bytes-ne-RECORD-clause-none
returns-then-bytes-ne-RECORD-clause-none c =
    let b = c.args.bytes.now in
    let bytes : Bytes b = λ i l. omega (arith, c.type_inv.bytes i) in
    elim c.then-bytes-ne-RECORD.branch [
      | then-bytes-ne-RECORD-via-then-bytes-ne-RECORD w ↦ not_record b w.if-bytes-ne-RECORD.true
      | then-bytes-ne-RECORD-via-else-bytes-ne-RECORD+then-not-spare_zero w ↦
          refuted b bytes w.if-bytes-ne-RECORD.false (λ z h. w.spare_zero.ensures.no w.if-not-spare_zero.true z)
    ]

pub returns-then-holds-clause-some : goal.returns-then-holds-clause-some
returns-then-holds-clause-some c =
    let b = c.args.bytes.now in
    let bytes : Bytes b = λ i l. omega (arith, c.type_inv.bytes i) in
    let slot-in = c.slot_in-slot in
    let h = (rw slot-in.ensures at c.holds.ensures).yes c.if-holds.true in
    let z = c.spare_zero.ensures.yes c.if-not-spare_zero.false in
    rw slot-in.ensures (a_record b (holds (decides_record b bytes c.if-bytes-ne-RECORD.false) (z, h)) h)

pub returns-else-holds-clause-none : goal.returns-else-holds-clause-none
returns-else-holds-clause-none c =
    let b = c.args.bytes.now in
    let bytes : Bytes b = λ i l. omega (arith, c.type_inv.bytes i) in
    let d = rw c.slot_in-slot.ensures at c.holds.ensures in
    refuted b bytes c.if-bytes-ne-RECORD.false (λ z h. d.no c.if-holds.false h)
