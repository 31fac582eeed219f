-- What was read is the record's request, and what is handed over is its text. Assumes nothing.
use Rattle.std.proofs.Common.{◌≡◌, ℕ, true, false, List, Result, Err, refl, sym, ap, ◌∙◌, subst}
use mathlib.Core.Option.{none-ne-some, some-injective}
use Rattle.std.proofs.lemmas.Result.{err_from_is_err_and}
use Rattle.plain.specs.Record.{is_record, request_in, request}
use Rattle.slots.specs.declared.Slot.{Slot}
use Rattle.slots.specs.Meaning.{request_of}
use Rattle.slots.specs.Rules.{ReadInto}
use Rattle.text.specs.declared.Refused.{Refused}
use Rattle.text.specs.declared.Refused.TheVariants.{NoRecord}
use Rattle.text.specs.Text.{text_of}
use Rattle.text.specs.Calls.{Answer, refused, Handed, Wrote}
use Rattle.text.proofs.write.Goals as goal

-- bytes that are no record, and bytes that are one
none_there : (bytes before : List ℕ) → is_record bytes ≡ false → Wrote bytes before (refused 3) before
unfolding request
none_there bytes before e = record { holds_record = λ r q. absurd (none-ne-some r (rw e at q)); no_record = λ q. (refl, refl) }

one_there : (bytes before after : List ℕ) (a : Answer) (v : Slot) → ReadInto bytes true v → (t : List ℕ) → t ≡ text_of (request_of v)
    → Handed t before a after → Wrote bytes before a after
unfolding request
one_there bytes before after a v h t e handed =
    let i : is_record bytes ≡ true = sym h.ok_is in
    record {
      holds_record = λ r q.
          let s : request_in bytes ≡ r = some-injective (request_in bytes) r (rw i at q) in
          subst (λ (x : List ℕ). Handed x before a after) (e ∙ ap text_of (h.request refl ∙ s)) handed;
      no_record = λ q. absurd (none-ne-some (request_in bytes) (sym (rw i at q)));
    }

pub returns-in_err-slot : goal.returns-in_err-slot
returns-in_err-slot c =
    let p = err_from_is_err_and c.from_residual.result c.from_residual.ensures.1 in
    let e = c.in_err-slot.ensures in
    let v : ◌≡◌ {A = Result Slot Refused} (Err c.in_err-slot.field-0.0) (Err NoRecord) = rw e.ok_part at e.value in
    let f : c.in_err-slot.field-0.0 ≡ NoRecord = cc in
    rw (p.1, p.2, f) (none_there _ _ (rw e.ok_part at c.read_record.ensures.none))

pub returns : goal.returns
returns c =
    let read : ReadInto c.args.bytes.now true c.in_ok-slot.slot = rw c.in_ok-slot.ensures.ok_part at c.read_record.ensures.some in
    one_there _ _ _ _ _ read _ c.put_text-n.ensures.to_after c.hand_over.ensures
