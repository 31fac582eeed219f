-- What the reading of an event's kind promises. Assumes nothing.
use Rattle.std.specs.Prelude.{ℕ, ◌≡◌, List, length, Result, Ok, Err}
use Rattle.std.proofs.Math.Option.{none}
use Rattle.plain.specs.Record.{byte}
use Rattle.site.specs.declared.refusal.Refusal.{Refusal}
use Rattle.site.specs.declared.refusal.Refusal.TheVariants.{BadEvent}
use Rattle.event.specs.declared.Kind.{Kind}
use Rattle.event.specs.declared.Kind.TheVariants.{Offer, Confirm, Work, Read}
use Rattle.event.specs.Event.{event_size, call_of}

-- the byte of a kind
abbrev pub code_of : Kind → ℕ
code_of Offer = 1
code_of Confirm = 2
code_of Work = 3
code_of Read = 4

-- the kind that a byte stands for, or the refusal of a byte that stands for none
abbrev pub KindOf : ℕ → Result Kind Refusal → Type 0
KindOf b (Ok kind) = b ≡ code_of kind
KindOf b (Err r) = (r ≡ BadEvent) × ((kind : Kind) → b ≡ code_of kind → ⊥)

-- the kind of an event; or the refusal of bytes that ask for no call
abbrev pub KindIn : List ℕ → Result Kind Refusal → Type 0
KindIn bytes (Ok kind) = (length bytes ≡ event_size) × (byte bytes 0 ≡ code_of kind)
KindIn bytes (Err r) = (r ≡ BadEvent) × (call_of bytes ≡ none)
