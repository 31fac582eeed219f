-- Events written out, and the call that each asks for; the fields differ, so that none is taken for another. Assumes nothing.
use Prim.Native.Nat.{ℕ}
use mathlib.Core.Path.{◌≡◌, refl}
use mathlib.Core.Option.{none, some}
use mathlib.Core.List.{List, ◌∷◌, ◌++◌}
use lib.ListN.{take, replicate}
use Rattle.plain.specs.Site.{offer, confirm, work, read}
use Rattle.event.specs.Event.{call_of}

-- a record that begins with 11, 12, 13, 14
abbrev bytes_of_record : List ℕ
bytes_of_record = 11 ∷ 12 ∷ 13 ∷ 14 ∷ replicate 60 9

-- class 5, cell 6, the unused byte 7, the number 1 + 256 * 2
abbrev event : ℕ → List ℕ
event kind = kind ∷ 5 ∷ 6 ∷ 7 ∷ 1 ∷ 2 ∷ 0 ∷ 0 ∷ bytes_of_record

pub is_offer : call_of (event 1) ≡ some (offer bytes_of_record)
unfolding call_of
is_offer = refl

pub is_confirm : call_of (event 2) ≡ some (confirm 235736075 513)
unfolding call_of
is_confirm = refl

pub is_work : call_of (event 3) ≡ some (work 5)
unfolding call_of
is_work = refl

pub is_read : call_of (event 4) ≡ some (read 5 6)
unfolding call_of
is_read = refl

pub is_no_kind : (call_of (event 0) ≡ none) × (call_of (event 5) ≡ none)
unfolding call_of
is_no_kind = (refl, refl)

-- a byte short, and a byte more
pub is_no_event : (call_of (take 71 (event 1)) ≡ none) × (call_of (event 1 ++ replicate 1 0) ≡ none)
unfolding call_of
is_no_event = (refl, refl)
