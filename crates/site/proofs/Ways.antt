-- Where two ways through a function meet, what holds on one of them holds behind it; and a call behind the door is the plain call. Assumes nothing.
use mathlib.Core.Path.{◌≡◌, refl, sym, subst}
use Prim.Native.Nat.{ℕ}
use mir.Val.{Val}
use denote.Laws.{Is}
use denote.Struct.Declared as Declared
use mathlib.Core.Bool.{true, false, true≢false, false≢true}
use mathlib.Core.List.{List}
use Rattle.std.proofs.Common.{Option, Some, None, IsSome, IfSome, IfNone, is_some}
use Rattle.slots.specs.declared.Slot.{Slot}
use Rattle.plain.specs.Steps.{Answer}
use Rattle.plain.specs.Site.{Call}
use Rattle.store.specs.Calls.{State, RightCells, SoundState, Did, Called}
use Rattle.store.specs.Store.{Shaped}
use Rattle.store.proofs.Promise.{called_did}
use Rattle.site.specs.declared.Site.{Site}
use Rattle.site.specs.contracts.Site as T
use Rattle.site.proofs.Shape.{shaped}
use Rattle.site.specs.Held.{store, state_of, SlotOf}

-- what holds of two values holds of those equal to them
pub carried : {A B : Type 0} (W : A → B → Type 0) {s s' : A} {v v' : B} → s ≡ s' → v ≡ v' → W s' v' → W s v
carried {A} W {s' = s'} {v = v} e f h = subst (λ (a : A). W a v) (sym e) (subst (W s') (sym f) h)

-- a search that says whether it found a slot
pub present : (slots : List Slot) (id : ℕ) (r : Option ℕ) → is_some r ≡ true → SlotOf slots id r → (i : ℕ) × SlotOf slots id (Some i)
present slots id None e s = absurd (false≢true e)
present slots id (Some i) e s = (i, s)

pub missing : (slots : List Slot) (id : ℕ) (r : Option ℕ) → is_some r ≡ false → SlotOf slots id r → SlotOf slots id None
missing slots id None e s = s
missing slots id (Some i) e s = absurd (true≢false e)

-- what holds of what is there
pub in_some : {T : Type 0} (P : T → Type 0) (r : Option T) (w : T) → r ≡ Some w → IfSome r P → P w
in_some {T} P r w e h = subst (λ (q : Option T). IfSome q P) e h

-- something is there where that there is nothing does not hold
pub is_there : {T : Type 0} (P : Type 0) (r : Option T) → IfNone r P → (P → ⊥) → IsSome r
is_there P None h n = absurd (n h)
is_there P (Some x) h n = refl

-- a call behind the door: its site is sound, so it is what the plain call is
pub on_sound : {s : Site} {vs : List Val} {base wrk : List ℕ} {k : Call} {y : State} {a : Answer} → Is (Declared.row T.the_type) s vs
    → RightCells (state_of s base wrk) × SoundState (state_of s base wrk)
    → (Shaped (store s) → RightCells (state_of s base wrk) → SoundState (state_of s base wrk) → Did (state_of s base wrk) k y a)
    → Called (state_of s base wrk) k y a
on_sound g o d = called_did _ _ _ _ o.0 o.1 (d (shaped _ _ g) o.0 o.1)
