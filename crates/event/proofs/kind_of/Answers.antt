-- The kind is that of the first byte of 72, or none. Assumes nothing.
use Prim.Native.Nat.{ℕ}
use mathlib.Core.Path.{◌≡◌, refl}
use mathlib.Core.List.{List}
use lib.ListN.{length}
use Rattle.std.proofs.Common.{Result, Ok, Err}
use Rattle.plain.specs.Record.{byte}
use Rattle.site.specs.declared.refusal.Refusal.{Refusal}
use Rattle.event.specs.declared.Kind.{Kind}
use Rattle.event.specs.declared.Kind.TheVariants.{Offer, Confirm, Work, Read}
use Rattle.event.specs.Event.{event_size}
use Rattle.event.specs.Kinds.{KindOf, KindIn}
use Rattle.event.proofs.Events.{no_event, no_kind}
use Rattle.event.proofs.kind_of.Goals as goal

known : (b : List ℕ) (r : Result Kind Refusal) → length b ≡ event_size → KindOf (byte b 0) r → KindIn b r
known b (Ok kind) l k = (l, k)
known b (Err e) l k = (k.0, no_kind b l (k.1 Offer) (k.1 Confirm) (k.1 Work) (k.1 Read))

pub returns-then-bytes-ne-EVENT : goal.returns-then-bytes-ne-EVENT
returns-then-bytes-ne-EVENT c = (refl, no_event _ c.if-bytes-ne-EVENT.true)

pub returns : goal.returns
returns c = known _ _ c.if-bytes-ne-EVENT.false c.try_from.ensures
