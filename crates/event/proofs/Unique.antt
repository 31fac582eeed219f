-- Any two outcomes of an event are equal, and any two of its lines. Assumes nothing.
use Prim.Native.Nat.{ℕ}
use mathlib.Core.Path.{◌≡◌, refl, sym, ap, ◌∙◌}
use mathlib.Core.Option.{Option, none, some}
use mathlib.Core.List.{List}
use Rattle.plain.specs.Steps.{Answer}
use Rattle.plain.specs.Site.{Call}
use Rattle.store.specs.Calls.{State}
use Rattle.promises.proofs.Promises.{promises}
use Rattle.line.specs.Text.{line_of}
use Rattle.event.specs.Event.{call_of, Happened, Listed}

pub one_outcome : {x y z : State} {b : List ℕ} {a c : Answer} → Happened x b y a → Happened x b z c → (y ≡ z) × (a ≡ c)
one_outcome {x} {y} {z} {b} {a} {c} h k = go (call_of b) refl
  where
    go : (o : Option Call) → call_of b ≡ o → (y ≡ z) × (a ≡ c)
    go none e = let p = h.bad e in let q = k.bad e in (p.0 ∙ sym q.0, p.1 ∙ sym q.1)
    go (some i) e = promises.one_outcome (h.is_call i e).happens (k.is_call i e).happens

pub one_line : {x y z : State} {place : ℕ} {b t u : List ℕ} → Listed x place b y t → Listed x place b z u → (y ≡ z) × (t ≡ u)
one_line {place = place} l m =
    let same = one_outcome l.happened m.happened in
    (same.0, l.says ∙ ap (line_of place) same.1 ∙ sym m.says)
