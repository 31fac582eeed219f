-- What the declared types say of every site: the arrays' lengths and the words' ranges. `shaped _ _ c.good.0` is that of a parameter, in a function's proof. Assumes nothing.
use Prim.Native.Nat.{ℕ, zero, suc, ◌<◌, ◌^◌}
use native.Mathlib.Omega.{arith}
use mathlib.Core.Path.{◌≡◌}
use mathlib.Core.List.{List, [], ◌∷◌}
use lib.ListN.{length}
use mir.Val.{Val}
use denote.Laws.{Is}
use denote.Array.{each}
use denote.Shadow.{shadow}
use denote.Struct.Declared as Declared
use Rattle.site.specs.declared.Site.{Site}
use Rattle.site.specs.Held.{store}
use Rattle.slots.specs.declared.Slot.{Slot}
use Rattle.slots.specs.Meaning.{slot_at}
use Rattle.store.specs.Store.{Shaped, query_at}
use Rattle.queries.specs.declared.Query.{Query}
use Rattle.queries.specs.contracts.Query as M
use Rattle.site.specs.contracts.Site as T
use Rattle.slots.specs.contracts.Slot as L
use Rattle.slots.proofs.Shape.{seven, id_fits}

module _ (P : Slot → Type 0) (say : (v : Slot) (vs : List Val) → Is (Declared.row L.the_type) v vs → P v) where
  -- what the type says of one slot it says of each
  each_slot : (l : List Slot) (us : List Val) → shadow (each (L.the_row).Denot (L.the_row).own_val l us)
      → (i : ℕ) → i < length l → P (slot_at l i)
  each_slot [] us g i h = absurd (omega arith)
  each_slot (v ∷ l) [] g i h = absurd g
  each_slot (v ∷ l) (u ∷ us) g zero h = say v _ g.0
  each_slot (v ∷ l) (u ∷ us) g (suc i) h = each_slot l us g.1 i (omega arith)

-- and of each query; what stands past the end is free
each_mask : (l : List Query) (us : List Val) → shadow (each (M.the_row).Denot (M.the_row).own_val l us)
    → (p : ℕ) → (query_at l p).classes < 2 ^ 16
each_mask [] us g p = omega arith
each_mask (v ∷ l) [] g p = absurd g
each_mask (v ∷ l) (u ∷ us) g zero = g.0.1.1.0.1
each_mask (v ∷ l) (u ∷ us) g (suc p) = each_mask l us g.1 p

pub shaped : (s : Site) (vs : List Val) → Is (Declared.row T.the_type) s vs → Shaped (store s)
shaped s vs g =
    let n : length s.slots ≡ 128 = g.1.1.0.1.0.1 in
    record {
      slots = n;
      ops = λ i l. each_slot (λ v. length v.ops ≡ 7) seven s.slots _ g.1.1.0.1.1 i (omega arith);
      ids = λ i l. each_slot (λ v. v.id < 2 ^ 32) id_fits s.slots _ g.1.1.0.1.1 i (omega arith);
      queue = g.1.1.1.0.1.0.1;
      lens = g.1.1.1.1.0.1.0.1;
      low = g.1.1.1.1.1.0.1.1.0.1;
      high = g.1.1.1.1.1.0.1.1.1.0.1;
      kept = g.1.1.1.1.1.1.1.1.0.1.0.1;
      queries = g.1.1.1.1.1.1.1.1.1.0.1.0.1;
      masks = each_mask s.queries _ g.1.1.1.1.1.1.1.1.1.0.1.1;
      sums = g.1.1.1.1.1.1.1.1.1.1.1.0.1.0.1;
    }
