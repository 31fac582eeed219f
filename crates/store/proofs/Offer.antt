-- Offer: slot i takes a record and stands at the end of its class's queue. Assumes nothing.
use Prim.Native.Nat.{ℕ, ◌+◌, ◌-◌, ◌<◌}
use native.Mathlib.Omega.{arith}
use mathlib.Core.Path.{◌≡◌, refl, sym, ap, ◌∙◌, subst}
use mathlib.Core.Logic.{◌⊎◌, inr}
use mathlib.Core.Bool.{Bool, true, false, cond, ◌&&◌}
use mathlib.Core.Option.{none}
use mathlib.Core.List.{List, [], ◌∷◌, ◌++◌, map}
use lib.Dec.{ltb}
use lib.ListN.{length, set, length-append}
use lib.Seq.{get_or-set_same, get_or-set_other}
use borrow.Author.Tests.{eq-eqb, ne_eqb, lt-ltb}
use Rattle.plain.specs.Ops as P
use Rattle.plain.specs.Steps as K
use Rattle.plain.specs.Site as S
use Rattle.places.specs.Moves.{part}
use Rattle.slots.specs.Meaning.{entry_of, slot_free, is_used, slot_at}
use Rattle.slots.specs.Rules.{Holds}
use Rattle.slots.specs.declared.Slot.{Slot}
use Rattle.store.proofs.Canonical.{has_id, part_is, places_length, slot_stands, stands_there}
use Rattle.store.proofs.Lists.{map_append, map_set, push, times_append}
use Rattle.store.proofs.Relaid.{Queued, Slotted, at_stored, by_slot, items_kept, means, part_other, part_own, relaid}
use Rattle.store.specs.Meaning.{Same, items, len_of, places, plain, plain_class}
use Rattle.store.specs.Sound.{Laid, stands, stands_at, times}
use Rattle.store.specs.Steps.{placed}
use Rattle.store.specs.Store.{Shaped, Store, query_at}
use Rattle.usedmap.specs.Flags.{used_of}

module _ (s : Store) (w : Shaped s) (h : Laid s) (c i : ℕ) (v : Slot) (lo hi : ℕ) (l : c < 16) (m : i < 128) (free : slot_at s.slots i ≡ slot_free)
    (held : Holds v) (own : v.class ≡ c) (room : len_of s c < 136) (marked : used_of lo hi ≡ set (used_of s.low s.high) i true) where
  abbrev t : Store
  t = placed s c i v lo hi

  abbrev ps : List ℕ
  ps = places s c ++ (i ∷ [])

  ps_length : length ps ≡ len_of s c + 1
  ps_length = omega (arith, length-append (places s c) (i ∷ []), places_length s w h c l)

  queued : Queued s t c ps
  queued = record {
    fits = omega (arith, ps_length);
    len = get_or-set_same s.lens c (len_of s c + 1) 0 (omega (arith, w.lens)) ∙ sym ps_length;
    own = part_own s.queue c (len_of s c) i room
        ∙ push (part s.queue c) (places s c) (136 - len_of s c) (136 - length ps) 0 i (len_of s c) (part_is s w h c l) (places_length s w h c l) (omega (arith, ps_length));
    others = λ d k ne. (get_or-set_other s.lens c d (len_of s c + 1) 0 ne, part_other s.queue c d (len_of s c) i room ne);
  }

  inside : i < length s.slots
  inside = omega (arith, w.slots)

  -- the free slot stands nowhere
  nowhere : (d : ℕ) → d < 16 → times i (places s d) ≡ 0
  nowhere d k = h.exactly_once d i k ∙ slot_stands s d i m ∙ rw free

  slotted : Slotted s t c ps
  slotted = record {
    slots = λ j n. by_slot s.slots i v inside (λ j x. j < 128 → (x ≡ slot_free) ⊎ Holds x) (λ n. inr held) (λ j ne n. h.free_or_valid j n) j n;
    own = λ j. rw times_append (by_slot s.slots i v inside (λ j x. times j (places s c) + times j (i ∷ []) ≡ standing_with c j x)
        (rw (nowhere c l, eq-eqb i i refl, lt-ltb i 128 m) (sym (subst (λ (d : ℕ). stands d v ≡ 1) own (stands_there v held))))
        (λ j ne. rw (ne_eqb i j (λ e. ne (sym e))) (omega (arith, h.exactly_once c j l))) j);
    others = λ d j k ne. by_slot s.slots i v inside (λ j x. standing_with d j x ≡ stands_at s d j)
        (rw (lt-ltb i 128 m, free, own, ne_eqb c d (λ e. ne (sym e))) (off (is_used v))) (λ j n. refl) j;
    used = marked ∙ rw (h.map_agrees, map_set) (ap (set (map is_used s.slots) i) (sym is_used_lem));
  }
    where
      standing_with : ℕ → ℕ → Slot → ℕ
      standing_with c b x = cond (ltb b 128) (stands c x) (cond (S.named (query_at s.queries (b - 128)).classes c) 1 0)

      off : (b : Bool) → ◌≡◌ {A = ℕ} (cond (b && false) 1 0) 0
      off true = refl
      off false = refl

      is_used_lem : is_used v ≡ true
      is_used_lem = let n = has_id v held in rw (ne_eqb v.id 0 (omega arith))

  pub offer_laid : Laid t
  offer_laid = relaid s t c ps queued h slotted h.unused_zero h.free_queries_zero

  pub old_items : (d : ℕ) → d < 16 → items t.slots s.queries (places s d) ≡ items s.slots s.queries (places s d)
  old_items d k = items_kept s.slots i v inside s.queries (places s d) (nowhere d k)

  module _ (base wrk : List ℕ) (r : P.Request) (new : entry_of i v ≡ K.new_entry r i) where
    pub offer_means : Same (plain t base wrk) (S.in_class (plain s base wrk) c none (K.offer_step r i ((plain s base wrk).class c))).site
    unfolding plain plain_class K.offer_step
    offer_means = means s t c ps queued base wrk base wrk none (K.offer_step r i ((plain s base wrk).class c))
        (rw (map_append, old_items c l, lt-ltb i 128 m, at_stored s.slots i v inside, new)) refl refl (λ d k ne. old_items d k) (λ d k ne. (refl, refl)) (omega arith) (omega arith) refl (λ n r. refl)
