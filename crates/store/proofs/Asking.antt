-- Read and look on a sound site. Assumes nothing.
use Prim.Native.Nat.{ℕ, ◌+◌, ◌*◌, ◌<◌, ◌≤◌}
use native.Mathlib.Omega.{arith}
use mathlib.Core.Path.{◌≡◌, refl, sym, ap, ◌∙◌}
use mathlib.Core.Bool.{true, false}
use mathlib.Core.Option.{some}
use mathlib.Core.List.{List, [], ◌∷◌}
use lib.Dec.{eqb, ltb}
use lib.ListN.{get_or, drop}
use lib.Seq.{get_or-take, get_or-drop}
use borrow.Author.Tests.{eqb-true, eq-eqb, ne_eqb, lt-ltb, le-ltb, le-leb, lt-leb, ltb-true}
use Rattle.plain.specs.Queue as Q
use Rattle.plain.specs.Steps as K
use Rattle.plain.specs.Site as S
use Rattle.plain.proofs.Tests.{by_test, no}
use Rattle.slots.specs.Meaning.{entry_of, slot_at}
use Rattle.slots.specs.Rules.{Holds}
use Rattle.slots.specs.declared.Slot.{Slot}
use Rattle.store.proofs.Asked.{id_found, id_absent, there, one_id}
use Rattle.store.proofs.Canonical.{slot_item}
use Rattle.store.proofs.Meant.{to_plain, used_holds}
use Rattle.store.proofs.Offered.{accepted_call, not_done, same_refl}
use Rattle.store.specs.Calls.{Did, RightCells, SoundState, State}
use Rattle.store.specs.Meaning.{item_at, items, places, plain, plain_class, queue_of}
use Rattle.store.specs.Sound.{times}
use Rattle.queries.specs.declared.Query.{Query}
use Rattle.store.specs.Store.{Shaped, Store}

-- a call that changes nothing
pub only_answers : (x : State) (k : S.Call) (a : K.Answer) → RightCells x → SoundState x
    → S.call (plain x.site x.committed x.working) k ≡ record { site = plain x.site x.committed x.working; answer = a } → Did x k x a
only_answers x k a r q e = record { cells = r; sound = q; site = rw e (same_refl (plain x.site x.committed x.working)); answer = rw e }

module _ (x : State) (w : Shaped x.site) (r : RightCells x) (q : SoundState x) (c k : ℕ) where
  abbrev p : S.Site
  p = plain x.site x.committed x.working

  pub read_class : 16 ≤ c → Did x (S.read c k) x (K.refused 10)
  unfolding S.refusal
  read_class h = not_done x (S.read c k) 10 r q (omega arith) (rw (le-leb 16 c h))

  pub read_cell : c < 16 → 64 ≤ k → Did x (S.read c k) x (K.refused 12)
  unfolding S.refusal
  read_cell l h = not_done x (S.read c k) 12 r q (omega arith) (rw (lt-leb 16 c l, le-leb 64 k h))

  pub read_value : c < 16 → k < 64 → Did x (S.read c k) x (K.value (get_or x.committed (64 * c + k) 0))
  unfolding S.refusal S.act plain plain_class
  read_value l h = only_answers x (S.read c k) _ r q
      (accepted_call p (S.read c k) (rw (lt-leb 16 c l, lt-leb 64 k h))
      ∙ ap (λ (n : ℕ). record { site = p; answer = K.value n }) (get_or-take 64 (drop (64 * c) x.committed) k 0 h ∙ get_or-drop (64 * c) x.committed k 0))

-- the first with an id is the one that has it
first_at : (l : List Slot) (qs : List Query) (j : ℕ) (ps : List ℕ) → j < 128 → 0 < times j ps → ((y : ℕ) → y < 128 → 0 < times y ps → (slot_at l y).id ≡ (slot_at l j).id → y ≡ j)
    → Q.first_of (Q.id_is (slot_at l j).id) (items l qs ps) ≡ some (Q.booking (entry_of j (slot_at l j)))
first_at l qs j [] m h o = absurd (omega arith)
first_at l qs j (y ∷ ps) m h o =
    by_test (Q.id_is (slot_at l j).id (item_at l qs y))
    (λ t. let e = is y t in rw t (ap (λ (k : ℕ). some (item_at l qs k)) e ∙ ap some (slot_item l qs j m)))
    (λ f. rw f (first_at l qs j ps m (later f) (λ z n k. o z n (by_test (eqb y z) (λ t. rw t (omega arith)) (λ g. rw g k)))))
  where
    is : (x : ℕ) → Q.id_is (slot_at l j).id (item_at l qs y) ≡ true → y ≡ j
    is x t =
        by_test (ltb y 128)
        (λ u. o y (ltb-true y 128 u) (rw (eq-eqb y y refl) (omega arith)) (eqb-true (slot_at l y).id (slot_at l j).id (rw u at t)))
        (λ u. no _ (rw u at t) refl)

    later : Q.id_is (slot_at l j).id (item_at l qs y) ≡ false → 0 < times j ps
    later f = by_test (eqb y j)
        (λ t. no _ (ap (λ (k : ℕ). Q.id_is (slot_at l j).id (item_at l qs k)) (eqb-true y j t) ∙ ap (Q.id_is (slot_at l j).id) (slot_item l qs j m) ∙ eq-eqb (slot_at l j).id (slot_at l j).id refl) f)
        (λ g. rw g at h)

module _ (x : State) (w : Shaped x.site) (r : RightCells x) (q : SoundState x) where
  abbrev s : Store
  s = x.site

  module _ (n : ℕ) where
    pub look_unknown : ((j : ℕ) → j < 128 → 0 < (slot_at s.slots j).id → (slot_at s.slots j).id ≡ n → ⊥) → Did x (S.look n) x (K.refused 8)
    unfolding S.refusal
    look_unknown e = not_done x (S.look n) 8 r q (omega arith)
        (rw (le-ltb (S.class_of (plain s x.committed x.working) n) 16 (omega (arith, id_absent s w q.laid x.committed x.working n e))))

    module _ (j : ℕ) (m : j < 128) (e : (slot_at s.slots j).id ≡ n) (pos : 0 < n) where
      abbrev u : Slot
      u = slot_at s.slots j

      pub found : (S.class_of (plain s x.committed x.working) n ≡ u.class) × (u.class < 16)
      found = let k = id_found s w q.laid x.committed x.working (to_plain s w.slots w.queries q.laid x.committed x.working q) j (omega arith) in
          (ap (S.class_of (plain s x.committed x.working)) (sym e) ∙ k.0, k.1)

      held : Holds u
      held = used_holds s w.slots w.queries q.laid j (rw (ne_eqb u.id 0 (omega arith)))

      -- where another place of the queue has the id, it is the same slot
      only : (y : ℕ) → y < 128 → 0 < times y (places s u.class) → (slot_at s.slots y).id ≡ u.id → y ≡ j
      only y l k d = one_id (λ i. (slot_at s.slots i).id) q.ids_differ y j l m (omega arith) d

      -- it stands in the queue of its class
      pub stands_there : 0 < times j (places s u.class)
      stands_there = omega (arith, there s w q.laid x.committed x.working j m held)

      pub entry : Q.entry_of n (queue_of s u.class) ≡ some (Q.booking (entry_of j u))
      entry = rw (← e) (first_at s.slots s.queries j (places s u.class) m stands_there only)

      answers : (a : K.Answer) → S.look_answer n (plain_class s x.committed x.working u.class) ≡ a → Did x (S.look n) x a
      unfolding S.refusal S.act plain
      answers a h = only_answers x (S.look n) a r q
          (accepted_call (plain s x.committed x.working) (S.look n) (rw (lt-ltb (S.class_of (plain s x.committed x.working) n) 16 (omega (arith, found.0, found.1))))
          ∙ ap (λ (b : K.Answer). record { site = plain s x.committed x.working; answer = b })
          (ap (λ (d : ℕ). S.look_answer n (plain_class s x.committed x.working d)) found.0 ∙ h))

      pub look_unconfirmed : u.number ≡ 0 → Did x (S.look n) x (K.unconfirmed u.backs)
      unfolding plain_class
      look_unconfirmed z = answers (K.unconfirmed u.backs) (rw (entry, le-ltb 0 u.number (omega arith)))

      pub look_waits : 0 < u.number → (k : ℕ) → k ≡ Q.owed u.id (queue_of s u.class) → Did x (S.look n) x (K.to_do k u.backs)
      unfolding plain_class
      look_waits z k t = answers (K.to_do k u.backs) (rw (entry, lt-ltb 0 u.number z) (ap (λ (a : ℕ). K.to_do a u.backs) (ap (λ (b : ℕ). Q.owed b (queue_of s u.class)) (sym e) ∙ sym t)))
