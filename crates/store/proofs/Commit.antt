-- Commit: the head leaves its queue, its slot is free, and the class's working cells become its committed ones. Assumes nothing.
use Prim.Native.Nat.{ℕ, suc, ◌+◌, ◌*◌, ◌-◌, ◌<◌, ◌≤◌}
use native.Mathlib.Omega.{arith}
use mathlib.Core.Path.{◌≡◌, refl, sym, ap, ◌∙◌}
use mathlib.Core.Logic.{◌⊎◌, inl, inr}
use mathlib.Core.Bool.{Bool, true, false, cond, ◌&&◌}
use mathlib.Core.Option.{none}
use mathlib.Core.List.{List, ◌∷◌, ◌++◌}
use lib.Dec.{eqb, ltb}
use lib.ListN.{length, get_or, drop, set, replicate, length-drop, get_or-eq_default}
use lib.Seq.{get_or-set_same, get_or-set_other, drop-cons, length-take-le}
use borrow.Author.Tests.{eqb-true, eq-eqb, ne_eqb, lt-ltb, ltb-true, ltb-false}
use borrow.Rule.Slice.PartMut.{put_mid}
use Rattle.plain.specs.Queue as Q
use Rattle.plain.specs.Steps as K
use Rattle.plain.specs.Site as S
use Rattle.places.proofs.Parts.{put_apart, put_own}
use Rattle.store.proofs.Lists.{first_off_lem}
use Rattle.places.specs.Moves.{first_off, part}
use Rattle.plain.proofs.Tests.{by_test}
use Rattle.slots.specs.Meaning.{slot_free, is_used, no_slot, slot_at}
use Rattle.slots.specs.Rules.{Holds}
use Rattle.slots.specs.declared.Slot.{Slot}
use Rattle.store.proofs.Canonical.{part_is, places_length, slot_stands}
use Rattle.store.proofs.Lists.{map_set, replicate_more}
use Rattle.store.proofs.Relaid.{Queued, Slotted, by_slot, items_kept, means, relaid}
use Rattle.store.proofs.Walk.{place_at}
use Rattle.store.specs.Meaning.{Same, cells_of, items, len_of, places, plain}
use Rattle.store.specs.Sound.{Laid, stands, stands_at, times}
use Rattle.store.specs.Store.{Shaped, Store, query_at}
use Rattle.usedmap.specs.Flags.{used_of}

-- a slot that stands in a class is of that class
pub stands_class : (c : ℕ) (v : Slot) (n : ℕ) → stands c v ≡ suc n → v.class ≡ c
stands_class c v n e =
    by_test (eqb v.class c)
    (eqb-true v.class c)
    (λ f. absurd (go (is_used v) (rw f at e)))
  where
    go : (b : Bool) → cond (b && false) 1 0 ≡ suc n → ⊥
    go true h = omega arith
    go false h = omega arith

-- the head leaves its queue
module _ (s t : Store) (w : Shaped s) (h : Laid s) (c i : ℕ) (ps : List ℕ) (l : c < 16) (head : places s c ≡ i ∷ ps) (lens : t.lens ≡ set s.lens c (len_of s c - 1))
    (own : part t.queue c ≡ first_off (part s.queue c) (len_of s c)) (others : (d : ℕ) → (d ≡ c → ⊥) → part t.queue d ≡ part s.queue d) where
  long : len_of s c ≡ suc (length ps)
  long = sym (places_length s w h c l) ∙ ap length head

  pub head_off : Queued s t c ps
  head_off = record {
    fits = omega (arith, long, h.not_longer_than_136 c l);
    len = rw lens (get_or-set_same s.lens c (len_of s c - 1) 0 (omega (arith, w.lens)) ∙ omega (arith, long));
    own = own ∙ ap (λ (n : ℕ). first_off (part s.queue c) n) long
        ∙ ap (λ (r : List ℕ). first_off r (suc (length ps))) (part_is s w h c l ∙ ap (λ (r : List ℕ). r ++ replicate (136 - len_of s c) 0) head)
        ∙ first_off_lem i ps (replicate (136 - len_of s c) 0)
        ∙ ap (λ (r : List ℕ). ps ++ r) (sym (replicate_more {A = ℕ} (136 - length ps) (136 - len_of s c) 0 (omega (arith, long, h.not_longer_than_136 c l))));
    others = λ d k ne. (rw lens (get_or-set_other s.lens c d (len_of s c - 1) 0 ne), others d ne);
  }

module _ (s t : Store) (w : Shaped s) (h : Laid s) (c i : ℕ) (ps : List ℕ) (l : c < 16) (head : places s c ≡ i ∷ ps)
    (slots : t.slots ≡ set s.slots i slot_free) (lens : t.lens ≡ set s.lens c (len_of s c - 1))
    (own : part t.queue c ≡ first_off (part s.queue c) (len_of s c)) (others : (d : ℕ) → (d ≡ c → ⊥) → part t.queue d ≡ part s.queue d)
    (marked : used_of t.low t.high ≡ set (used_of s.low s.high) i false) (request : i < 128) (qs : t.queries ≡ s.queries) (conf : t.confirmations ≡ s.confirmations) (ids : t.kept ≡ s.kept) where
  queued : Queued s t c ps
  queued = head_off s t w h c i ps l head lens own others

  -- how the head stands: once, and so no more in the rest, nor in another class
  counts : (j : ℕ) → times j (i ∷ ps) ≡ stands_at s c j
  counts j = ap (times j) (sym head) ∙ h.exactly_once c j l

  here : suc (times i ps) ≡ stands c (slot_at s.slots i)
  here = (rw (eq-eqb i i refl) at (counts i)) ∙ slot_stands s c i request

  small : (b : Bool) → cond b 1 0 ≤ 1
  small true = omega arith
  small false = omega arith

  gone : times i ps ≡ 0
  gone = omega (arith, here, small (is_used (slot_at s.slots i) && eqb (slot_at s.slots i).class c))

  nowhere_else : (d : ℕ) → (d ≡ c → ⊥) → stands d (slot_at s.slots i) ≡ 0
  nowhere_else d ne = rw (stands_class c (slot_at s.slots i) (times i ps) (sym here), ne_eqb c d (λ e. ne (sym e))) (off (is_used (slot_at s.slots i)))
    where
      off : (b : Bool) → ◌≡◌ {A = ℕ} (cond (b && false) 1 0) 0
      off true = refl
      off false = refl

  inside : i < length s.slots
  inside =
      by_test (ltb i (length s.slots)) (ltb-true i (length s.slots))
      (λ f. absurd (omega (arith, here, ap (stands c) (get_or-eq_default s.slots no_slot (ltb-false i (length s.slots) f)))))

  slotted : Slotted s t c ps
  slotted = record {
    slots = rw slots (λ j n. by_slot s.slots i slot_free inside (λ j x. j < 128 → (x ≡ slot_free) ⊎ Holds x) (λ n. inl refl) (λ j ne n. h.free_or_valid j n) j n);
    own = rw (slots, qs) (by_slot s.slots i slot_free inside (λ j x. times j ps ≡ standing_with c j x) (rw (lt-ltb i 128 request) gone) (λ j ne. rw (ne_eqb i j (λ e. ne (sym e))) at (counts j)));
    others = rw (slots, qs) (λ d j k ne. by_slot s.slots i slot_free inside (λ j x. standing_with d j x ≡ stands_at s d j) (rw (lt-ltb i 128 request) (sym (nowhere_else d ne))) (λ j n. refl) j);
    used = marked ∙ rw (slots, h.map_agrees, map_set);
  }
    where
      standing_with : ℕ → ℕ → Slot → ℕ
      standing_with c b x = cond (ltb b 128) (stands c x) (cond (S.named (query_at s.queries (b - 128)).classes c) 1 0)

  pub commit_laid : Laid t
  commit_laid = relaid s t c ps queued h slotted (λ n l k. rw ids (h.unused_zero n (rw conf at l) k)) (rw qs h.free_queries_zero)

  module _ (base wrk base' : List ℕ) (cells : cells_of base' c ≡ cells_of wrk c) (kept : (d : ℕ) → (d ≡ c → ⊥) → cells_of base' d ≡ cells_of base d)
      (e : Q.Entry) (done : t.commits ≡ s.commits + 1) (nb : t.begun ≡ s.begun) where
    pub commit_means : Same (plain t base' wrk) (S.in_class (plain s base wrk) c none (K.commit (Q.booking e) (items s.slots s.queries ps) (cells_of wrk c))).site
    commit_means = means s t c ps queued base wrk base' wrk none (K.commit (Q.booking e) (items s.slots s.queries ps) (cells_of wrk c))
        (rw (slots, qs) (items_kept s.slots i slot_free inside s.queries ps gone)) cells refl
        (λ d k ne. rw (slots, qs) (items_kept s.slots i slot_free inside s.queries (places s d) (h.exactly_once d i k ∙ slot_stands s d i request ∙ nowhere_else d ne)))
        (λ d k ne. (kept d ne, refl)) (omega (arith, conf)) done nb (λ n r. rw ids)

-- the head of a queue that has one
module _ (s : Store) (w : Shaped s) (h : Laid s) (c : ℕ) (l : c < 16) (some : 0 < len_of s c) where
  pub head_is : places s c ≡ get_or s.queue (136 * c) 0 ∷ drop 1 (places s c)
  head_is =
      let z : 136 * c + 0 ≡ 136 * c = omega arith in
      drop-cons (places s c) 0 0 (omega (arith, places_length s w h c l))
      ∙ ap (λ (i : ℕ). i ∷ drop 1 (places s c)) (place_at s w c l (h.not_longer_than_136 c l) 0 some ∙ ap (λ (n : ℕ). get_or s.queue n 0) z)

-- one class's cells copied from another run
module _ (base wrk base' : List ℕ) (c : ℕ) (l : c < 16) (a : length base ≡ 1024) (b : length wrk ≡ 1024) (e : base' ≡ put_mid (64 * c) 64 base (cells_of wrk c)) where
  long_part : length (cells_of wrk c) ≡ 64
  long_part = length-take-le 64 (drop (64 * c) wrk) (omega (arith, length-drop (64 * c) wrk))

  pub copied : cells_of base' c ≡ cells_of wrk c
  copied = ap (λ (r : List ℕ). cells_of r c) e ∙ put_own (64 * c) 64 base (cells_of wrk c) (omega arith) long_part

  pub uncopied : (d : ℕ) → (d ≡ c → ⊥) → cells_of base' d ≡ cells_of base d
  uncopied d ne = ap (λ (r : List ℕ). cells_of r d) e ∙ put_apart (64 * c) 64 base (cells_of wrk c) (omega arith) long_part (64 * d) 64
      (by_test (ltb d c) (λ t. let y = ltb-true d c t in inl (omega arith)) (λ f. let y = ltb-false d c f in inr (omega arith)))
