-- A site is known by its plain site: two laid out sites with one meaning are equal, field by field. Assumes nothing.
use Prim.Native.Nat.{ℕ, zero, suc, ◌+◌, ◌*◌, ◌-◌, ◌<◌, ◌≤◌}
use native.Mathlib.Omega.{arith}
use mathlib.Core.Path.{◌≡◌, refl, sym, ap, ◌∙◌}
use mathlib.Core.Logic.{◌⊎◌, inl, inr}
use mathlib.Core.Bool.{Bool, true, false, cond}
use mathlib.Core.List.{List, [], ◌∷◌, ◌++◌, map}
use lib.Dec.{eqb, ltb}
use lib.ListN.{get_or, length, take, drop, replicate, length-map, length-drop, take-append-drop}
use lib.Seq.{ext_get_or, length-take-le}
use borrow.Author.Tests.{eqb-true, eqb-false, eq-eqb, ne_eqb, not-true, lt-ltb, le-ltb, ltb-true, ltb-false, leb-true}
use Rattle.plain.specs.Ops as P
use Rattle.plain.specs.Record as R
use Rattle.plain.specs.Queue as Q
use Rattle.plain.specs.Steps as K
use Rattle.plain.specs.Site.{named}
use Rattle.cells.specs.Ops.{Coded, no_op, op_of}
use Rattle.cells.specs.declared.Op.{Op}
use Rattle.places.specs.Moves.{part}
use Rattle.plain.proofs.Tests.{by_test, no, all_true}
use Rattle.plain.specs.Sound.{All}
use Rattle.slots.specs.Meaning.{entry_of, slot_free, is_used, no_slot, request_of, slot_at}
use Rattle.slots.specs.Rules.{Holds}
use Rattle.slots.specs.declared.Slot.{Slot}
use Rattle.store.proofs.Lists.{by_parts, map_at}
use Rattle.store.proofs.Masks.{mask_inj, some_named}
use Rattle.store.specs.Checks.{InUse, Spare}
use Rattle.store.specs.Meaning.{Same, item_at, items, len_of, places, plain, plain_class}
use Rattle.store.proofs.KeptIds.{place_of}
use Rattle.store.specs.Sound.{Laid, SumsOk, stands, stands_at, times}
use Rattle.queries.specs.declared.Query.{Query}
use Rattle.queries.specs.Table.{free_query}
use Rattle.store.specs.Store.{Shaped, Store, query_at}
use Rattle.usedmap.proofs.Flags.{used_inj}

-- the operation, and the slot, that an operation and an entry are read from
abbrev pub op_back : P.Op → Op
op_back (P.put k a) = record { code = 1; cell = k; second = 0; amount = a }
op_back (P.add k a) = record { code = 2; cell = k; second = 0; amount = a }
op_back (P.need k a) = record { code = 3; cell = k; second = 0; amount = a }
op_back (P.move k j a) = record { code = 4; cell = k; second = j; amount = a }

abbrev pub slot_back : Q.Entry → Slot
slot_back e = record {
  id = e.request.id;
  class = e.request.class;
  count = length e.request.ops;
  ops = map op_back e.request.ops ++ replicate (7 - length e.request.ops) no_op;
  number = e.number;
  done = e.done;
  mark = e.mark;
  backs = e.backs;
}

-- an operation other than a move has no second cell
no_second : (code j : ℕ) → P.every (R.code_rules code j) ≡ true → code < 4 → j ≡ 0
no_second zero j h l = no _ h refl
no_second (suc zero) j h l = eqb-true j 0 (all_true (R.code_rules 1 j) h).1.1.0
no_second (suc (suc zero)) j h l = eqb-true j 0 (all_true (R.code_rules 2 j) h).1.1.0
no_second (suc (suc (suc zero))) j h l = eqb-true j 0 (all_true (R.code_rules 3 j) h).1.1.0
no_second (suc (suc (suc (suc k)))) j h l = absurd (omega arith)

op_back_lem : (o : Op) → Coded o → op_back (op_of o) ≡ o
op_back_lem o h =
    by_test (eqb o.code 1)
    (λ t. rw t (plain_op 1 (eqb-true o.code 1 t) (omega arith)))
    (λ a. by_test (eqb o.code 2)
    (λ t. rw (a, t) (plain_op 2 (eqb-true o.code 2 t) (omega arith)))
    (λ b. by_test (eqb o.code 3)
    (λ t. rw (a, b, t) (plain_op 3 (eqb-true o.code 3 t) (omega arith)))
    (λ d. let four : 4 ≡ o.code = omega (arith, known.0, known.1, eqb-false o.code 1 a, eqb-false o.code 2 b, eqb-false o.code 3 d) in
    rw (a, b, d) (λ i. record { code = four i; cell = o.cell; second = o.second; amount = o.amount }))))
  where
    known : (1 ≤ o.code) × (o.code ≤ 4)
    known = let t = all_true (R.code_rules o.code o.second) h in (leb-true _ _ t.0, leb-true _ _ t.1.0)

    plain_op : (k : ℕ) → o.code ≡ k → k < 4 → record { code = k; cell = o.cell; second = 0; amount = o.amount } ≡ o
    plain_op k e l = λ i. record { code = sym e i; cell = o.cell; second = sym (no_second o.code o.second h (omega arith)) i; amount = o.amount }

ops_back : (os : List Op) → All Coded os → map op_back (map op_of os) ≡ os
ops_back [] h = refl
ops_back (o ∷ os) h = rw (op_back_lem o h.0, ops_back os h.1)

pub slot_back_lem : (i : ℕ) (v : Slot) → length v.ops ≡ 7 → Holds v → slot_back (entry_of i v) ≡ v
slot_back_lem i v l h = λ k. record {
  id = v.id;
  class = v.class;
  count = n k;
  ops = all k;
  number = v.number;
  done = v.done;
  mark = v.mark;
  backs = v.backs;
}
  where
    n : length (map op_of (take v.count v.ops)) ≡ v.count
    n = length-map (take v.count v.ops) op_of ∙ length-take-le v.count v.ops (omega (arith, h.count))

    all : map op_back (map op_of (take v.count v.ops)) ++ replicate (7 - length (map op_of (take v.count v.ops))) no_op ≡ v.ops
    all = rw (n, ops_back (take v.count v.ops) h.coded, ← h.rest) (take-append-drop v.count v.ops)

-- a valid record has an id and a class
rules_hold : (v : Slot) → Holds v → All (λ b. b ≡ true) (P.request_rules (request_of v))
unfolding P.valid
rules_hold v h = all_true (P.request_rules (request_of v)) h.valid

pub has_id : (v : Slot) → Holds v → 0 < v.id
has_id v h = let n = eqb-false v.id 0 (not-true (eqb v.id 0) (rules_hold v h).0) in omega arith

pub has_class : (v : Slot) → Holds v → v.class < 16
has_class v h = ltb-true v.class 16 (rules_hold v h).1.1.0

pub stands_there : (v : Slot) → Holds v → stands v.class v ≡ 1
stands_there v h = let n = has_id v h in rw (ne_eqb v.id 0 (omega arith), eq-eqb v.class v.class refl)

-- the queue place that an item is read from
abbrev place_back : Q.Item → ℕ
place_back (Q.booking e) = e.slot
place_back (Q.reading p b) = 127 + p

place_back_lem : (l : List Slot) (qs : List Query) (b : ℕ) → place_back (item_at l qs b) ≡ b
place_back_lem l qs b =
    by_test (ltb b 128)
    (λ t. rw t)
    (λ f. rw f (omega (arith, ltb-false b 128 f)))

places_back : (l : List Slot) (qs : List Query) (ps : List ℕ) → map place_back (items l qs ps) ≡ ps
places_back l qs [] = refl
places_back l qs (p ∷ ps) = rw (place_back_lem l qs p, places_back l qs ps)

-- what a queue place below 128 names, and one from 128 on
pub slot_item : (l : List Slot) (qs : List Query) (i : ℕ) → i < 128 → item_at l qs i ≡ Q.booking (entry_of i (slot_at l i))
slot_item l qs i h = rw (lt-ltb i 128 h)

pub query_item : (l : List Slot) (qs : List Query) (p : ℕ) → item_at l qs (128 + p) ≡ Q.reading (suc p) (query_at qs p).begun
query_item l qs p = let e : 128 + p - 128 ≡ p = omega arith in rw (le-ltb (128 + p) 128 (omega arith), e)

-- and what may stand there
pub slot_stands : (s : Store) (c i : ℕ) → i < 128 → stands_at s c i ≡ stands c (slot_at s.slots i)
slot_stands s c i h = rw (lt-ltb i 128 h)

pub query_stands : (s : Store) (c p : ℕ) → stands_at s c (128 + p) ≡ cond (named (query_at s.queries p).classes c) 1 0
query_stands s c p = let e : 128 + p - 128 ≡ p = omega arith in rw (le-ltb (128 + p) 128 (omega arith), e)

-- what a laid out site's arrays come to
module _ (s : Store) (w : Shaped s) (h : Laid s) (c : ℕ) (l : c < 16) where
  pub part_length : length (part s.queue c) ≡ 136
  part_length = length-take-le 136 (drop (136 * c) s.queue) (omega (arith, length-drop (136 * c) s.queue, w.queue))

  pub places_length : length (places s c) ≡ len_of s c
  places_length = length-take-le (len_of s c) (part s.queue c) (omega (arith, part_length, h.not_longer_than_136 c l))

  pub part_is : part s.queue c ≡ places s c ++ replicate (136 - len_of s c) 0
  part_is = sym (take-append-drop (len_of s c) (part s.queue c)) ∙ rw (h.past_the_end_zero c l)

module _ (s t : Store) (base wrk base' wrk' : List ℕ) (v : Shaped s) (w : Shaped t) (g : Laid s) (h : Laid t) (e : Same (plain s base wrk) (plain t base' wrk')) where
  queues : (c : ℕ) → c < 16 → items s.slots s.queries (places s c) ≡ items t.slots t.queries (places t c)
  unfolding plain plain_class
  queues c l = ap (λ (k : K.Class). k.queue) (e.class c l)

  same_places : (c : ℕ) → c < 16 → places s c ≡ places t c
  same_places c l = sym (places_back s.slots s.queries (places s c)) ∙ ap (map place_back) (queues c l) ∙ places_back t.slots t.queries (places t c)

  same_len : (c : ℕ) → c < 16 → len_of s c ≡ len_of t c
  same_len c l = sym (places_length s v g c l) ∙ ap length (same_places c l) ∙ places_length t w h c l

  same_lens : s.lens ≡ t.lens
  same_lens = ext_get_or 0 s.lens t.lens (omega (arith, v.lens, w.lens)) (λ c l. same_len c (omega (arith, v.lens)))

  same_queue : s.queue ≡ t.queue
  same_queue = by_parts 136 16 s.queue t.queue v.queue w.queue (λ c l.
      part_is s v g c l ∙ rw (same_places c l, same_len c l) (sym (part_is t w h c l)))

  -- what stands in a queue of one of them
  item_at_lem : (c b : ℕ) → c < 16 → 0 < times b (places s c) → item_at s.slots s.queries b ≡ item_at t.slots t.queries b
  item_at_lem c b l u =
      map_at (item_at s.slots s.queries) (item_at t.slots t.queries) b (places s c)
      (queues c l ∙ ap (items t.slots t.queries) (sym (same_places c l))) u

  -- a slot that one of them uses
  entry_at : (c i : ℕ) → c < 16 → i < 128 → 0 < times i (places s c) → entry_of i (slot_at s.slots i) ≡ entry_of i (slot_at t.slots i)
  entry_at c i l m u =
      let z = sym (slot_item s.slots s.queries i m) ∙ item_at_lem c i l u ∙ slot_item t.slots t.queries i m in cc

  same_slot : (i : ℕ) → i < 128 → slot_at s.slots i ≡ slot_at t.slots i
  same_slot i l = go (g.free_or_valid i l) (h.free_or_valid i l)
    where
      -- where one holds a record, it stands in a queue, and so it does in the other
      clash : (x y : Slot) → Holds x → y ≡ slot_free → stands x.class x ≡ stands x.class y → ⊥
      clash x y a b e = let n : stands x.class y ≡ 0 = rw b in omega (arith, stands_there x a)

      both : (c : ℕ) → c < 16 → stands c (slot_at s.slots i) ≡ stands c (slot_at t.slots i)
      both c k = sym (slot_stands s c i l) ∙ sym (g.exactly_once c i k) ∙ ap (times i) (same_places c k) ∙ h.exactly_once c i k ∙ slot_stands t c i l

      go : (slot_at s.slots i ≡ slot_free) ⊎ Holds (slot_at s.slots i) → (slot_at t.slots i ≡ slot_free) ⊎ Holds (slot_at t.slots i)
          → slot_at s.slots i ≡ slot_at t.slots i
      go (inl a) (inl b) = a ∙ sym b
      go (inl a) (inr b) = absurd (clash (slot_at t.slots i) (slot_at s.slots i) b a (sym (both _ (has_class _ b))))
      go (inr a) (inl b) = absurd (clash (slot_at s.slots i) (slot_at t.slots i) a b (both _ (has_class _ a)))
      go (inr a) (inr b) =
          let c = (slot_at s.slots i).class in
          let k = has_class (slot_at s.slots i) a in
          let u : 0 < times i (places s c) = omega (arith, g.exactly_once c i k, slot_stands s c i l, stands_there (slot_at s.slots i) a) in
          sym (slot_back_lem i (slot_at s.slots i) (v.ops i l) a) ∙ ap slot_back (entry_at c i k l u) ∙ slot_back_lem i (slot_at t.slots i) (w.ops i l) b

  same_slots : s.slots ≡ t.slots
  same_slots = ext_get_or no_slot s.slots t.slots (omega (arith, v.slots, w.slots)) (λ i l. same_slot i (omega (arith, v.slots)))

  same_map : (s.low ≡ t.low) × (s.high ≡ t.high)
  same_map = used_inj s.low s.high t.low t.high v.low v.high w.low w.high (g.map_agrees ∙ ap (map is_used) same_slots ∙ sym h.map_agrees)

  -- a query: the classes that it has still to read, and its beginning, which its entries tell
  same_query : (p : ℕ) → query_at s.queries p ≡ query_at t.queries p
  same_query p = λ i. record { classes = same_classes i; begun = same_begun (some_named (query_at s.queries p).classes (v.masks p)) i }
    where
      flag : (a b : Bool) → ◌≡◌ {A = ℕ} (cond a 1 0) (cond b 1 0) → a ≡ b
      flag true true e = refl
      flag true false e = absurd (omega arith)
      flag false true e = absurd (omega arith)
      flag false false e = refl

      same_classes : (query_at s.queries p).classes ≡ (query_at t.queries p).classes
      same_classes = mask_inj (query_at s.queries p).classes (query_at t.queries p).classes (v.masks p) (w.masks p) (λ c l.
          flag _ _ (sym (query_stands s c p) ∙ sym (g.exactly_once c (128 + p) l) ∙ ap (times (128 + p)) (same_places c l) ∙ h.exactly_once c (128 + p) l ∙ query_stands t c p))

      same_begun : ((query_at s.queries p).classes ≡ 0) ⊎ ((c : ℕ) × (c < 16) × (named (query_at s.queries p).classes c ≡ true))
          → (query_at s.queries p).begun ≡ (query_at t.queries p).begun
      same_begun (inl z) = g.free_queries_zero p z ∙ sym (h.free_queries_zero p (sym same_classes ∙ z))
      same_begun (inr y) =
          let one : stands_at s y.0 (128 + p) ≡ 1 = query_stands s y.0 p ∙ rw y.2 in
          let u : 0 < times (128 + p) (places s y.0) = omega (arith, g.exactly_once y.0 (128 + p) y.1) in
          let z = sym (query_item s.slots s.queries p) ∙ item_at_lem y.0 (128 + p) y.1 u ∙ query_item t.slots t.queries p in
          ap Q.line z

  same_queries : s.queries ≡ t.queries
  same_queries = ext_get_or free_query s.queries t.queries (omega (arith, v.queries, w.queries)) (λ p l. same_query p)

  -- the place of a number kept, and one that is unused
  same_kept_at : (p : ℕ) → p < 256 → get_or s.kept p 0 ≡ get_or t.kept p 0
  unfolding plain
  same_kept_at p l = go (place_of s.confirmations p l)
    where
      go : InUse s.confirmations p ⊎ Spare s.confirmations p → get_or s.kept p 0 ≡ get_or t.kept p 0
      go (inl u) = rw (← u.2) (e.kept u.0 u.1)
      go (inr u) = rw (← u.3) (g.unused_zero u.0 u.1 u.2 ∙ sym (h.unused_zero u.0 (omega (arith, u.1, e.confirmations)) u.2))

  same_kept : s.kept ≡ t.kept
  same_kept = ext_get_or 0 s.kept t.kept (omega (arith, v.kept, w.kept)) (λ p l. same_kept_at p (omega (arith, v.kept)))

  same_sums : SumsOk s → SumsOk t → s.sums ≡ t.sums
  same_sums a b = ext_get_or 0 s.sums t.sums (omega (arith, v.sums, w.sums)) (λ c l.
      let k : c < 16 = omega (arith, v.sums) in a c k ∙ ap Q.confirmed_costs (queues c k) ∙ sym (b c k))

  pub canonical : SumsOk s → SumsOk t → s ≡ t
  unfolding plain
  canonical a b = λ i. record {
    slots = same_slots i;
    queue = same_queue i;
    lens = same_lens i;
    low = same_map.0 i;
    high = same_map.1 i;
    confirmations = e.confirmations i;
    commits = e.commits i;
    kept = same_kept i;
    queries = same_queries i;
    begun = e.queries i;
    sums = same_sums a b i;
  }

  -- and the cells
  pub canonical_cells : length base ≡ 1024 → length wrk ≡ 1024 → length base' ≡ 1024 → length wrk' ≡ 1024 → (base ≡ base') × (wrk ≡ wrk')
  unfolding plain plain_class
  canonical_cells a b a' b' = (
    by_parts 64 16 base base' a a' (λ c l. ap (λ (k : K.Class). k.committed) (e.class c l)),
    by_parts 64 16 wrk wrk' b b' (λ c l. ap (λ (k : K.Class). k.working) (e.class c l)),
  )
