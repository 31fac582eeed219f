-- A query goes from class to class: what is known of each class before, and what each turn leaves. Assumes nothing.
use Prim.Native.Nat.{ℕ, zero, suc, ◌+◌, ◌<◌, ◌≤◌, ◌^◌}
use native.Mathlib.Omega.{arith}
use native.Mathlib.Numerals.{add-one}
use mathlib.Core.Path.{◌≡◌, refl, sym, ap, ◌∙◌, subst}
use mathlib.Core.Logic.{◌⊎◌, inl, inr}
use mathlib.Core.Bool.{true, false}
use mathlib.Core.List.{List, [], ◌∷◌}
use lib.Dec.{ltb}
use lib.ListN.{length, get_or, take, drop, length-map}
use lib.Seq.{get_or-set_same, get_or-set_other}
use borrow.Author.Tests.{le-ltb, ltb-true, ltb-false}
use Rattle.plain.specs.Sizes.{most_w}
use Rattle.plain.specs.Queue.{Item, booking, reading, is_confirmed}
use Rattle.plain.specs.Steps.{Class, backed}
use Rattle.plain.specs.Site.{named}
use Rattle.plain.specs.Sound.{All, Waiting}
use Rattle.plain.proofs.Tests.{by_test}
use Rattle.slots.specs.Meaning.{slot_at}
use Rattle.slots.specs.Rules.{Holds}
use Rattle.queries.specs.declared.Query.{Query}
use Rattle.queries.specs.Table.{Grown}
use Rattle.store.specs.Store.{Store, Shaped, query_at}
use Rattle.store.specs.Meaning.{cells_of, len_of, places, item_at, items, queue_of, plain, plain_class}
use Rattle.store.specs.Steps.{Backable, PutBack, as_put_back, head_slot}
use Rattle.store.proofs.Canonical.{places_length}
use Rattle.store.proofs.Commit.{head_is}
use Rattle.store.proofs.Confirmed.{kept_shaped}
use Rattle.store.proofs.Entering.{Enters}
use Rattle.store.proofs.Entered.{Written, enters, entered_shape}
use Rattle.store.proofs.Moving.{Confirmed}
use Rattle.store.proofs.Places.{head_holds}
use Rattle.store.proofs.Queried.{Settled, Upto, settled_on, upto_skip, upto_more}
use Rattle.store.proofs.Relaid.{by_slot}
use Rattle.store.proofs.Settle.{settle_empty, settle_confirmed, settle_back}

-- of each class where its waiting ones begin, and its sum, at most W; and of each that the mask names that one more fits its queue
pub record Ready (s : Store) (m : ℕ) (firsts : List ℕ) : Type 0 where
  pub fits : (d : ℕ) → d < 16 → get_or firsts d 0 ≤ length (queue_of s d)
  pub ahead : (d : ℕ) → d < 16 → All Confirmed (take (get_or firsts d 0) (queue_of s d))
  pub behind : (d : ℕ) → d < 16 → All Waiting (drop (get_or firsts d 0) (queue_of s d))
  pub room : (d : ℕ) → d < 16 → named m d ≡ true → length (queue_of s d) < 136
  pub few : (d : ℕ) → d < 16 → get_or s.sums d 0 ≤ most_w

-- AFTER THE CLASSES BEFORE c of a query of mask m that takes index p when n confirmations are taken: as Upto has it, in shape, and no count of put-backs near
-- its bound
pub record Going (s t : Store) (base wrk wrk' : List ℕ) (m p n c : ℕ) (firsts : List ℕ) : Type 0 where
  pub ready : Ready s m firsts
  pub index : p < 8
  pub right : length base ≡ 1024
  pub upto : Upto s t base wrk wrk' m p n c
  pub shape : Shaped t
  pub cells : length wrk' ≡ 1024
  pub backs : (i : ℕ) → i < 128 → (slot_at t.slots i).backs ≤ 8589934590 + c

-- the head, put back or as it was, leaves where the waiting begin
settled_parts : (q : List Item) (base w : List ℕ) (to : ℕ) → All Confirmed (take to q) → All Waiting (drop to q)
    → All Confirmed (take to (settled_on q base w).queue) × All Waiting (drop to (settled_on q base w).queue)
settled_parts [] base w to a b = (a, b)
settled_parts (x ∷ q) base w zero a b = (a, (still x b.0, b.1))
  where
    still : (x : Item) → Waiting x → Waiting (backed x)
    still (booking e) z = rw (le-ltb 0 e.number (omega arith)) z
    still (reading p n) z = absurd z
settled_parts (x ∷ q) base w (suc to) a b = ((rw a.0 a.0, a.1), b)

settled_length : (q : List Item) (base w : List ℕ) → length (settled_on q base w).queue ≡ length q
settled_length [] base w = refl
settled_length (x ∷ q) base w = refl

module _ {s t : Store} {base wrk wrk' : List ℕ} {m p n c : ℕ} {firsts : List ℕ} (u : Going s t base wrk wrk' m p n c firsts) where
  -- a class that is not named
  pub skipped : named m c ≡ false → Going s t base wrk wrk' m p n (c + 1) firsts
  skipped f = record {
    ready = u.ready;
    index = u.index;
    right = u.right;
    upto = rw (add-one c) (upto_skip s t base wrk wrk' m p n c u.upto f);
    shape = u.shape;
    cells = u.cells;
    backs = λ i l. omega (arith, u.backs i l);
  }

-- and one that is
module _ {s t : Store} {base wrk wrk' : List ℕ} {m p n c : ℕ} {firsts : List ℕ} (u : Going s t base wrk wrk' m p n c firsts) (l : c < 16) (here : named m c ≡ true) where
  abbrev to : ℕ
  to = get_or firsts c 0

  abbrev hd : ℕ
  hd = head_slot t c

  same_class : (plain t base wrk').class c ≡ (plain s base wrk).class c
  same_class = u.upto.class c l ∙ rw (le-ltb c c (omega arith))

  same_queue : queue_of t c ≡ queue_of s c
  unfolding plain plain_class
  same_queue = ap (λ (k : Class). k.queue) same_class

  count : length (queue_of t c) ≡ len_of t c
  count = length-map (places t c) (item_at t.slots t.queries) ∙ places_length t u.shape u.upto.laid c l

  pub room_here : len_of t c < 136
  room_here = omega (arith, count, ap length same_queue, u.ready.room c l here)

  pub to_fits : to ≤ len_of t c
  to_fits = omega (arith, count, ap length same_queue, u.ready.fits c l)

  pub sum_here : get_or t.sums c 0 ≤ most_w
  sum_here = let e : get_or t.sums c 0 ≡ get_or s.sums c 0 + 0 = u.upto.sums c l ∙ rw (le-ltb c c (omega arith)) in omega (arith, u.ready.few c l)

  ahead : All Confirmed (take to (queue_of t c))
  ahead = rw same_queue (u.ready.ahead c l)

  behind : All Waiting (drop to (queue_of t c))
  behind = rw same_queue (u.ready.behind c l)

  head_first : 0 < len_of t c → queue_of t c ≡ item_at t.slots t.queries hd ∷ items t.slots t.queries (drop 1 (places t c))
  head_first some = ap (items t.slots t.queries) (head_is t u.shape u.upto.laid c l some)

  -- where all wait the head is a request that waits, and else it is confirmed or an entry
  pub front : to ≡ 0 → (len_of t c ≡ 0 → ⊥) → (hd < 128) × ((slot_at t.slots hd).number ≡ 0)
  front z some =
      let w : All Waiting (item_at t.slots t.queries hd ∷ items t.slots t.queries (drop 1 (places t c))) =
      subst (All Waiting) (head_first (omega arith)) (subst (λ (a : ℕ). All Waiting (drop a (queue_of t c))) z behind) in
      by_test (ltb hd 128) (λ y. (ltb-true hd 128 y, rw y at w.0)) (λ g. absurd (rw g at w.0))

  sure : (to ≡ 0 → ⊥) → (0 < len_of t c) × ((128 ≤ hd) ⊎ (0 < (slot_at t.slots hd).number))
  sure ne = (omega (arith, to_fits), by_test (ltb hd 128) (λ y. inr (go y)) (λ g. inl (ltb-false hd 128 g)))
    where
      some_ahead : (a : ℕ) → (a ≡ 0 → ⊥) → (q : List Item) (x : Item) (r : List Item) → q ≡ x ∷ r → All Confirmed (take a q) → is_confirmed x ≡ true
      some_ahead zero ne q x r e h = absurd (ne refl)
      some_ahead (suc a) ne q x r e h = (subst (λ (z : List Item). All Confirmed (take (suc a) z)) e h).0

      go : ltb hd 128 ≡ true → 0 < (slot_at t.slots hd).number
      go y =
          let c : is_confirmed (item_at t.slots t.queries hd) ≡ true = some_ahead to ne (queue_of t c) _ _ (head_first (omega (arith, to_fits))) ahead in
          ltb-true 0 (slot_at t.slots hd).number (rw y at c)

  pub may_back : to ≡ 0 → (len_of t c ≡ 0 → ⊥) → Backable t base wrk' c
  may_back z some = record {
    laid = u.upto.laid;
    class = l;
    some = omega arith;
    cells = (u.right, u.cells);
    request = (front z some).0;
    fits = omega (arith, u.backs hd (front z some).0);
  }

  -- the head put back if it waits
  pub record Put (t₁ : Store) (wrk₁ : List ℕ) : Type 0 where
    pub settled : Settled t t₁ base wrk' wrk₁ c
    pub shape : Shaped t₁
    pub lens : t₁.lens ≡ t.lens
    pub cells : length wrk₁ ≡ 1024
    pub backs : (i : ℕ) → i < 128 → (slot_at t₁.slots i).backs ≤ 8589934590 + (c + 1)

  pub put_none : (to ≡ 0 → ⊥) ⊎ (len_of t c ≡ 0) → Put t wrk'
  put_none y = record { settled = go y; shape = u.shape; lens = refl; cells = u.cells; backs = λ i l. omega (arith, u.backs i l) }
    where
      go : (to ≡ 0 → ⊥) ⊎ (len_of t c ≡ 0) → Settled t t base wrk' wrk' c
      go (inl ne) = settle_confirmed t u.shape u.upto.laid c l (sure ne).0 base wrk' (sure ne).1
      go (inr z) = settle_empty t base wrk' c u.upto.laid z

  pub put_head : to ≡ 0 → (len_of t c ≡ 0 → ⊥) → (a : Store) (wrk₁ : List ℕ) → PutBack t base wrk' c a wrk₁ → Put a wrk₁
  put_head z some a wrk₁ b = record {
    settled = settle_back t u.shape u.upto.laid c l (omega arith) base wrk' small holds (front z some).1 a wrk₁ b;
    shape = subst Shaped (sym b.is) (kept_shaped t u.shape hd (as_put_back (slot_at t.slots hd)) small (u.shape.ops hd small) refl);
    lens = ap (λ (s : Store). s.lens) b.is;
    cells = b.cells;
    backs = subst (λ (s : Store). (i : ℕ) → i < 128 → (slot_at s.slots i).backs ≤ 8589934590 + (c + 1)) (sym b.is)
        (by_slot t.slots hd (as_put_back (slot_at t.slots hd)) (omega (arith, u.shape.slots, small)) (λ i v. i < 128 → v.backs ≤ 8589934590 + (c + 1))
        (λ _. omega (arith, u.backs hd small)) (λ i ne l. omega (arith, u.backs i l)));
  }
    where
      small : hd < 128
      small = (front z some).0

      holds : Holds (slot_at t.slots hd)
      holds = head_holds t u.shape u.upto.laid.not_longer_than_136 u.upto.laid.free_or_valid u.upto.laid.exactly_once c l (omega arith) small

  -- THE TURN: the entry stands before the waiting
  pub turned : (t₁ : Store) (wrk₁ : List ℕ) → Put t₁ wrk₁ → (t₂ : Store) (v : Query) → Written t₁ t₂ c p to (len_of t c) v → Grown (query_at t₁.queries p).classes c v.classes
      → v.begun ≡ n → v.classes < 2 ^ 16 → Going s t₂ base wrk wrk₁ m p n (c + 1) firsts
  turned t₁ wrk₁ put t₂ v at_len g is small = record {
    ready = u.ready;
    index = u.index;
    right = u.right;
    upto = rw (add-one c) (upto_more s t base wrk wrk' m p n c u.upto t₁ t₂ wrk₁ to v.classes put.shape l u.index here put.settled
        (subst (λ (a : ℕ). Enters t₁ t₂ c p to a v.classes) is (enters t₁ t₂ put.shape put.settled.laid c p to v l u.index room fits e g))
        (omega (arith, ap length queue_is, settled_length (queue_of t c) (cells_of base c) (cells_of wrk' c), count, to_fits)) both.0 both.1
        (ap (λ (r : List ℕ). get_or r c 0) e.sums ∙ get_or-set_same t₁.sums c _ 0 (omega (arith, put.shape.sums)))
        (λ d _ ne. ap (λ (r : List ℕ). get_or r d 0) e.sums ∙ get_or-set_other t₁.sums c d _ 0 ne));
    shape = entered_shape t₁ t₂ put.shape put.settled.laid c p to v l u.index room fits e small;
    cells = put.cells;
    backs = λ i l. rw e.slots (put.backs i l);
  }
    where
      queue_is : queue_of t₁ c ≡ (settled_on (queue_of t c) (cells_of base c) (cells_of wrk' c)).queue
      queue_is = unfold plain plain_class in (ap (λ (k : Class). k.queue) put.settled.class)

      same_len : len_of t₁ c ≡ len_of t c
      same_len = ap (λ (r : List ℕ). get_or r c 0) put.lens

      e : Written t₁ t₂ c p to (len_of t₁ c) v
      e = subst (λ (n : ℕ). Written t₁ t₂ c p to n v) (sym same_len) at_len

      room : len_of t₁ c < 136
      room = omega (arith, same_len, room_here)

      fits : to ≤ len_of t₁ c
      fits = omega (arith, same_len, to_fits)

      both : All Confirmed (take to (queue_of t₁ c)) × All Waiting (drop to (queue_of t₁ c))
      both = rw queue_is (settled_parts (queue_of t c) (cells_of base c) (cells_of wrk' c) to ahead behind)
