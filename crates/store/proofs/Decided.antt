-- Soundness is decided, for any site of the declared shape: for the theorem that any two outcomes are equal. Assumes nothing.
use Prim.Native.Nat.{ℕ, zero, suc, ◌+◌, ◌-◌, ◌<◌, ◌≤◌, ◌^◌}
use native.Mathlib.Omega.{arith}
use mathlib.Core.Path.{◌≡◌, refl, sym, ap, ◌∙◌}
use mathlib.Core.Logic.{◌⊎◌, inl, inr, ◌↔◌}
use mathlib.Core.Bool.{Bool, true, false}
use mathlib.Core.List.{List, [], ◌∷◌, map}
use lib.Dec.{eqb, ltb, leb}
use lib.ListN.{length, get_or, drop, replicate, get_or-eq_default}
use borrow.Author.Tests.{eqb-true, eqb-false, ne_eqb, le-ltb, ltb-true, ltb-false, leb-true, leb-false}
use Rattle.cells.specs.Ops.{OpOk, no_op}
use Rattle.cells.specs.declared.Op.{Op}
use Rattle.plain.proofs.Tests.{by_test, no}
use Rattle.plain.specs.Ops.{mark_of, leaves}
use Rattle.plain.specs.Queue.{Item, booking, reading, ops_of, has_number, line, count, confirmed_costs}
use Rattle.plain.specs.Site.{sum, Recent}
use Rattle.plain.specs.Sound.{All, so_far, Waiting, Follows, InOrder, Untouched, AtHead}
use Rattle.plain.proofs.Queues.{all_map}
use Rattle.slots.proofs.Records.{all_zero, free_zero, held, holds}
use Rattle.slots.specs.Meaning.{slot_free, is_used, op_at, slot_at}
use Rattle.slots.specs.Rules.{Holds, OpAt, OpsOk, OpsZero}
use Rattle.slots.specs.declared.Slot.{Slot}
use Rattle.places.specs.Moves.{part}
use Rattle.store.proofs.Masks.{none_named}
use Rattle.store.proofs.Once.{stays_of}
use Rattle.store.proofs.Standing.{stays_small}
use Rattle.store.specs.Checks.{Stays}
use Rattle.store.specs.Meaning.{cells_of, kept_at, len_of, places, queue_of}
use Rattle.store.specs.Sound.{Apart, Cells, Laid, Once, Rest, Sound, stands_at, times}
use Rattle.queries.specs.declared.Query.{Query}
use Rattle.queries.specs.Table.{free_query}
use Rattle.store.specs.Store.{Shaped, Store, query_at}
use Rattle.usedmap.specs.Flags.{used_of}

abbrev pub Decided : Type 0 → Type 0
Decided P = P ⊎ (P → ⊥)

-- combinators
same : {P Q : Type 0} → (P → Q) → (Q → P) → Decided P → Decided Q
same f g (inl p) = inl (f p)
same f g (inr n) = inr (λ q. n (g q))

-- one rule after another: the second may lean on the first
and_then : {P Q : Type 0} → Decided P → (P → Decided Q) → Decided (P × Q)
and_then {P} {Q} (inl p) d = go (d p)
  where
    go : Decided Q → Decided (P × Q)
    go (inl q) = inl (p, q)
    go (inr n) = inr (λ h. n h.1)
and_then (inr n) d = inr (λ h. n h.0)

or_else : {P Q : Type 0} → Decided P → Decided Q → Decided (P ⊎ Q)
or_else (inl p) d = inl (inl p)
or_else (inr n) (inl q) = inl (inr q)
or_else {P} {Q} (inr n) (inr m) = inr neither
  where
    neither : P ⊎ Q → ⊥
    neither (inl p) = n p
    neither (inr q) = m q

when : {P Q : Type 0} → Decided P → (P → Decided Q) → Decided (P → Q)
when {P} {Q} (inl p) d = same (λ q _. q) (λ f. f p) (d p)
when (inr n) d = inl (λ p. absurd (n p))

none : {P : Type 0} → Decided P → Decided (P → ⊥)
none (inl p) = inr (λ n. n p)
none (inr n) = inl n

eq : (a b : ℕ) → Decided (a ≡ b)
eq a b = by_test (eqb a b) (λ t. inl (eqb-true a b t)) (λ f. inr (eqb-false a b f))

lt : (a b : ℕ) → Decided (a < b)
lt a b = by_test (ltb a b) (λ t. inl (ltb-true a b t)) (λ f. inr (λ h. absurd (omega (arith, ltb-false a b f))))

le : (a b : ℕ) → Decided (a ≤ b)
le a b = by_test (leb a b) (λ t. inl (leb-true a b t)) (λ f. inr (λ h. absurd (omega (arith, leb-false a b f))))

eq_flag : (a b : Bool) → Decided (a ≡ b)
eq_flag true true = inl refl
eq_flag true false = inr (λ e. no _ refl e)
eq_flag false true = inr (λ e. no _ e refl)
eq_flag false false = inl refl

below : (P : ℕ → Type 0) (n : ℕ) → ((i : ℕ) → i < n → Decided (P i)) → Decided ((i : ℕ) → i < n → P i)
below P zero d = inl (λ i l. absurd (omega arith))
below P (suc n) d =
    same
    (λ h i l. by_test (eqb i n) (λ t. rw (eqb-true i n t) h.1) (λ f. let ne : i ≡ n → ⊥ = eqb-false i n f in h.0 i (omega arith)))
    (λ h. ((λ i l. h i (omega arith)), h n (omega arith)))
    (and_then (below P n (λ i l. d i (omega arith))) (λ _. d n (omega arith)))

eq_list : {A : Type 0} → ((a b : A) → Decided (a ≡ b)) → (l m : List A) → Decided (l ≡ m)
eq_list d [] [] = inl refl
eq_list d [] (y ∷ m) = inr (λ e. let z : ◌≡◌ {A = ℕ} 0 1 = cc in absurd (omega arith))
eq_list d (x ∷ l) [] = inr (λ e. let z : ◌≡◌ {A = ℕ} 0 1 = cc in absurd (omega arith))
eq_list d (x ∷ l) (y ∷ m) = same (λ h. rw (h.0, h.1)) (λ e. ((cc), (cc))) (and_then (d x y) (λ _. eq_list d l m))

-- one slot
op : (o : Op) → Decided (OpOk o)
op o =
    same (λ h. record { coded = h.0; valid = h.1 }) (λ h. (h.coded, h.valid)) (and_then (eq_flag _ true) (λ _. eq_flag _ true))

zero_op : (o : Op) → Decided (o ≡ no_op)
zero_op o =
    same
    (λ h. λ i. record { code = h.0 i; cell = h.1.0 i; second = h.1.1.0 i; amount = h.1.1.1 i })
    (λ e. (ap (λ (o : Op). o.code) e, (ap (λ (o : Op). o.cell) e, (ap (λ (o : Op). o.second) e, ap (λ (o : Op). o.amount) e))))
    (and_then (eq o.code 0) (λ _. and_then (eq o.cell 0) (λ _. and_then (eq o.second 0) (λ _. eq o.amount 0))))

ops : (v : Slot) → Decided (OpsOk v)
ops v = below (OpAt v) 7 (λ k l.
    same (λ h. record { within = h.0; past = h.1 }) (λ h. (h.within, h.past))
    (and_then (when (lt k v.count) (λ _. op (op_at v k))) (λ _. when (le v.count k) (λ _. zero_op (op_at v k)))))

zero_ops : (v : Slot) → Decided (OpsZero v)
zero_ops v = below (λ k. op_at v k ≡ no_op) 7 (λ k _. zero_op (op_at v k))

slot : (v : Slot) → length v.ops ≡ 7 → v.id < 2 ^ 32 → Decided ((v ≡ slot_free) ⊎ Holds v)
slot v n i =
    or_else
    (same
    (λ h. all_zero v n h.0 h.1.0 h.1.1.0 h.1.1.1.0 h.1.1.1.1.0 h.1.1.1.1.1.0 h.1.1.1.1.1.1.0 h.1.1.1.1.1.1.1)
    (λ e. (free_zero v e, (ap (λ (v : Slot). v.id) e, (ap (λ (v : Slot). v.class) e, (ap (λ (v : Slot). v.count) e, (ap (λ (v : Slot). v.number) e, (ap (λ (v : Slot). v.done) e, (ap (λ (v : Slot). v.mark) e, ap (λ (v : Slot). v.backs) e))))))))
    (and_then (zero_ops v) (λ _. and_then (eq v.id 0) (λ _. and_then (eq v.class 0) (λ _. and_then (eq v.count 0) (λ _. and_then (eq v.number 0) (λ _. and_then (eq v.done 0) (λ _. and_then (eq v.mark 0) (λ _. eq v.backs 0)))))))))
    (same
    (λ h. holds v n h.0 h.1.0 i h.1.1.0 h.1.1.1.0 h.1.1.1.1)
    (λ h. let g = held v n h in (g.ops, (g.id, (g.class, (g.count, h.count)))))
    (and_then (ops v) (λ _. and_then (lt 0 v.id) (λ _. and_then (lt v.class 16) (λ _. and_then (lt 0 v.count) (λ _. le v.count 7))))))

-- every one of a list
all : {A : Type 0} (P : A → Type 0) → ((x : A) → Decided (P x)) → (l : List A) → Decided (All P l)
all P d [] = inl tt
all P d (x ∷ l) = and_then (d x) (λ _. all P d l)

-- numbers in n places
apart : (n : ℕ) (f : ℕ → ℕ) → Decided (Apart n f)
apart n f =
    same (λ h i j l k e. h j k i l e) (λ h j k i l e. h i j l k e)
    (below (λ j. (i : ℕ) → i < j → f i ≡ f j → f i ≡ 0) n (λ j _. below (λ i. f i ≡ f j → f i ≡ 0) j (λ i _. when (eq (f i) (f j)) (λ _. eq (f i) 0))))

-- of the last 256 numbers
recent : (top : ℕ) (P : ℕ → Type 0) → ((n : ℕ) → Decided (P n)) → Decided ((n : ℕ) → Recent top n → P n)
recent top P d =
    same (λ h n r. h n (omega (arith, r.within)) r.given r.last) (λ h n l a b. h n (record { given = a; within = omega arith; last = b }))
    (below (λ n. 0 < n → top < n + 256 → P n) (suc top) (λ n _. when (lt 0 n) (λ _. when (lt top (n + 256)) (λ _. d n))))

-- a queue
waiting : (x : Item) → Decided (Waiting x)
waiting (booking e) = eq e.number 0
waiting (reading p b) = inr (λ h. h)

follows : (m : ℕ) (x : Item) → Decided (Follows m x)
follows m (booking e) = lt m e.number
follows m (reading p b) = le m b

untouched : (x : Item) → Decided (Untouched x)
untouched (booking e) = and_then (eq e.done 0) (λ _. eq e.mark 0)
untouched (reading p b) = inl tt

three : {P Q R : Type 0} → Decided P → Decided Q → Decided R → Decided (P × Q × R)
three p q r = same (λ h. (h.0, h.1.0, h.1.1)) (λ h. (h.0, (h.1, h.2))) (and_then p (λ _. and_then q (λ _. r)))

order : (m top : ℕ) (q : List Item) → Decided (InOrder m top q)
order m top [] = inl tt
order m top (x ∷ q) = or_else (three (follows m x) (le (line x) top) (order (line x) top q)) (and_then (waiting x) (λ _. all Waiting waiting q))

rest : (q : List Item) → Decided (Rest q)
rest [] = inl tt
rest (x ∷ q) = all Untouched untouched q

-- a class's cells
at_head : (x : Item) (base w : List ℕ) → Decided (AtHead x base w)
at_head (reading p b) base w = eq_list eq w base
at_head (booking e) base w =
    same
    (λ h. record { within = h.0; unfinished = h.1.0; mark = h.1.1.0; cells = h.1.1.1 })
    (λ h. (h.within, (h.unfinished, (h.mark, h.cells))))
    (and_then (le e.done (length (ops_of e))) (λ _. and_then (when (lt 0 e.number) (λ _. lt e.done (length (ops_of e)))) (λ _.
    and_then (eq e.mark (mark_of (so_far e base))) (λ _. eq_list eq w (leaves (so_far e base) base)))))

cells : (q : List Item) (base w : List ℕ) → Decided (Cells q base w)
cells [] base w = eq_list eq w base
cells (x ∷ q) base w = at_head x base w

module _ (s : Store) (w : Shaped s) where
  -- past 136 nothing may stand
  past : (c b : ℕ) → 136 ≤ b → stands_at s c b ≡ 0
  past c b k =
      let z : (query_at s.queries (b - 128)).classes ≡ 0 = ap (λ (q : Query). q.classes) (get_or-eq_default s.queries free_query (omega (arith, w.queries))) in
      rw (le-ltb b 128 (omega arith), z, none_named c)

  not_in : (b : ℕ) (ps : List ℕ) → 136 ≤ b → All (λ x. x < 136) ps → times b ps ≡ 0
  not_in b [] k h = refl
  not_in b (x ∷ ps) k h = rw (ne_eqb x b (λ e. omega (arith, h.0))) (not_in b ps k h.1)

  once : Decided (Once s)
  once =
      same
      (λ h c b l. by_test (ltb b 136) (λ t. h.1 c l b (ltb-true b 136 t)) (λ f. not_in b (places s c) (ltb-false b 136 f) (h.0 c l) ∙ sym (past c b (ltb-false b 136 f))))
      (λ o. ((λ c l. all_map (Stays s c) (λ b. b < 136) (λ b h. stays_small s w.slots w.queries c b h) (places s c) (stays_of s o c l)), (λ c l b _. o c b l)))
      (and_then (below (λ c. All (λ b. b < 136) (places s c)) 16 (λ c _. all (λ b. b < 136) (λ b. lt b 136) (places s c)))
      (λ _. below (λ c. (b : ℕ) → b < 136 → times b (places s c) ≡ stands_at s c b) 16
      (λ c _. below (λ b. times b (places s c) ≡ stands_at s c b) 136 (λ b _. eq (times b (places s c)) (stands_at s c b)))))

  free_queries : Decided ((p : ℕ) → (query_at s.queries p).classes ≡ 0 → (query_at s.queries p).begun ≡ 0)
  free_queries =
      same
      (λ h p z. by_test (ltb p 8) (λ t. h p (ltb-true p 8 t) z)
      (λ f. ap (λ (q : Query). q.begun) (get_or-eq_default s.queries free_query (omega (arith, w.queries, ltb-false p 8 f)))))
      (λ h p _ z. h p z)
      (below (λ p. (query_at s.queries p).classes ≡ 0 → (query_at s.queries p).begun ≡ 0) 8
      (λ p _. when (eq (query_at s.queries p).classes 0) (λ _. eq (query_at s.queries p).begun 0)))

  laid : Decided (Laid s)
  laid =
      same
      (λ h. record { free_or_valid = h.0; not_longer_than_136 = h.1.0; exactly_once = h.1.1.0; past_the_end_zero = h.1.1.1.0; map_agrees = h.1.1.1.1.0; unused_zero = λ n k m. h.1.1.1.1.1.0 n (omega arith) k; free_queries_zero = h.1.1.1.1.1.1 })
      (λ h. (h.free_or_valid, (h.not_longer_than_136, (h.exactly_once, (h.past_the_end_zero, (h.map_agrees, ((λ n k m. h.unused_zero n m (omega arith)), h.free_queries_zero)))))))
      (and_then (below (λ i. (slot_at s.slots i ≡ slot_free) ⊎ Holds (slot_at s.slots i)) 128 (λ i l. slot (slot_at s.slots i) (w.ops i l) (w.ids i l)))
      (λ _. and_then (below (λ c. get_or s.lens c 0 ≤ 136) 16 (λ c l. le (get_or s.lens c 0) 136))
      (λ _. and_then once
      (λ _. and_then (below (λ c. drop (len_of s c) (part s.queue c) ≡ replicate (136 - len_of s c) 0) 16 (λ c _. eq_list eq (drop (len_of s c) (part s.queue c)) (replicate (136 - len_of s c) 0)))
      (λ _. and_then (eq_list eq_flag (used_of s.low s.high) (map is_used s.slots))
      (λ _. and_then (below (λ n. s.confirmations < n → kept_at s n ≡ 0) 257 (λ n _. when (lt s.confirmations n) (λ _. eq (kept_at s n) 0)))
      (λ _. free_queries)))))))

  pub sound_decided : (base wrk : List ℕ) → Decided (Sound s base wrk)
  sound_decided base wrk =
      same
      (λ h. record { laid = h.0; ids_differ = h.1.0; confirmed_before_waiting = h.1.1.0; numbers_differ = h.1.1.1.0; counts_agree = h.1.1.1.1.0; backs_bounded = h.1.1.1.1.1.0; only_a_head_done = h.1.1.1.1.1.1.0; working_cells_follow = h.1.1.1.1.1.1.1.0; sums_right = h.1.1.1.1.1.1.1.1.0; kept_not_zero = h.1.1.1.1.1.1.1.1.1.0; kept_differ = λ m n r q. h.1.1.1.1.1.1.1.1.1.1.0 m r n q; kept_queued = h.1.1.1.1.1.1.1.1.1.1.1 })
      (λ h. (h.laid, (h.ids_differ, (h.confirmed_before_waiting, (h.numbers_differ, (h.counts_agree, (h.backs_bounded, (h.only_a_head_done, (h.working_cells_follow, (h.sums_right, (h.kept_not_zero, ((λ m r n q. h.kept_differ m n r q), h.kept_queued))))))))))))
      (and_then laid
      (λ _. and_then (apart 128 (λ i. (slot_at s.slots i).id))
      (λ _. and_then (below (λ c. InOrder 0 s.confirmations (queue_of s c)) 16 (λ c _. order 0 s.confirmations (queue_of s c)))
      (λ _. and_then (apart 128 (λ i. (slot_at s.slots i).number))
      (λ _. and_then (eq s.confirmations (s.commits + sum (λ c. count has_number (queue_of s c)) 16))
      (λ _. and_then (below (λ i. (slot_at s.slots i).backs ≤ s.confirmations + s.begun) 128 (λ i _. le (slot_at s.slots i).backs (s.confirmations + s.begun)))
      (λ _. and_then (below (λ c. Rest (queue_of s c)) 16 (λ c _. rest (queue_of s c)))
      (λ _. and_then (below (λ c. Cells (queue_of s c) (cells_of base c) (cells_of wrk c)) 16 (λ c _. cells (queue_of s c) (cells_of base c) (cells_of wrk c)))
      (λ _. and_then (below (λ c. get_or s.sums c 0 ≡ confirmed_costs (queue_of s c)) 16 (λ c _. eq (get_or s.sums c 0) (confirmed_costs (queue_of s c))))
      (λ _. and_then (recent s.confirmations (λ n. 0 < kept_at s n) (λ n. lt 0 (kept_at s n)))
      (λ _. and_then (recent s.confirmations (λ m. (n : ℕ) → Recent s.confirmations n → kept_at s m ≡ kept_at s n → m ≡ n)
      (λ m. recent s.confirmations (λ n. kept_at s m ≡ kept_at s n → m ≡ n) (λ n. when (eq (kept_at s m) (kept_at s n)) (λ _. eq m n))))
      (λ _. below (λ i. is_used (slot_at s.slots i) ≡ true → (n : ℕ) → Recent s.confirmations n → ((slot_at s.slots i).number ≡ n) ↔ ((slot_at s.slots i).id ≡ kept_at s n)) 128
      (λ i _. when (eq_flag (is_used (slot_at s.slots i)) true) (λ _. matches (slot_at s.slots i).number (slot_at s.slots i).id))))))))))))))
    where
      matches : (number id : ℕ) → Decided ((n : ℕ) → Recent s.confirmations n → (number ≡ n) ↔ (id ≡ kept_at s n))
      matches number id = recent s.confirmations (λ n. (number ≡ n) ↔ (id ≡ kept_at s n))
          (λ n. and_then (when (eq number n) (λ _. eq id (kept_at s n))) (λ _. when (eq id (kept_at s n)) (λ _. eq number n)))
