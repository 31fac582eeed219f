-- 64 bytes are a record exactly if the spare ones are zero and the slot that they name holds one: both say the same of each place, and
-- the slot's request is the one that plain reads. Assumes nothing.
use Prim.Native.Nat.{ℕ, zero, suc, ◌+◌, ◌<◌, ◌≤◌}
use native.Mathlib.Omega.{arith}
use mathlib.Core.Path.{◌≡◌, refl, sym, ap, ◌∙◌}
use mathlib.Core.Bool.{Bool, true, false, ◌&&◌}
use mathlib.Core.List.{List, [], ◌∷◌, map}
use lib.Dec.{ltb, eqb}
use lib.ListN.{length, get_or, take}
use borrow.Author.Tests.{eqb-true, eqb-false, eq-eqb, ne_eqb, ltb-true, ltb-false, lt-ltb}
use Rattle.plain.specs.Sizes.{most_ops, record_size, op_size}
use Rattle.plain.specs.Ops as P
use Rattle.plain.specs.Record as R
use Rattle.plain.specs.Record.{byte, number, op_place, is_record}
use Rattle.plain.specs.Decides.{Decides}
use Rattle.plain.proofs.Tests.{by_test, all_true, every_true}
use Rattle.plain.proofs.Deciding.{decided, holds, decides_true, decides_as, decides_eq, decides_both}
use Rattle.plain.proofs.Items.{is_valid}
use Rattle.cells.specs.declared.Op.{Op}
use Rattle.cells.specs.Ops.{no_op, op_of, Coded}
use Rattle.slots.specs.Meaning.{request_of}
use Rattle.slots.specs.Rules.{Holds, ReadInto, SpareZero, op_within, ops_within, slot_within}
use Rattle.slots.proofs.Records.{all_from, map_of_all, all_ops, zeros_from, held}

-- PLACES FROM k ON
at_or_after : (Q : ℕ → Type 0) (k i : ℕ) → Q k → (suc k ≤ i → Q i) → k ≤ i → Q i
at_or_after Q k i q h l =
    by_test (eqb i k) (λ y. rw (eqb-true i k y) q) (λ f. let ne : i ≡ k → ⊥ = eqb-false i k f in h (omega arith))

four : (Q : ℕ → Type 0) (k : ℕ) → Q k → Q (k + 1) → Q (k + 2) → Q (k + 3) → (i : ℕ) → k ≤ i → i < k + 4 → Q i
four Q k a b c d i l m =
    at_or_after Q k i a
    (λ l. at_or_after Q (k + 1) i b
    (λ l. at_or_after Q (k + 2) i c
    (λ l. at_or_after Q (k + 3) i d (λ l. absurd (omega arith)) (omega arith)) (omega arith)) (omega arith)) l

-- five tests that hold
every_five : {p q r s t : Bool} → p ≡ true → q ≡ true → r ≡ true → s ≡ true → t ≡ true → P.every (p ∷ q ∷ r ∷ s ∷ t ∷ []) ≡ true
every_five p q r s t = rw (p, q, r, s, t)

-- each is a byte
abbrev pub Bytes : List ℕ → Type 0
Bytes b = (i : ℕ) → i < length b → byte b i < 256

-- a test of each, n of them
module _ (p : ℕ → Bool) (all : ℕ → ℕ → Bool) (none : (k : ℕ) → all k 0 ≡ true)
    (more : (k n : ℕ) → all k (suc n) ≡ (p k && all (suc k) n)) where
  decides_from : (Q : ℕ → Type 0) → ((k : ℕ) → Decides (p k) (Q k)) → (k n : ℕ) → Decides (all k n) ((i : ℕ) → k ≤ i → i < k + n → Q i)
  decides_from Q t k zero = rw (none k) (decides_true (λ i l m. absurd (omega arith)))
  decides_from Q t k (suc n) =
      rw (more k n)
      (decides_as
      (λ h i l m. at_or_after Q k i h.0 (λ s. h.1 i s (omega arith)) l)
      (λ h. (h k (omega arith) (omega arith), λ i l m. h i (omega arith) (omega arith)))
      (decides_both (t k) (decides_from Q t (suc k) n)))

module _ (b : List ℕ) where
  decides_zeros : (at n : ℕ) → Decides (R.zero_at b at n) ((i : ℕ) → at ≤ i → i < at + n → byte b i ≡ 0)
  decides_zeros =
      decides_from (λ i. eqb (byte b i) 0) (R.zero_at b) (λ k. refl) (λ k n. refl) (λ i. byte b i ≡ 0) (λ i. decides_eq (byte b i) 0)

  -- THE OPERATIONS
  pub ops_long : (k n : ℕ) → length (ops_within b k n) ≡ n
  ops_long k zero = refl
  ops_long k (suc n) = ap suc (ops_long (suc k) n)

  op_from : (k n j : ℕ) → j < n → get_or (ops_within b k n) j no_op ≡ op_within b (k + j)
  op_from k zero j l = absurd (omega arith)
  op_from k (suc n) zero l = let e : k ≡ k + 0 = omega arith in ap (op_within b) e
  op_from k (suc n) (suc j) l =
      let e : suc k + j ≡ k + suc j = omega arith in op_from (suc k) n j (omega arith) ∙ ap (op_within b) e

  pub op_in_lem : (k : ℕ) → k < most_ops → get_or (ops_within b 0 most_ops) k no_op ≡ op_within b k
  op_in_lem k l = let e : 0 + k ≡ k = omega arith in op_from 0 most_ops k l ∙ ap (op_within b) e

  same_ops : (k n m : ℕ) → n ≤ m → map op_of (take n (ops_within b k m)) ≡ R.ops_within b k n
  same_ops k zero m l = refl
  same_ops k (suc n) zero l = absurd (omega arith)
  same_ops k (suc n) (suc m) l = rw (same_ops (suc k) n m (omega arith))

  plain_long : (k n : ℕ) → length (R.ops_within b k n) ≡ n
  plain_long k zero = refl
  plain_long k (suc n) = ap suc (plain_long (suc k) n)

  -- what the bytes of operation k have to be
  pub record Placed (k : ℕ) : Type 0 where
    pub spare : byte b (op_place k + 3) ≡ 0
    pub within : k < byte b 5 → Coded (op_within b k)
    pub past : byte b 5 ≤ k → op_within b k ≡ no_op

  all_zero : (k : ℕ) → ((i : ℕ) → op_place k ≤ i → i < op_place k + op_size → byte b i ≡ 0) → op_within b k ≡ no_op
  all_zero k h =
      let at = op_place k in
      let z : number b (at + 4) ≡ 0 = omega (
        arith,
        h (at + 4) (omega arith) (omega arith),
        h (at + 4 + 1) (omega arith) (omega arith),
        h (at + 4 + 2) (omega arith) (omega arith),
        h (at + 4 + 3) (omega arith) (omega arith),
      ) in
      let z0 = h at (omega arith) (omega arith) in
      let z1 = h (at + 1) (omega arith) (omega arith) in
      let z2 = h (at + 2) (omega arith) (omega arith) in
      λ i. record { code = z0 i; cell = z1 i; second = z2 i; amount = z i }

  zero_all : (k : ℕ) → byte b (op_place k + 3) ≡ 0 → op_within b k ≡ no_op → (i : ℕ) → op_place k ≤ i → i < op_place k + op_size → byte b i ≡ 0
  zero_all k f e i l m =
      let at = op_place k in
      let z : number b (at + 4) ≡ 0 = ap (λ (o : Op). o.amount) e in
      by_test (ltb i (at + 4))
      (λ y. four (λ i. byte b i ≡ 0) at (ap (λ (o : Op). o.code) e) (ap (λ (o : Op). o.cell) e) (ap (λ (o : Op). o.second) e) f
      i l (ltb-true i (at + 4) y))
      (λ n. let s = ltb-false i (at + 4) n in
      four (λ i. byte b i ≡ 0) (at + 4) (omega arith) (omega arith) (omega arith) (omega arith) i s (omega arith))

  decides_placed : (k : ℕ) → Decides (R.op_at_ok b k) (Placed k)
  decides_placed k =
      by_test (ltb k (byte b 5))
      (λ y. rw y
      (decides_as
      (λ h. record { spare = h.1; within = λ s. h.0; past = λ s. absurd (omega (arith, ltb-true k (byte b 5) y)) })
      (λ p. (p.within (ltb-true k (byte b 5) y), p.spare))
      (decides_both (decided (λ e. e) (λ e. e)) (decides_eq (byte b (op_place k + 3)) 0))))
      (λ n. rw n
      (decides_as
      (λ h. record {
        spare = h (op_place k + 3) (omega arith) (omega arith);
        within = λ s. absurd (omega (arith, ltb-false k (byte b 5) n));
        past = λ s. all_zero k h;
      })
      (λ p. zero_all k p.spare (p.past (ltb-false k (byte b 5) n)))
      (decides_zeros (op_place k) op_size)))

  decides_ops : Decides (R.ops_ok_from b 0 most_ops) ((k : ℕ) → 0 ≤ k → k < most_ops → Placed k)
  decides_ops = decides_from (R.op_at_ok b) (R.ops_ok_from b) (λ k. refl) (λ k n. refl) Placed decides_placed 0 most_ops

  -- THE REQUEST
  pub same_request : byte b 5 ≤ most_ops → request_of (slot_within b) ≡ R.request_in b
  unfolding R.request_in
  same_request l = rw (same_ops 0 (byte b 5) most_ops l)

  few : P.valid (R.request_in b) ≡ true → byte b 5 ≤ most_ops
  unfolding R.request_in
  few v = omega (arith, (is_valid (R.request_in b) v).few_ops, plain_long 0 (byte b 5))

  -- what holds of the slot by places
  holds_in : ((k : ℕ) → 0 ≤ k → k < most_ops → Placed k) → P.valid (R.request_in b) ≡ true → Holds (slot_within b)
  holds_in h v =
      let l = few v in
      let long = ops_long 0 most_ops in
      record {
        count = l;
        coded = all_ops (slot_within b) long Coded l (λ k s. rw (op_in_lem k (omega arith)) ((h k (omega arith) (omega arith)).within s));
        rest = zeros_from (slot_within b) long (byte b 5) l (λ k s m. op_in_lem k s ∙ (h k (omega arith) s).past m);
        valid = rw (same_request l) v;
      }

  placed_in : SpareZero b → Holds (slot_within b) → (k : ℕ) → 0 ≤ k → k < most_ops → Placed k
  placed_in z h k o l =
      let at = (held (slot_within b) (ops_long 0 most_ops) h).ops k l in
      let e : get_or (ops_within b 0 most_ops) k no_op ≡ op_within b k = op_in_lem k l in
      record { spare = z.ops k l; within = λ s. rw e at (at.within s).coded; past = λ s. sym e ∙ at.past s }

  -- A RECORD
  pub not_record : (length b ≡ record_size → ⊥) → is_record b ≡ false
  unfolding is_record
  not_record n = rw (ne_eqb (length b) record_size n)

  of_record : is_record b ≡ true → SpareZero b × Holds (slot_within b)
  unfolding is_record
  of_record e =
      let t = all_true (R.record_rules b) e in
      let z = (decides_zeros 6 2).yes t.1.1.0 in
      let p = decides_ops.yes t.1.1.1.0 in
      let spare : SpareZero b = record {
        head = (z 6 (omega arith) (omega arith), z 7 (omega arith) (omega arith));
        ops = λ k s. (p k (omega arith) s).spare;
      } in
      (spare, holds_in p t.1.1.1.1.0)

  holds_record : Bytes b → length b ≡ record_size → SpareZero b → Holds (slot_within b) → is_record b ≡ true
  unfolding is_record
  holds_record h l z r =
      let small = all_from (λ x. ltb x 256 ≡ true) 0 b (λ i s. lt-ltb (byte b i) 256 (h i s)) in
      let spare : R.zero_at b 6 2 ≡ true = rw (z.head.0, z.head.1) in
      let asked : P.valid (R.request_in b) ≡ true = rw (sym (same_request r.count)) r.valid in
      every_five
      (eq-eqb (length b) record_size l)
      (every_true (map (λ x. ltb x 256) b) (map_of_all (λ x. ltb x 256) (λ t. t ≡ true) b small))
      spare
      (holds decides_ops (placed_in z r))
      asked

  pub decides_record : Bytes b → length b ≡ record_size → Decides (is_record b) (SpareZero b × Holds (slot_within b))
  decides_record h l = decided of_record (λ r. holds_record h l r.0 r.1)

  pub refuted : Bytes b → length b ≡ record_size → (SpareZero b → Holds (slot_within b) → ⊥) → is_record b ≡ false
  refuted h l n = by_test (is_record b) (λ t. let p = (decides_record h l).yes t in absurd (n p.0 p.1)) (λ f. f)

  -- what reading came to
  pub a_record : is_record b ≡ true → Holds (slot_within b) → ReadInto b true (slot_within b)
  a_record e h =
      record {
        ok_is = sym e;
        new = λ t. record { held = h; number = refl; done = refl; mark = refl; backs = refl };
        request = λ t. same_request h.count;
      }
