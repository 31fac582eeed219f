-- The bytes of a slot are a record of its request, and a record has only those bytes. Assumes nothing.
use Prim.Native.Nat.{ℕ, zero, suc, ◌+◌, ◌*◌, ◌-◌, ◌/◌, ◌%◌, ◌<◌, ◌≤◌}
use native.Mathlib.Omega.{arith}
use mathlib.Core.Path.{◌≡◌, refl, sym, ap, ◌∙◌, subst}
use mathlib.Core.Bool.{true}
use mathlib.Core.Option.{some, none-ne-some, some-injective}
use mathlib.Core.List.{List, [], ◌∷◌, ◌++◌, map}
use lib.Dec.{ltb}
use lib.ListN.{length, get_or, take, drop, replicate, length-append, take-append-drop, get_or-append}
use lib.Seq.{ext_get_or, get_or-append-add}
use borrow.Author.Tests.{ltb-true, ltb-false, eqb-true}
use Rattle.plain.specs.Sizes.{most_ops, record_size, word}
use Rattle.plain.specs.Ops as P
use Rattle.plain.specs.Record.{record_rules, byte, number, op_place, is_record, request_in, request}
use Rattle.plain.specs.Sound.{All}
use Rattle.plain.proofs.Tests.{by_test, all_true}
use Rattle.plain.proofs.Deciding.{holds}
use Rattle.cells.specs.declared.Op.{Op}
use Rattle.cells.specs.Ops.{no_op, op_of, OpOk}
use Rattle.cells.proofs.Ops.{facts, by_code}
use Rattle.slots.specs.declared.Slot.{Slot}
use Rattle.slots.specs.Meaning.{op_at, request_of}
use Rattle.slots.specs.Rules.{Holds, New, SpareZero, op_within, ops_within, slot_within}
use Rattle.slots.proofs.Records.{all_at, all_of_map, all_ops, ops_count, held}
use Rattle.slots.proofs.Reading.{Bytes, ops_long, op_in_lem, same_request, decides_record}
use Rattle.decimal.proofs.Runs.{all_append}
use Rattle.text.specs.Text.{joined}
use Rattle.text.specs.Pieces.{bytes_of_op, bytes_of_head, bytes_of_record}
use Rattle.text.proofs.Pieces.{struct_of, second_small}
use Rattle.text.proofs.Standing.{head_rules}

-- WHERE THE BYTES STAND
ops_long_by : (os : List Op) → length (joined bytes_of_op os) ≡ 8 * length os
ops_long_by [] = refl
ops_long_by (o ∷ os) = omega (arith, length-append (bytes_of_op o) (joined bytes_of_op os), ops_long_by os)

op_byte : (os : List Op) (k j : ℕ) → k < length os → j < 8 → get_or (joined bytes_of_op os) (8 * k + j) 0 ≡ get_or (bytes_of_op (get_or os k no_op)) j 0
op_byte [] k j l m = absurd (omega arith)
op_byte (o ∷ os) zero j l m =
    let e : 8 * 0 + j ≡ j = omega arith in rw e (get_or-append (bytes_of_op o) (joined bytes_of_op os) 0 j m)
op_byte (o ∷ os) (suc k) j l m =
    let e : 8 * suc k + j ≡ 8 + (8 * k + j) = omega arith in
    rw e (get_or-append-add (bytes_of_op o) (joined bytes_of_op os) (8 * k + j) 0 ∙ op_byte os k j (omega arith) m)

module _ (v : Slot) (seven : length v.ops ≡ most_ops) where
  pub record_long : length (bytes_of_record v) ≡ record_size
  record_long =
      omega (arith, length-append (bytes_of_head v.id v.class v.count) (joined bytes_of_op v.ops), ops_long_by v.ops)

  -- byte j of operation k
  pub byte_at : (k j : ℕ) → k < most_ops → j < 8 → byte (bytes_of_record v) (op_place k + j) ≡ get_or (bytes_of_op (op_at v k)) j 0
  byte_at k j l m =
      let e : op_place k + j ≡ 8 + (8 * k + j) = omega arith in
      rw e
      (get_or-append-add (bytes_of_head v.id v.class v.count) (joined bytes_of_op v.ops) (8 * k + j) 0 ∙ op_byte v.ops k j (omega arith) m)

joined_small : (os : List Op) → ((k : ℕ) → k < length os → All (λ x. x < 256) (bytes_of_op (get_or os k no_op))) → All (λ x. x < 256) (joined bytes_of_op os)
joined_small [] h = tt
joined_small (o ∷ os) h = all_append (λ x. x < 256) (bytes_of_op o) (joined bytes_of_op os) (h 0 (omega arith)) (joined_small os (λ k l. h (suc k) (omega arith)))

-- A NUMBER OF FOUR BYTES
word_number : (a b c d n : ℕ) → n < word → a ≡ n % 256 → b ≡ n / 256 % 256 → c ≡ n / 65536 % 256 → d ≡ n / 16777216
    → a + 256 * b + 65536 * c + 16777216 * d ≡ n
word_number a b c d n l e f g h = omega arith

-- A RECORD OF THE SLOT'S REQUEST
module _ (v : Slot) (seven : length v.ops ≡ most_ops) (new : New v) where
  amount_fits : (k : ℕ) → k < most_ops → (op_at v k).amount < word
  amount_fits k l =
      let h = (held v seven new.held).ops k l in
      by_test (ltb k v.count)
      (λ y. (facts (h.within (ltb-true k v.count y))).amount)
      (λ n. rw (h.past (ltb-false k v.count n)) (omega arith))

  op_there : (k : ℕ) → k < most_ops → op_within (bytes_of_record v) k ≡ op_at v k
  op_there k l =
      let at = op_place k in
      let o = op_at v k in
      let z : at + 0 ≡ at = omega arith in
      let code : byte (bytes_of_record v) at ≡ o.code = rw z at (byte_at v seven k 0 l (omega arith)) in
      let cell = byte_at v seven k 1 l (omega arith) in
      let second = byte_at v seven k 2 l (omega arith) in
      let five : at + 4 + 1 ≡ at + 5 = omega arith in
      let six : at + 4 + 2 ≡ at + 6 = omega arith in
      let eight : at + 4 + 3 ≡ at + 7 = omega arith in
      let amount : number (bytes_of_record v) (at + 4) ≡ o.amount =
      word_number _ _ _ _ o.amount (amount_fits k l)
      (byte_at v seven k 4 l (omega arith))
      (rw five (byte_at v seven k 5 l (omega arith)))
      (rw six (byte_at v seven k 6 l (omega arith)))
      (rw eight (byte_at v seven k 7 l (omega arith))) in
      λ i. record { code = code i; cell = cell i; second = second i; amount = amount i }

  ops_there : ops_within (bytes_of_record v) 0 most_ops ≡ v.ops
  ops_there =
      ext_get_or no_op (ops_within (bytes_of_record v) 0 most_ops) v.ops (ops_long (bytes_of_record v) 0 most_ops ∙ sym seven)
      (λ k l. let m : k < most_ops = omega (arith, ops_long (bytes_of_record v) 0 most_ops) in op_in_lem (bytes_of_record v) k m ∙ op_there k m)

  slot_there : v.id < word → slot_within (bytes_of_record v) ≡ v
  slot_there l =
      let id : number (bytes_of_record v) 0 ≡ v.id = word_number _ _ _ _ v.id l refl refl refl refl in
      λ i. record {
        id = id i;
        class = v.class;
        count = v.count;
        ops = ops_there i;
        number = sym new.number i;
        done = sym new.done i;
        mark = sym new.mark i;
        backs = sym new.backs i;
      }

  spare : SpareZero (bytes_of_record v)
  spare = record { head = (refl, refl); ops = λ k l. byte_at v seven k 3 l (omega arith) }

  op_small : (k : ℕ) → k < most_ops → All (λ x. x < 256) (bytes_of_op (op_at v k))
  op_small k l =
      let h = (held v seven new.held).ops k l in
      by_test (ltb k v.count)
      (λ y.
      let ok = h.within (ltb-true k v.count y) in
      let f = facts ok in
      let j = second_small (op_at v k) ok in
      (omega arith, (omega arith, (omega arith, (omega arith, (omega arith, (omega arith, (omega arith, (omega arith, tt)))))))))
      (λ n. rw (h.past (ltb-false k v.count n))
      (omega arith, (omega arith, (omega arith, (omega arith, (omega arith, (omega arith, (omega arith, (omega arith, tt)))))))))

  pub record_of : request (bytes_of_record v) ≡ some (request_of v)
  unfolding request
  record_of =
      let rules = head_rules (request_of v) new.held.valid in
      let few = new.held.count in
      let small : All (λ x. x < 256) (bytes_of_record v) = (
        omega arith,
        (
          omega (arith, rules.id_fits),
          (
            omega arith,
            (
              omega (arith, rules.id_fits),
              (
                omega (arith, rules.class_fits),
                (omega arith, (omega arith, (omega arith, joined_small v.ops (λ k l. op_small k (omega (arith, seven)))))),
              ),
            ),
          ),
        ),
      ) in
      let bytes : Bytes (bytes_of_record v) = all_at (λ x. x < 256) 0 (bytes_of_record v) small in
      let same = slot_there rules.id_fits in
      let is : is_record (bytes_of_record v) ≡ true =
      holds (decides_record (bytes_of_record v) bytes (record_long v seven)) (spare, subst Holds (sym same) new.held) in
      rw is (ap some (sym (same_request (bytes_of_record v) few) ∙ ap request_of same))

-- ONE RECORD FOR A REQUEST
eight : (X : ℕ → Type 0) → X 0 → X 1 → X 2 → X 3 → X 4 → X 5 → X 6 → X 7 → (j : ℕ) → j < 8 → X j
eight X a b c d e f g h zero l = a
eight X a b c d e f g h (suc zero) l = b
eight X a b c d e f g h (suc (suc zero)) l = c
eight X a b c d e f g h (suc (suc (suc zero))) l = d
eight X a b c d e f g h (suc (suc (suc (suc zero)))) l = e
eight X a b c d e f g h (suc (suc (suc (suc (suc zero))))) l = f
eight X a b c d e f g h (suc (suc (suc (suc (suc (suc zero)))))) l = g
eight X a b c d e f g h (suc (suc (suc (suc (suc (suc (suc zero))))))) l = h
eight X a b c d e f g h (suc (suc (suc (suc (suc (suc (suc (suc j)))))))) l = absurd (omega arith)

record Four (n a b c d : ℕ) : Type 0 where
  first : n % 256 ≡ a
  second : n / 256 % 256 ≡ b
  third : n / 65536 % 256 ≡ c
  fourth : n / 16777216 ≡ d

four : (a b c d : ℕ) → a < 256 → b < 256 → c < 256 → d < 256 → Four (a + 256 * b + 65536 * c + 16777216 * d) a b c d
four a b c d h i j k = record { first = omega arith; second = omega arith; third = omega arith; fourth = omega arith }

-- the bytes from the slot that they name
module _ (b : List ℕ) (bytes : Bytes b) (long : length b ≡ record_size) (spare : SpareZero b) where
  word_at : (p : ℕ) → p + 4 ≤ 64 → Four (number b p) (byte b p) (byte b (p + 1)) (byte b (p + 2)) (byte b (p + 3))
  word_at p l =
      four (byte b p) (byte b (p + 1)) (byte b (p + 2)) (byte b (p + 3)) (bytes p (omega arith)) (bytes (p + 1) (omega arith))
      (bytes (p + 2) (omega arith)) (bytes (p + 3) (omega arith))

  op_bytes : (k j : ℕ) → k < most_ops → j < 8 → get_or (bytes_of_op (op_within b k)) j 0 ≡ byte b (op_place k + j)
  op_bytes k j l m =
      let at = op_place k in
      let w = word_at (at + 4) (omega arith) in
      let z : at ≡ at + 0 = omega arith in
      let five : at + 4 + 1 ≡ at + 5 = omega arith in
      let six : at + 4 + 2 ≡ at + 6 = omega arith in
      let seven : at + 4 + 3 ≡ at + 7 = omega arith in
      eight (λ j. get_or (bytes_of_op (op_within b k)) j 0 ≡ byte b (op_place k + j))
      (ap (byte b) z)
      refl
      refl
      (sym (spare.ops k l))
      w.first
      (w.second ∙ ap (byte b) five)
      (w.third ∙ ap (byte b) six)
      (w.fourth ∙ ap (byte b) seven)
      j m

  rebuilt : bytes_of_record (slot_within b) ≡ b
  rebuilt =
      let n = ops_long b 0 most_ops in
      let w = word_at 0 (omega arith) in
      ext_get_or 0 (bytes_of_record (slot_within b)) b (record_long (slot_within b) n ∙ sym long)
      (λ i l. let m : i < 64 = omega (arith, record_long (slot_within b) n) in
      by_test (ltb i 8)
      (λ y. eight (λ i. byte (bytes_of_record (slot_within b)) i ≡ byte b i) w.first w.second w.third w.fourth refl refl
      (sym spare.head.0) (sym spare.head.1) i (ltb-true i 8 y))
      (λ f.
      let k = (i - 8) / 8 in
      let j = (i - 8) % 8 in
      let h = ltb-false i 8 f in
      let few : k < most_ops = omega arith in
      let e : op_place k + j ≡ i = omega arith in
      subst (λ (x : ℕ). byte (bytes_of_record (slot_within b)) x ≡ byte b x) e
      (byte_at (slot_within b) n k j few (omega arith)
      ∙ ap (λ (o : Op). get_or (bytes_of_op o) j 0) (op_in_lem b k few) ∙ op_bytes k j few (omega arith))))

-- a slot from its request
abbrev slot_of : P.Request → Slot
slot_of r = record {
  id = r.id;
  class = r.class;
  count = length r.ops;
  ops = map struct_of r.ops ++ replicate (most_ops - length r.ops) no_op;
  number = 0;
  done = 0;
  mark = 0;
  backs = 0;
}

struct_of_lem : (o : Op) → OpOk o → struct_of (op_of o) ≡ o
struct_of_lem o h =
    let f = facts h in
    by_code (λ p. struct_of p ≡ o) o f.known.0 f.known.1
    (λ e. let z = f.zero (omega arith) in λ i. record { code = sym e i; cell = o.cell; second = sym z i; amount = o.amount })
    (λ e. let z = f.zero (omega arith) in λ i. record { code = sym e i; cell = o.cell; second = sym z i; amount = o.amount })
    (λ e. let z = f.zero (omega arith) in λ i. record { code = sym e i; cell = o.cell; second = sym z i; amount = o.amount })
    (λ e i. record { code = sym e i; cell = o.cell; second = o.second; amount = o.amount })

structs_of : (os : List Op) → All OpOk os → map struct_of (map op_of os) ≡ os
structs_of [] h = refl
structs_of (o ∷ os) h = let p = struct_of_lem o h.0 in let q = structs_of os h.1 in cc

slot_of_lem : (v : Slot) → length v.ops ≡ most_ops → New v → v ≡ slot_of (request_of v)
slot_of_lem v seven new =
    let n = ops_count v seven new.held in
    let few = new.held.count in
    let ok = all_ops v seven OpOk few (λ k l. ((held v seven new.held).ops k (omega arith)).within l) in
    let count : v.count ≡ length (map op_of (take v.count v.ops)) = sym n in
    let ops : v.ops ≡ map struct_of (map op_of (take v.count v.ops)) ++ replicate (most_ops - length (map op_of (take v.count v.ops))) no_op =
    sym (take-append-drop v.count v.ops)
    ∙ ap (λ (l : List Op). l ++ drop v.count v.ops) (sym (structs_of (take v.count v.ops) ok))
    ∙ ap (λ (l : List Op). map struct_of (map op_of (take v.count v.ops)) ++ l)
    (new.held.rest ∙ ap (λ (m : ℕ). replicate (most_ops - m) no_op) count) in
    λ i. record {
      id = v.id;
      class = v.class;
      count = count i;
      ops = ops i;
      number = new.number i;
      done = new.done i;
      mark = new.mark i;
      backs = new.backs i;
    }

-- a record has the bytes of the slot of its request
record_is : (b : List ℕ) → is_record b ≡ true → b ≡ bytes_of_record (slot_of (request_in b))
unfolding is_record
record_is b e =
    let t = all_true (record_rules b) e in
    let long = eqb-true (length b) record_size t.0 in
    let small = all_of_map (λ x. ltb x 256) (λ y. y ≡ true) b (all_true (map (λ x. ltb x 256) b) t.1.0) in
    let bytes : Bytes b = λ i l. ltb-true _ _ (all_at (λ x. ltb x 256 ≡ true) 0 b small i l) in
    let d = (decides_record b bytes long).yes e in
    let new : New (slot_within b) = record { held = d.1; number = refl; done = refl; mark = refl; backs = refl } in
    sym (rebuilt b bytes long d.0)
    ∙ ap bytes_of_record (slot_of_lem (slot_within b) (ops_long b 0 most_ops) new ∙ ap slot_of (same_request b d.1.count))

pub one_record : (a b : List ℕ) (r : P.Request) → request a ≡ some r → request b ≡ some r → a ≡ b
unfolding request
one_record a b r e f =
    by_test (is_record a)
    (λ y. by_test (is_record b)
    (λ z.
    let p : request_in a ≡ r = some-injective (request_in a) r (rw y at e) in
    let q : request_in b ≡ r = some-injective (request_in b) r (rw z at f) in
    record_is a y ∙ ap (λ (x : P.Request). bytes_of_record (slot_of x)) (p ∙ sym q) ∙ sym (record_is b z))
    (λ n. absurd (none-ne-some r (rw n at f))))
    (λ n. absurd (none-ne-some r (rw n at e)))

-- a record has 64 bytes
pub sixty_four : (b : List ℕ) (r : P.Request) → request b ≡ some r → length b ≡ record_size
unfolding request is_record
sixty_four b r e =
    by_test (is_record b)
    (λ y. eqb-true (length b) record_size (all_true (record_rules b) y).0)
    (λ n. absurd (none-ne-some r (rw n at e)))
