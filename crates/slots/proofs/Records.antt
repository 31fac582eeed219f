-- The rules of one slot, by places and as a valid record: what holds of all of a list holds at each place, and back. Assumes nothing.
use Prim.Native.Nat.{ℕ, zero, suc, ◌+◌, ◌-◌, ◌<◌, ◌≤◌}
use native.Mathlib.Omega.{arith}
use mathlib.Core.Path.{◌≡◌, sym, ap, ◌∙◌, subst}
use mathlib.Core.Bool.{true}
use mathlib.Core.List.{List, [], ◌∷◌, map}
use lib.ListN.{length, get_or, take, drop, replicate, length-map, length-drop, length-replicate, get_or-replicate}
use lib.Seq.{ext_get_or, length-take-le, get_or-take, get_or-drop}
use borrow.Author.Tests.{ne_eqb, lt-ltb, le-leb}
use Rattle.plain.specs.Sizes.{class_count, most_ops, word}
use Rattle.plain.specs.Ops as P
use Rattle.plain.specs.Sound.{All}
use Rattle.plain.proofs.Tests.{every_true}
use Rattle.plain.proofs.Items.{is_valid}
use Rattle.cells.specs.declared.Op.{Op}
use Rattle.cells.specs.Ops.{no_op, op_of, Coded}
use Rattle.slots.specs.declared.Slot.{Slot}
use Rattle.slots.specs.Meaning.{slot_free, op_at, request_of}
use Rattle.slots.specs.Rules.{Holds, OpsOk, OpsZero}

-- ALL OF A LIST, BY PLACE
module _ {A : Type 0} (Q : A → Type 0) (d : A) where
  pub all_from : (l : List A) → ((k : ℕ) → k < length l → Q (get_or l k d)) → All Q l
  all_from [] h = tt
  all_from (x ∷ l) h = (h 0 (omega arith), all_from l (λ k m. h (suc k) (omega arith)))

  pub all_at : (l : List A) → All Q l → (k : ℕ) → k < length l → Q (get_or l k d)
  all_at [] h k m = absurd (omega arith)
  all_at (x ∷ l) h zero m = h.0
  all_at (x ∷ l) h (suc k) m = all_at l h.1 k (omega arith)

-- and of what a function makes of it
module _ {A B : Type 0} (f : A → B) (Q : B → Type 0) where
  pub all_of_map : (l : List A) → All Q (map f l) → All (λ x. Q (f x)) l
  all_of_map [] h = tt
  all_of_map (x ∷ l) h = (h.0, all_of_map l h.1)

  pub map_of_all : (l : List A) → All (λ x. Q (f x)) l → All Q (map f l)
  map_of_all [] h = tt
  map_of_all (x ∷ l) h = (h.0, map_of_all l h.1)

-- THE RULES OF A SLOT
-- what a slot that holds a record has
pub record Held (v : Slot) : Type 0 where
  pub ops : OpsOk v
  pub id : 0 < v.id
  pub class : v.class < class_count
  pub count : 0 < v.count

-- a free slot's operations
pub free_zero : (v : Slot) → v ≡ slot_free → OpsZero v
free_zero v e = subst OpsZero (sym e) (λ k l. get_or-replicate most_ops k no_op no_op l)

module _ (v : Slot) (seven : length v.ops ≡ most_ops) where
  pub zeros_from : (n : ℕ) → n ≤ most_ops → ((k : ℕ) → k < most_ops → n ≤ k → op_at v k ≡ no_op)
      → drop n v.ops ≡ replicate (most_ops - n) no_op
  zeros_from n l h =
      ext_get_or no_op (drop n v.ops) (replicate (most_ops - n) no_op)
      (omega (arith, length-drop n v.ops, length-replicate (most_ops - n) no_op))
      (λ k m. let s : k < most_ops - n = omega (arith, length-drop n v.ops) in
      get_or-drop n v.ops k no_op ∙ h (n + k) (omega arith) (omega arith) ∙ sym (get_or-replicate (most_ops - n) k no_op no_op s))

  -- a slot of which all is zero
  pub all_zero : OpsZero v → v.id ≡ 0 → v.class ≡ 0 → v.count ≡ 0 → v.number ≡ 0 → v.done ≡ 0 → v.mark ≡ 0 → v.backs ≡ 0
      → v ≡ slot_free
  all_zero h a b c d e f g =
      let z : v.ops ≡ replicate most_ops no_op = zeros_from 0 (omega arith) (λ k l m. h k l) in
      λ i. record { id = a i; class = b i; count = c i; ops = z i; number = d i; done = e i; mark = f i; backs = g i }

  taken : v.count ≤ most_ops → length (take v.count v.ops) ≡ v.count
  taken l = length-take-le v.count v.ops (omega arith)

  pub ops_count : Holds v → length (request_of v).ops ≡ v.count
  ops_count h = length-map (take v.count v.ops) op_of ∙ taken h.count

  -- of each operation of the request, by its place in the slot
  pub all_ops : (Q : Op → Type 0) → v.count ≤ most_ops → ((k : ℕ) → k < v.count → Q (op_at v k)) → All Q (take v.count v.ops)
  all_ops Q m h =
      let os = take v.count v.ops in
      all_from Q no_op os (λ k l. let s : k < v.count = omega (arith, taken m) in rw (get_or-take v.count v.ops k no_op s) (h k s))

  pub op_of_all : (Q : Op → Type 0) → v.count ≤ most_ops → All Q (take v.count v.ops) → (k : ℕ) → k < v.count → Q (op_at v k)
  op_of_all Q m h k s =
      let os = take v.count v.ops in
      subst Q (get_or-take v.count v.ops k no_op s) (all_at Q no_op os h k (omega (arith, taken m)))

  -- a valid record, field by field
  pub holds : OpsOk v → 0 < v.id → v.id < word → v.class < class_count → 0 < v.count → v.count ≤ most_ops → Holds v
  unfolding P.valid
  holds h i j c n m =
      let os = take v.count v.ops in
      let long : length (map op_of os) ≡ v.count = length-map os op_of ∙ taken m in
      let ok = all_ops (λ o. P.op_ok (op_of o) ≡ true) m (λ k s. ((h k (omega arith)).within s).valid) in
      record {
        count = m;
        coded = all_ops Coded m (λ k s. ((h k (omega arith)).within s).coded);
        rest = zeros_from v.count m (λ k l s. (h k l).past s);
        valid =
            rw (ne_eqb v.id 0 (λ e. omega arith), lt-ltb v.id word j, lt-ltb v.class class_count c)
            (rw (long, le-leb 1 v.count n, le-leb v.count most_ops m)
            (rw (every_true _ (map_of_all P.op_ok (λ b. b ≡ true) (map op_of os) (map_of_all op_of (λ p. P.op_ok p ≡ true) os ok)))));
      }

  pub held : Holds v → Held v
  held h =
      let r = is_valid (request_of v) h.valid in
      let n = ops_count h in
      let os = take v.count v.ops in
      let ok = all_of_map op_of (λ p. P.op_ok p ≡ true) os (all_of_map P.op_ok (λ b. b ≡ true) (map op_of os) r.ops) in
      record {
        ops = λ k l. record {
          within = λ s. record {
            coded = op_of_all Coded h.count h.coded k s;
            valid = op_of_all (λ o. P.op_ok (op_of o) ≡ true) h.count ok k s;
          };
          past = λ s.
              let w : v.count + (k - v.count) ≡ k = omega arith in
              sym (ap (op_at v) w) ∙ sym (get_or-drop v.count v.ops (k - v.count) no_op)
              ∙ rw h.rest (get_or-replicate (most_ops - v.count) (k - v.count) no_op no_op (omega arith));
        };
        id = omega (arith, r.id);
        class = r.class;
        count = omega (arith, r.some_op);
      }
