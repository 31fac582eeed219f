-- What an operation of a valid record has, in numbers: each of plain's rules is a test, and a test that passes is a fact. Assumes nothing.
use Rattle.std.proofs.Common.{◌≡◌, ℕ, zero, suc, ◌<◌, ◌≤◌, true, false, cond, eqb, ltb, get_or, refl, arith, ltb-false, ltb-true, lt-ltb, ne_eqb, eqb-true, le-leb, leb-true}
use borrow.Author.Tests.{eqb-false, not-true}
use Rattle.plain.specs.Sizes.{cell_count, word}
use Rattle.plain.specs.Ops as P
use Rattle.plain.specs.Record as R
use Rattle.plain.proofs.Tests.{by_test, no, all_true}
use Rattle.cells.specs.declared.Op.{Op}
use Rattle.cells.specs.Ops.{op_of, OpOk}

-- what an operation that keeps its rules has
pub record OpFacts (o : Op) : Type 0 where
  pub known : (1 ≤ o.code) × (o.code ≤ 4)
  pub cell : o.cell < cell_count
  pub zero : o.code < 4 → o.second ≡ 0
  pub second : o.code ≡ 4 → (o.second < cell_count) × (o.cell ≡ o.second → ⊥)
  pub amount : o.amount < word

-- the table: only a move uses its second cell
pub unused : (k : ℕ) → k < 4 → get_or R.uses_second k false ≡ false
unused zero l = refl
unused (suc zero) l = refl
unused (suc (suc zero)) l = refl
unused (suc (suc (suc zero))) l = refl
unused (suc (suc (suc (suc k)))) l = absurd (omega arith)

pub is_used_lem : (k : ℕ) → k ≤ 4 → get_or R.uses_second k false ≡ true → k ≡ 4
is_used_lem k l t = by_test (ltb k 4) (λ y. no _ t (unused k (ltb-true k 4 y))) (λ n. omega (arith, ltb-false k 4 n))

pub not_used : (k : ℕ) → k ≤ 4 → get_or R.uses_second k false ≡ false → k < 4
not_used k l f =
    by_test (ltb k 4) (λ y. ltb-true k 4 y) (λ n. let e : k ≡ 4 = omega (arith, ltb-false k 4 n) in no _ (rw e) f)

-- by the code
pub by_code : (X : P.Op → Type 0) (o : Op) → 1 ≤ o.code → o.code ≤ 4 → (o.code ≡ 1 → X (P.put o.cell o.amount))
    → (o.code ≡ 2 → X (P.add o.cell o.amount)) → (o.code ≡ 3 → X (P.need o.cell o.amount))
    → (o.code ≡ 4 → X (P.move o.cell o.second o.amount)) → X (op_of o)
by_code X o l m a b c d =
    by_test (eqb o.code 1)
    (λ t. rw t (a (eqb-true o.code 1 t)))
    (λ f. by_test (eqb o.code 2)
    (λ t. rw (f, t) (b (eqb-true o.code 2 t)))
    (λ g. by_test (eqb o.code 3)
    (λ t. rw (f, g, t) (c (eqb-true o.code 3 t)))
    (λ h. rw (f, g, h) (d (omega (arith, eqb-false o.code 1 f, eqb-false o.code 2 g, eqb-false o.code 3 h))))))

-- the facts from the rules, and back
pub facts : {o : Op} → OpOk o → OpFacts o
unfolding P.op_ok
facts {o} h =
    let t = all_true (R.code_rules o.code o.second) h.coded in
    let l = leb-true 1 o.code t.0 in
    let m = leb-true o.code 4 t.1.0 in
    let zero : o.code < 4 → o.second ≡ 0 = λ s. eqb-true _ _ (rw (unused o.code s) at t.1.1.0) in
    let few : o.code < 4 → P.every (P.op_rules (P.put o.cell o.amount)) ≡ true → OpFacts o = λ s e.
    let r = all_true (P.op_rules (P.put o.cell o.amount)) e in
    record {
      known = (l, m);
      cell = ltb-true _ _ r.0;
      zero = zero;
      second = λ f. absurd (omega arith);
      amount = ltb-true _ _ r.1.0;
    } in
    by_code (λ p. P.op_ok p ≡ true → OpFacts o) o l m (λ e. few (omega arith)) (λ e. few (omega arith)) (λ e. few (omega arith))
    (λ f e.
    let r = all_true (P.op_rules (P.move o.cell o.second o.amount)) e in
    record {
      known = (l, m);
      cell = ltb-true _ _ r.0;
      zero = zero;
      second = λ f. (ltb-true _ _ r.1.0, eqb-false _ _ (not-true _ r.1.1.0));
      amount = ltb-true _ _ r.1.1.1.0;
    })
    h.valid

pub from_facts : {o : Op} → OpFacts o → OpOk o
unfolding P.op_ok
from_facts {o} h =
    let k = lt-ltb o.cell cell_count h.cell in
    let a = lt-ltb o.amount word h.amount in
    let t : cond (get_or R.uses_second o.code false) true (eqb o.second 0) ≡ true = by_test (ltb o.code 4)
    (λ y. rw (unused o.code (ltb-true _ _ y), h.zero (ltb-true _ _ y)))
    (λ n. let e : o.code ≡ 4 = omega (arith, ltb-false o.code 4 n) in rw e) in
    record {
      coded = rw (le-leb 1 o.code h.known.0, le-leb o.code 4 h.known.1, t);
      valid = by_code (λ p. P.op_ok p ≡ true) o h.known.0 h.known.1 (λ s. rw (k, a)) (λ s. rw (k, a)) (λ s. rw (k, a))
          (λ f. rw (k, lt-ltb o.second cell_count (h.second f).0, ne_eqb _ _ (h.second f).1, a));
    }
