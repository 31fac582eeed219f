-- Operation k is read from its place: each call leaves the bytes, and so the next reads the same. Assumes nothing.
use Rattle.std.proofs.Common.{◌≡◌, ℕ, zero, suc, ◌+◌, ◌<◌, ◌≤◌, List, eqb, get_or, refl, sym, subst, ◌∙◌, arith, rules, eqb-true, ext_get_or}
use Rattle.std.specs.Array.{IsFromFnResultFrom}
use borrow.Author.Tests.{eqb-false}
use denote.Param.Members.{Mut, Called}
use Rattle.plain.specs.Sizes.{most_ops}
use Rattle.plain.proofs.Tests.{by_test}
use Rattle.cells.specs.Ops.{no_op}
use Rattle.slots.specs.Rules.{op_within, ops_within}
use Rattle.slots.proofs.Reading.{ops_long, op_in_lem}
use Rattle.slots.proofs.decode.ops_in.Goals as goal

module _ {F B : Type 0} (g : Mut F (ℕ × Unit {0}) B) (f : F) (wanted : ℕ → B) (n : ℕ)
    (each : (k : ℕ) (y : B) (q : F) → k < n → Called g f (k, tt) y q → (q ≡ f) × (y ≡ wanted k)) where
  made : (p : F) (ys : List B) (i m : ℕ) → p ≡ f → i + m ≡ n → IsFromFnResultFrom g p ys i m
      → (k : ℕ) (d : B) → i ≤ k → k < n → get_or ys k d ≡ wanted k
  made p ys i zero e s h k d l r = absurd (omega arith)
  made p ys i (suc m) e s (q, y, at, call, rest) k d l r =
      let one = each i y q (omega arith) (subst (λ (x : F). Called g x (i, tt) y q) e call) in
      by_test (eqb i k)
      (λ t. let s = eqb-true i k t in rw (← s) (at.1 d ∙ one.1))
      (λ t. let ne = eqb-false i k t in made q ys (i + 1) m one.0 (omega arith) rest k d (omega arith) r)

pub returns : goal.returns
returns c =
    let b = c.args.bytes.now in
    let items = c.from_fn.ensures.items in
    let at = made _ _ (op_within b) most_ops (λ k y q l h. search rules) _ c.from_fn.result 0 most_ops refl refl items.each in
    ext_get_or no_op c.from_fn.result (ops_within b 0 most_ops) (items.long ∙ sym (ops_long b 0 most_ops))
    (λ k l. let s : k < most_ops = omega (arith, items.long) in at k no_op (omega arith) s ∙ sym (op_in_lem b k s))
