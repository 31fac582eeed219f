-- Demand 1: each refusal is given exactly when document 01's table says so, and a refused call touches nothing; and the same of fresh.
-- Assumes nothing.
use Prim.Native.Nat.{ℕ, ◌≤◌}
use native.Mathlib.Omega.{arith}
use mathlib.Core.Path.{◌≡◌, refl, sym, subst, ◌∙◌}
use mathlib.Core.Logic.{◌↔◌}
use mathlib.Core.Bool.{true, false}
use mathlib.Core.List.{List}
use lib.ListN.{length}
use borrow.Author.Tests.{ne_eqb}
use Rattle.plain.specs.Steps.{Answer, refused}
use Rattle.plain.specs.Site as P
use Rattle.plain.specs.Site.{Call, call, accepts, refusal, row, tests}
use Rattle.plain.specs.Sound.{All}
use Rattle.plain.proofs.Table.{in_order, rising, refused_same}
use Rattle.store.specs.Store.{Store}
use Rattle.store.specs.Meaning.{Same}
use Rattle.store.specs.Calls.{State, RightCells, SoundState, Did, Started, plain_of}
use Rattle.store.proofs.Promise.{one_outcome, called_did}
use Rattle.promises.specs.Runs.{Happens, Ready}
use Rattle.promises.specs.Demands.{Demand1, Listed}
use Rattle.promises.proofs.Answers.{answer_number, number_answer, same_number, in_table}
use Rattle.promises.proofs.Stands.{by_contract}

-- the number that is given on a sound site is the table's
module _ {x y : State} {k : Call} {a : Answer} (d : Did x k y a) where
  given : (n : ℕ) → a ≡ refused n → (refusal (plain_of x) k ≡ n) × Listed n
  given n e =
      let r = answer_number (plain_of x) k n (sym d.answer ∙ e) in
      let t = in_table (plain_of x) k (omega (arith, r.0, r.1)) in
      (r.1, subst Listed r.1 t)

  first_row : (n : ℕ) → a ≡ refused n → All (λ t. t.0 ≡ true → row n ≤ row t.1) (tests (plain_of x) k)
  first_row n e = rw (← (given n e).0) (unfold refusal in (in_order (row 2) (tests (plain_of x) k) (rising (plain_of x) k)))

-- a refused plain call leaves the plain site, and so the site
same_left : (s : P.Site) (k : Call) → accepts s k ≡ false → Same s (call s k).site
same_left s k f = rw (refused_same s k f) (record { class = λ c l. refl; confirmations = refl; commits = refl; queries = refl; kept = λ n r. refl })

nothing_touched : {x y : State} {k : Call} {a : Answer} → Happens x k y a → (n : ℕ) → a ≡ refused n → y ≡ x
nothing_touched {x} {y} {k} {a} e n q =
    by_contract e
    (λ r d. let g = given d n q in
    let f : accepts (plain_of x) k ≡ false = ne_eqb (refusal (plain_of x) k) 0 (λ z. omega (arith, g.0, g.1.0)) in
    (one_outcome x k y x a a e.before e.after e.before e.called
    (called_did x k x a r.0 r.1 (record { cells = r.0; sound = r.1; site = same_left (plain_of x) k f; answer = d.answer }))).0)
    (λ m d. d.untouched)

pub demand_1 : {x y : State} {k : Call} {a : Answer} → Happens x k y a → Demand1 x k y a
demand_1 {x} {y} {k} {a} e = record {
  cells = (not_one, (λ n. (e.called.wrong_cells n).answer));
  sound = λ r. ((λ q s. let g = given (did (r, s)) 2 q in omega (arith, g.1.0)), (λ n. (e.called.unsound r n).answer));
  table = λ r n l. ((λ q. (given (did r) n q).0), (λ q. (did r).answer ∙ number_answer (plain_of x) k n l q));
  numbers = λ r n q. (given (did r) n q).1;
  in_order = λ r n q. first_row (did r) n q;
  untouched = λ n q. nothing_touched e n q;
}
  where
    did : Ready x → Did x k y a
    did r = e.called.did r.0 r.1

    not_one : a ≡ refused 1 → RightCells x → ⊥
    not_one q r =
        let u : SoundState x → ⊥ = λ s. (let g = given (did (r, s)) 1 q in omega (arith, g.1.0)) in
        let z = same_number 1 2 (sym q ∙ (e.called.unsound r u).answer) in
        omega arith

-- FRESH refuses exactly where a run of cells is not 1,024 long, and touches no cell then
module _ {base wrk base' wrk' : List ℕ} {t : Store} {n : ℕ} (s : Started base wrk t n base' wrk') where
  pub fresh_refuses : (n ≡ 1) ↔ ((length base ≡ 1024) × (length wrk ≡ 1024) → ⊥)
  fresh_refuses = ((λ q l. let r = (s.right l.0 l.1).0 in omega arith), (λ w. (s.wrong w).0))

  pub fresh_untouched : n ≡ 1 → (base' ≡ base) × (wrk' ≡ wrk)
  fresh_untouched q = let w = s.wrong (fresh_refuses.0 q) in (w.1, w.2)
