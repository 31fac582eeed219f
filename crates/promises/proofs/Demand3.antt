-- Demand 3: an accepted confirmation's request commits in that call if W is 0, else at exactly the W-th accepted work call for its class, whatever
-- calls come between. Assumes nothing.
use Prim.Native.Nat.{ℕ, ◌<◌}
use mathlib.Core.Path.{◌≡◌, sym, ap, ◌∙◌, subst}
use mathlib.Core.Bool.{true}
use mathlib.Core.List.{List}
use Rattle.plain.specs.Steps.{Answer}
use Rattle.plain.specs.Site as P
use Rattle.plain.specs.Site.{Call, Outcome, work, confirm, call, accepts, class_of, entry_at, backs_at}
use Rattle.plain.specs.History.{after_from, works_from}
use Rattle.plain.specs.Demands as D
use Rattle.plain.specs.Demands.{Commits, w_of}
use Rattle.plain.proofs.Demand3 as K
use Rattle.store.specs.Calls.{State, Did, plain_of}
use Rattle.promises.specs.Runs.{Happens, Ready, is_accepted, Accepted, Run, works_in}
use Rattle.promises.specs.Demands.{Waits, Demand3}
use Rattle.promises.proofs.Answers.{accepts_is}
use Rattle.promises.proofs.Stands.{acted, plain_sound, Stands, answers_there, stands, works_counted}

-- where a request waits on the plain site, it waits on the site
waits_there : {s : P.Site} {h : List Call} {z : State} {c i n backs W x : ℕ} → Stands s h z → D.Waits (after_from s h) c i n backs W x → Waits z c i n backs W x
waits_there {s} {h} {c = c} {i = i} {n = n} t w = record {
  works = λ z' a u. ap is_accepted (answers_there t u).0 ∙ accepts_is (after_from s h) (work c) ∙ w.works;
  commits = λ e z' a u. subst (λ (b : Answer). Commits b i n) (sym (answers_there t u).0) (w.commits e);
  no_sooner = λ l z' a u m. w.no_sooner l (subst (λ (b : Answer). Commits b i n) (answers_there t u).0 m);
  says = λ z' a u. (answers_there t u).0 ∙ w.says;
}

pub demand_3 : {x y : State} {i n : ℕ} {a : Answer} → Happens x (confirm i n) y a → Accepted a → Demand3 x i n y a
demand_3 {x} {y} {i} {n} {a} e t = record {
  at_once = subst (λ (b : Answer). w_of b ≡ 0 → Commits b i n) (sym d.answer) p.at_once;
  later = λ l h z r m. waits l h z r (works_counted (d.cells, d.sound) d.site c r) m;
}
  where
    c : ℕ
    c = class_of (plain_of x) i

    o : Outcome
    o = call (plain_of x) (confirm i n)

    g : Ready x
    g = acted e t

    d : Did x (confirm i n) y a
    d = e.called.did g.0 g.1

    accepted : accepts (plain_of x) (confirm i n) ≡ true
    accepted = sym (accepts_is (plain_of x) (confirm i n)) ∙ ap is_accepted (sym d.answer) ∙ t

    backs : ℕ
    backs = backs_at (entry_at (plain_of x) i)

    p : D.Demand3 c i n backs o
    p = K.demand_3 (plain_of x) (plain_sound e.before g.1) i n accepted

    waits : 0 < w_of a → (h : List Call) (z : State) (r : Run y h z) → works_in c r ≡ works_from o.site c h → works_in c r < w_of a
        → Waits z c i n backs (w_of a) (works_in c r)
    waits l h z r q m =
        let v : w_of a ≡ w_of o.answer = ap w_of d.answer in
        rw (v, q) (waits_there (stands (d.cells, d.sound) d.site r) (p.later (rw v at l) h (rw (v, q) at m)))
