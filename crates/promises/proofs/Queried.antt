-- The query's promise over real runs: what holds of the plain history holds of the calls. Assumes nothing.
use Prim.Native.Nat.{ℕ, suc, ◌<◌}
use native.Mathlib.Omega.{arith}
use mathlib.Core.Path.{◌≡◌, refl, sym, ap, ◌∙◌}
use mathlib.Core.Bool.{true}
use mathlib.Core.Option.{none, some}
use mathlib.Core.List.{List, ◌∷◌, ◌++◌}
use lib.Dec.{ltb}
use lib.ListN.{take}
use Rattle.plain.specs.Queue.{place_is, confirmed_costs}
use Rattle.plain.specs.Sound.{SoundSite}
use Rattle.plain.specs.Steps.{Class, Answer, refused, entry, to_do}
use Rattle.plain.specs.Site as P
use Rattle.plain.specs.Site.{Call, offer, work, confirm, read, query, look, call, accepts, named}
use Rattle.plain.specs.History.{after, after_from, works_from, confirmations, confirmed_in}
use Rattle.plain.specs.Demands as D
use Rattle.plain.proofs.Queries as K
use Rattle.plain.proofs.Logs.{counted}
use Rattle.plain.proofs.Steps.{read_of}
use Rattle.plain.proofs.Sites.{named_below, work_accepted}
use Rattle.store.specs.Meaning.{Same, plain}
use Rattle.store.specs.Calls.{State, RightCells, plain_of}
use Rattle.store.proofs.Promise.{same_standing}
use Rattle.store.proofs.Same.{same_answer}
use Rattle.promises.specs.Runs.{Happens, Ready, is_accepted, Accepted, Run, FromFresh, works_in}
use Rattle.promises.specs.Demands.{ReadsAt, Queried}
use Rattle.promises.proofs.Answers.{accepts_is}
use Rattle.promises.proofs.Kept.{answers}
use Rattle.promises.proofs.Stands.{by_contract, plain_sound, Stands, answers_there, stands, stands_fresh, works_counted}

-- where an entry is to be read on the plain site, it is on the site
reads_there : {s : P.Site} {h : List Call} {z : State} {c p n W x : ℕ} {cells : List ℕ} → Stands s h z → D.Reads (after_from s h) c p n cells W x → ReadsAt z c p cells W x
reads_there {s} {h} {c = c} t w = record {
  works = λ z' a u. ap is_accepted (answers_there t u).0 ∙ accepts_is (after_from s h) (work c) ∙ w.works;
  reads = λ e z' a u. (answers_there t u).0 ∙ w.reads e;
  no_sooner = λ l z' a cs u m. w.no_sooner l cs (sym (answers_there t u).0 ∙ m);
}

-- a place that is the lowest free one on a plain site is so on every one that is the same
free_there : (a b : P.Site) (p : ℕ) → Same a b → D.LowestFree b p → D.LowestFree a p
free_there a b p e l = record {
  from_1 = l.from_1;
  to_8 = l.to_8;
  free = opens p ∙ l.free;
  lowest = λ q m k. opens q ∙ l.lowest q m k;
}
  where
    opens : (q : ℕ) → P.is_open a q ≡ P.is_open b q
    opens q = unfold P.is_open in (ap (λ (n : ℕ). ltb 0 n) (same_standing a b e (place_is q)))

pub queried : {h : List Call} {x y : State} {m : ℕ} {a : Answer} → FromFresh h x → Happens x (query m) y a → Accepted a → Queried h x m y a
queried {h} {x} {y} {m} {a} f e t = record {
  place = p.place;
  says = answers f e ∙ p.says;
  lowest_free = free_there (plain_of x) (after h) p.place before p.lowest_free;
  later = λ c k g z r l. later c k g z r (works_counted ready same c r) (ap (λ (q : Class). confirmed_costs q.queue) (before.class c (named_below m c k))) l;
}
  where
    before : Same (plain_of x) (after h)
    before = unfold after in (stands_fresh f).same

    there : (a ≡ (call (after h) (query m)).answer) × Stands P.fresh (query m ∷ h) y
    there = unfold after in (answers_there (stands_fresh f) e)

    ready : Ready y
    ready = (there.1.cells, there.1.sound)

    same : Same (plain_of y) (call (after h) (query m)).site
    same = unfold after in there.1.same

    accepted : accepts (after h) (query m) ≡ true
    accepted = sym (accepts_is (after h) (query m)) ∙ ap is_accepted (sym (answers f e)) ∙ t

    p : D.QueryPromise h m (call (after h) (query m))
    p = K.query_promise h m accepted

    later : (c : ℕ) → named m c ≡ true → (g : List Call) (z : State) (r : Run y g z) → works_in c r ≡ works_from (call (after h) (query m)).site c g
        → D.ahead (plain_of x) c ≡ D.ahead (after h) c → works_in c r < suc (D.ahead (plain_of x) c)
        → ReadsAt z c p.place (D.cells_after h c) (suc (D.ahead (plain_of x) c)) (works_in c r)
    later c k g z r q w l = rw (q, w) (reads_there (stands ready same r) (p.later c k g (rw (q, w) at l)))

-- the numbers taken before a query are the first of all that are taken
pub one_point : {h : List Call} {x : State} → FromFresh h x → (g : List Call)
    → (D.Counted 0 (confirmations (g ++ h))) × (take x.site.confirmations (confirmations (g ++ h)) ≡ confirmations h)
one_point {h} {x} f g =
    let n : x.site.confirmations ≡ (after h).confirmations = unfold after plain in (stands_fresh f).same.confirmations in
    ((counted (g ++ h)).0, rw n (K.taken_before g h))

pub same_point : (h h' : List Call) → confirmations h ≡ confirmations h' → (c : ℕ) → D.cells_after h c ≡ D.cells_after h' c
unfolding D.cells_after confirmed_in
same_point h h' e c = rw e

-- no other call reads an entry, and a work call only for a class that there is
pub only_work_reads : {x y : State} {k : Call} {p : ℕ} {l : List ℕ} → Happens x k y (entry p l) → (c : ℕ) × (k ≡ work c) × (c < 16) × RightCells y
only_work_reads {x} {y} {k} {p} {l} e =
    by_contract e (λ r d. go k (plain_sound e.before r.1) d.answer d.cells) (λ n d. absurd (refused_reads n d.answer))
  where
    refused_reads : (n : ℕ) → entry p l ≡ refused n → ⊥
    refused_reads n q = let z : some p ≡ none = ap read_of q in let o : ◌≡◌ {A = ℕ} 0 1 = cc in omega arith

    other : (j : Call) → SoundSite (plain_of x) → entry p l ≡ (call (plain_of x) j).answer → ((c : ℕ) → j ≡ work c → ⊥) → ⊥
    other j s q n = let z : some p ≡ none = ap read_of q ∙ K.unread (plain_of x) s j n in let o : ◌≡◌ {A = ℕ} 0 1 = cc in omega arith

    accepted : (j : Call) → entry p l ≡ (call (plain_of x) j).answer → accepts (plain_of x) j ≡ true
    accepted j q = sym (accepts_is (plain_of x) j) ∙ ap is_accepted (sym q)

    go : (j : Call) → SoundSite (plain_of x) → entry p l ≡ (call (plain_of x) j).answer → RightCells y → (c : ℕ) × (j ≡ work c) × (c < 16) × RightCells y
    go (work c) s q r = (c, refl, (work_accepted (plain_of x) c (accepted (work c) q)).0, r)
    go (offer b) s q r = absurd (other (offer b) s q (λ c z. let o : ◌≡◌ {A = ℕ} 0 1 = cc in omega arith))
    go (confirm i n) s q r = absurd (other (confirm i n) s q (λ c z. let o : ◌≡◌ {A = ℕ} 0 1 = cc in omega arith))
    go (read c j) s q r = absurd (other (read c j) s q (λ d z. let o : ◌≡◌ {A = ℕ} 0 1 = cc in omega arith))
    go (look i) s q r = absurd (other (look i) s q (λ c z. let o : ◌≡◌ {A = ℕ} 0 1 = cc in omega arith))
    go (query m) s q r = absurd (other (query m) s q (λ c z. let o : ◌≡◌ {A = ℕ} 0 1 = cc in omega arith))

-- a request confirmed before a query keeps its W
pub keeps_w : {x y z z' : State} {m i v b : ℕ} {a : Answer} → Ready x → Happens x (look i) z (to_do v b) → Happens x (query m) y a
    → (a' : Answer) → Happens y (look i) z' a' → a' ≡ to_do v b
keeps_w {x} {y} {m = m} {i = i} {v = v} {b = b} r e q a' e' =
    let d = e.called.did r.0 r.1 in
    let n = q.called.did r.0 r.1 in
    (e'.called.did n.cells n.sound).answer
    ∙ same_answer (plain_of y) (call (plain_of x) (query m)).site n.site (look i)
    ∙ K.keeps_its_w (plain_of x) (plain_sound e.before r.1) m i v b (sym d.answer)
