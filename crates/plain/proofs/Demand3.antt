-- Demand 3: a request confirmed with W commits in that call if W is 0, else at exactly the W-th accepted work call for its class. Assumes nothing.
use Prim.Native.Nat.{ℕ, ◌-◌, ◌<◌}
use native.Mathlib.Omega.{arith}
use mathlib.Core.Path.{◌≡◌, refl, sym, ap, ◌∙◌}
use mathlib.Core.Logic.{◌⊎◌, inl, inr}
use mathlib.Core.Bool.{true, false}
use mathlib.Core.Option.{none, some}
use mathlib.Core.List.{List, []}
use borrow.Author.Tests.{eqb-true, eqb-false, eq-eqb, lt-ltb}
use Rattle.plain.specs.Ops.{run_all}
use Rattle.plain.specs.Queue.{Entry, Item, booking, reading, id_of, id_is, line, asks, asked, entry_of, owed, confirmed_part}
use Rattle.plain.specs.Steps.{Class, Did, Answer, waiting, to_do, ending, confirm_step}
use Rattle.plain.specs.Site.{Site, confirm, look, call, act, accepts, refusal, class_of, in_class}
use Rattle.plain.specs.Site.{confirmed_at, backs_at, entry_at, commit_of}
use Rattle.plain.specs.Sound.{SoundClass, SoundSite}
use Rattle.plain.specs.History.{after_from, works_from}
use Rattle.plain.specs.Demands.{Commits, w_of, Waits, Demand3}
use Rattle.plain.proofs.Tests.{no}
use Rattle.plain.proofs.Queues.{first_any, found_request}
use Rattle.plain.proofs.Confirming.{Confirms, at_once, later}
use Rattle.plain.proofs.Sites.{class_is, Confirmable, confirm_accepted}
use Rattle.plain.proofs.Accepted.{id_lasts, confirm_both}
use Rattle.plain.proofs.Kept.{call_sound}
use Rattle.plain.proofs.Due.{Due, Ends, Others, part_first, not_there, due_positive}
use Rattle.plain.proofs.Turn.{Turn, turn, from_sound}

-- the end of a request is its commit; an answer that speaks of others is not
ends_commits : (i n : ℕ) (cells : List ℕ) (a : Answer) → Ends (id_is i) n cells a → Commits a i n
ends_commits i n cells a e = go e.it e.passes e.at e.says
  where
    go : (x : Item) → id_is i x ≡ true → line x ≡ n → a ≡ ending x (run_all cells (asks x)) → Commits a i n
    go (booking y) h at says = record { mark = y.mark; slot = y.slot; backs = y.backs; says = says ∙ rw (eqb-true (id_of y) i h, at) }
    go (reading p b) h at says = no _ h refl

others_not : (i n : ℕ) (a : Answer) → Others (id_is i) a → Commits a i n → ⊥
others_not i n a (inl z) c = let k : some i ≡ none = sym (ap commit_of c.says) ∙ z.0 in let o : ◌≡◌ {A = ℕ} 0 1 = cc in omega arith
others_not i n a (inr y) c = go y.0 y.2 y.3
  where
    go : (x : Item) → id_is i x ≡ false → a ≡ ending x y.1 → ⊥
    go (booking e) f says = let k : some (id_of e) ≡ some i = sym (ap commit_of says) ∙ ap commit_of c.says in eqb-false (id_of e) i f (cc)
    go (reading p b) f says =
        let k : none ≡ some i = sym (ap commit_of says) ∙ ap commit_of c.says in let o : ◌≡◌ {A = ℕ} 0 1 = cc in omega arith

-- the request as it stands, and what look answers
module _ (s : Site) (w : SoundSite s) (c i n backs : ℕ) (cells : List ℕ) (v : ℕ) (l : c < 16) (u : Due (s.class c) (id_is i) n backs cells v) where
  is_there : entry_of i (s.class c).queue ≡ some u.it
  is_there =
      (part_first (id_is i) 0 s.confirmations (s.class c).queue u.before u.it u.behind (w.each c l).order u.is u.first_one u.passes).0

  look_says : (call s (look i)).answer ≡ to_do v backs
  unfolding call act refusal
  look_says =
      let r = part_first (id_is i) 0 s.confirmations (s.class c).queue u.before u.it u.behind (w.each c l).order u.is u.first_one u.passes in
      let cl : class_of s i ≡ c = class_is s i c w l (first_any (id_is i) (id_is i) (s.class c).queue u.it r.0 u.passes) in
      rw (cl, lt-ltb c 16 l, r.0, r.2, r.1, u.w_is, u.back_is)

waits_turn : (s : Site) → SoundSite s → (c i n backs : ℕ) (cells : List ℕ) (W x : ℕ) → c < 16 → Turn (id_is i) n backs cells s c W x → Waits s c i n backs W x
waits_turn s w c i n backs cells W x l t = record {
  it = e.0;
  queued = e.1;
  number = sym (ap line e.2) ∙ t.due.at;
  says = look_says s w c i n backs cells (W - x) l t.due;
  works = t.works;
  commits = λ e. ends_commits i n cells _ (t.ends e);
  no_sooner = λ m. others_not i n _ (t.others m);
}
  where
    e : (y : Entry) × (entry_of i (s.class c).queue ≡ some (booking y)) × (t.due.it ≡ booking y)
    e = found_request i (s.class c).queue t.due.it (is_there s w c i n backs cells (W - x) l t.due)

-- The start: an accepted confirmation commits, or the request is due
abbrev Started : ℕ → ℕ → ℕ → List ℕ → Did → Type 0
Started i n backs cells d = Commits d.answer i n ⊎ ((W : ℕ) × (back : ℕ) × (d.answer ≡ waiting i W back) × Due d.class (id_is i) n backs cells W)

start : (c top i n : ℕ) (k : Class) (d : Did) → SoundClass c top k → SoundClass c n d.class → confirmed_at (entry_of i k.queue) ≡ false
    → Confirms i n k d → Started i n (backs_at (entry_of i k.queue)) (run_all k.committed (asked (confirmed_part k.queue))) d
start c top i n k d s s' f (at_once x b sl bk en p p' r a t) = inl (record { mark = b; slot = sl; backs = bk; says = a })
start c top i n k d s s' f (later x y back en m e p z a t) =
    let no = not_there (id_is i) 0 top k.queue s.order f in
    let r = part_first (id_is i) 0 n d.class.queue (confirmed_part k.queue) y [] s'.order p no m.id in
    inr (
      owed i d.class.queue,
      back,
      a,
      record {
        before = confirmed_part k.queue;
        it = y;
        behind = [];
        is = p;
        first_one = no;
        passes = m.id;
        at = m.line_is;
        back_is = m.backs_same ∙ rw en;
        finds = ap (λ (b : List ℕ). run_all b (asked (confirmed_part k.queue))) z;
        w_is = sym r.1;
      },
    )

-- DEMAND 3: on any sound site, so after any history
pub demand_3 : (s : Site) → SoundSite s → (i n : ℕ) → accepts s (confirm i n) ≡ true
    → Demand3 (class_of s i) i n (backs_at (entry_at s i)) (call s (confirm i n))
unfolding call act
demand_3 s w i n a = rw a (go (start c s.confirmations i n (s.class c) x (w.each c f.known) b.0 f.waits b.1))
  where
    f : Confirmable s i n
    f = confirm_accepted s i n a

    c : ℕ
    c = class_of s i

    x : Did
    x = confirm_step i n (s.class c)

    b : SoundClass c n x.class × Confirms i n (s.class c) x
    b = confirm_both s w i n a

    backs : ℕ
    backs = backs_at (entry_at s i)

    s' : Site
    s' = (in_class s c (some i) x).site

    w' : SoundSite s'
    w' = rw a at (call_sound s (confirm i n) w)

    cells : List ℕ
    cells = run_all (s.class c).committed (asked (confirmed_part (s.class c).queue))

    go : Started i n backs cells x → Demand3 c i n backs (in_class s c (some i) x)
    go (inl y) = record { at_once = λ z. y; later = λ z. absurd (omega (arith, ap w_of y.says)) }
    go (inr y) = record {
      at_once = λ z. absurd (omega (arith, ap w_of y.2, due_positive (id_is i) n backs cells c n x.class y.0 b.0 y.3));
      later = λ z h m. let e : w_of x.answer ≡ y.0 = ap w_of y.2 in
          rw e (waits_turn (after_from s' h) (from_sound s' w' h) c i n backs cells y.0 (works_from s' c h) f.known
          (turn (id_is i) (id_lasts i) n backs cells s' w' c y.0 f.known (rw (eq-eqb c c refl) y.3) h (rw e at m)));
    }
