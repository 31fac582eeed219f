-- The query's promise: in each class that it names its entry is read by exactly the W-th accepted work call, and gives the cells after the definitive
-- numbers taken before the query began; and a request confirmed before it keeps its W. Assumes nothing.
use Prim.Native.Nat.{ℕ, suc, ◌+◌, ◌-◌, ◌<◌}
use native.Mathlib.Omega.{arith}
use mathlib.Core.Path.{◌≡◌, refl, sym, ap, ◌∙◌}
use mathlib.Core.Logic.{inl, inr}
use mathlib.Core.Bool.{Bool, true, false, cond, not}
use mathlib.Core.Option.{none, some}
use mathlib.Core.List.{List, [], ◌∷◌, ◌++◌, append-nil, append_assoc}
use lib.ListN.{take}
use lib.Seq.{take-append_seam}
use borrow.Author.Tests.{eqb-true, eqb-false, eq-eqb, lt-ltb, le-ltb, not-false}
use Rattle.plain.specs.Ops.{Request, run_all}
use Rattle.plain.specs.Queue.{Item, booking, reading, id_is, place_is, is_confirmed, line, left, asks, asked, any, count, first_of, up_to}
use Rattle.plain.specs.Queue.{has, entry_of, owed, confirmed_part, costs, confirmed_costs, before_waiting}
use Rattle.plain.specs.Steps.{Class, Did, Answer, to_do, entry, begun, ending, backed, offer_step, query_on, query_step}
use Rattle.plain.specs.Site.{Site, Call, offer, work, confirm, read, look, query, call, act, accepts, refusal, standing, class_of, confirmed_at, entry_at}
use Rattle.plain.specs.Site.{Outcome, named, is_open, free_place, look_answer}
use Rattle.plain.specs.Sound.{All, Waiting, InOrder, SoundClass, SoundSite}
use Rattle.plain.specs.History.{after, after_from, works_from, confirmations, confirmed_by}
use Rattle.plain.specs.Demands.{Reads, LowestFree, ahead, cells_after, QueryPromise}
use Rattle.plain.proofs.Tests.{by_test, no, or_left, or_right}
use Rattle.plain.proofs.Sums.{sum_term, lowest_below}
use Rattle.plain.proofs.Items.{follows_confirmed, waiting_unconfirmed}
use Rattle.plain.proofs.Queues.{count_some, first_before, waits_all, waits_head}
use Rattle.plain.proofs.Table.{refused_same}
use Rattle.plain.proofs.Steps.{read_of}
use Rattle.plain.proofs.Sites.{query_accepted, named_below, class_is, look_accepted}
use Rattle.plain.proofs.Confirming.{Confirms, at_once, later}
use Rattle.plain.proofs.Accepted.{place_lasts, confirm_both, query_both}
use Rattle.plain.proofs.Kept.{call_sound}
use Rattle.plain.proofs.Demand2.{after_sound, in_line, cells_are_the_serial_run, run_append}
use Rattle.plain.proofs.Due.{Due, Ends, Others, part_first}
use Rattle.plain.proofs.Turn.{Turn, turn, from_sound}
use Rattle.plain.proofs.Logs.{counted}

-- the end of an entry is its reading; an answer that speaks of others is not
ends_reads : (p n : ℕ) (cells : List ℕ) (a : Answer) → Ends (place_is p) n cells a → a ≡ entry p cells
unfolding run_all
ends_reads p n cells a e = go e.it e.passes e.says
  where
    go : (x : Item) → place_is p x ≡ true → a ≡ ending x (run_all cells (asks x)) → a ≡ entry p cells
    go (booking x) h s = no _ h refl
    go (reading q b) h s = s ∙ ap (λ (i : ℕ). entry i cells) (eqb-true q p h)

others_not : (p : ℕ) (a : Answer) → Others (place_is p) a → (l : List ℕ) → a ≡ entry p l → ⊥
others_not p a (inl z) l e = let k : some p ≡ none = sym (ap read_of e) ∙ z.1 in let o : ◌≡◌ {A = ℕ} 0 1 = cc in omega arith
others_not p a (inr y) l e = go y.0 y.2 y.3
  where
    go : (x : Item) → place_is p x ≡ false → a ≡ ending x y.1 → ⊥
    go (booking x) f s = let k : none ≡ some p = sym (ap read_of s) ∙ ap read_of e in let o : ◌≡◌ {A = ℕ} 0 1 = cc in omega arith
    go (reading q b) f s = let k : some q ≡ some p = sym (ap read_of s) ∙ ap read_of e in eqb-false q p f (cc)

-- what stands in no queue stands in no confirmed part
part_none : (f : Item → Bool) (q : List Item) → any f q ≡ false → any f (confirmed_part q) ≡ false
part_none f [] h = refl
part_none f (x ∷ q) h =
    let r = part_none f q (or_right (f x) (any f q) h) in
    by_test (is_confirmed x) (λ t. rw (t, or_left (f x) (any f q) h) r) (λ g. rw g r)

-- THE START: the entry of an accepted query is due behind the confirmed part
module _ (s : Site) (w : SoundSite s) (m : ℕ) (a : accepts s (query m) ≡ true) (c : ℕ) (t : named m c ≡ true) where
  abbrev p : ℕ
  p = free_place s

  abbrev q : List Item
  q = (s.class c).queue

  none_there : any (place_is p) q ≡ false
  unfolding standing
  none_there =
      by_test (any (place_is p) q)
      (λ u. absurd (omega (
        arith,
        count_some (place_is p) q u,
        sum_term (λ c. count (place_is p) (s.class c).queue) 16 c (named_below m c t),
        (query_accepted s m a).unused,
      )))
      (λ f. f)

  begun_due : Due ((call s (query m)).site.class c) (place_is p) s.confirmations 0 (run_all (s.class c).committed (asked (confirmed_part q))) (suc (ahead s c))
  unfolding call act confirmed_costs
  begun_due =
      let j = query_both s w m c a (named_below m c t) in
      rw (a, t) (record {
        before = confirmed_part q;
        it = reading p s.confirmations;
        behind = [];
        is = j.part;
        first_one = part_none (place_is p) q none_there;
        passes = eq-eqb p p refl;
        at = refl;
        back_is = refl;
        finds = ap (λ (b : List ℕ). run_all b (asked (confirmed_part q))) j.cells;
        w_is = omega arith;
      })

-- while its turn has not come it stands there
reads_turn : (s : Site) → SoundSite s → (c p n : ℕ) (cells : List ℕ) (W x : ℕ) → c < 16 → Turn (place_is p) n 0 cells s c W x → Reads s c p n cells W x
reads_turn s w c p n cells W x l t = record {
  stands = r.0 ∙ ap some (is u.it u.passes u.at);
  left_to_do = r.1 ∙ u.w_is;
  works = t.works;
  reads = λ e. ends_reads p n cells _ (t.ends e);
  no_sooner = λ m. others_not p _ (t.others m);
}
  where
    u : Due (s.class c) (place_is p) n 0 cells (W - x)
    u = t.due

    r : (first_of (place_is p) (s.class c).queue ≡ some u.it) × (up_to (place_is p) (s.class c).queue ≡ costs u.before + left u.it) × (is_confirmed u.it ≡ true)
    r = part_first (place_is p) 0 s.confirmations (s.class c).queue u.before u.it u.behind (w.each c l).order u.is u.first_one u.passes

    is : (y : Item) → place_is p y ≡ true → line y ≡ n → y ≡ reading p n
    is (booking y) h e = no _ h refl
    is (reading q b) h e = rw (eqb-true q p h, e)

-- the place that it is given
lowest_free_is : (s : Site) (m : ℕ) → accepts s (query m) ≡ true → LowestFree s (free_place s)
unfolding free_place is_open
lowest_free_is s m a =
    let b = query_accepted s m a in
    record {
      from_1 = b.placed.from_1;
      to_8 = b.placed.to_8;
      free = le-ltb 0 (standing (place_is (free_place s)) s) (omega (arith, b.unused));
      lowest = λ p l k. not-false (is_open s p) (lowest_below (λ p. not (is_open s p)) 1 8 p (omega arith) k);
    }

-- THE QUERY'S PROMISE
pub query_promise : (h : List Call) (m : ℕ) → accepts (after h) (query m) ≡ true → QueryPromise h m (call (after h) (query m))
query_promise h m a = record {
  place = free_place s;
  says = answered s m a;
  lowest_free = lowest_free_is s m a;
  later = λ c t g x. unfold cells_after in (rw (in_line h c, run_append, ← cells_are_the_serial_run h c) (reads_turn (after_from s' g) (from_sound s' w' g) c (free_place s) s.confirmations _ (suc (ahead s c)) (works_from s' c g) (named_below m c t)
      (turn (place_is (free_place s)) (place_lasts (free_place s)) s.confirmations 0 _ s' w' c (suc (ahead s c)) (named_below m c t) (begun_due s w m a c t) g x)));
}
  where
    s : Site
    s = after h

    w : SoundSite s
    w = after_sound h

    s' : Site
    s' = (call s (query m)).site

    w' : SoundSite s'
    w' = call_sound s (query m) w

    answered : (s : Site) (m : ℕ) → accepts s (query m) ≡ true → (call s (query m)).answer ≡ begun (free_place s)
    answered s m a = unfold call act in (rw a)

-- what a history confirmed is what a longer one confirmed first: its numbers are those up to its count of confirmations
longer : (g h : List Call) → (more : List (ℕ × Request)) × (confirmations (g ++ h) ≡ confirmations h ++ more)
unfolding confirmations
longer [] h = ([], sym (append-nil (confirmations h)))
longer (k ∷ g) h =
    let r = longer g h in
    let cf = confirmed_by (after (g ++ h)) k in
    (r.0 ++ cf, ap (λ (l : List (ℕ × Request)). l ++ cf) r.1 ∙ append_assoc (confirmations h) r.0 cf)

pub taken_before : (g h : List Call) → take (after h).confirmations (confirmations (g ++ h)) ≡ confirmations h
taken_before g h = rw ((counted h).1, (longer g h).1) (take-append_seam (confirmations h) (longer g h).0)

pub after_append : (g h : List Call) → after (g ++ h) ≡ after_from (after h) g
unfolding after
after_append [] h = refl
after_append (k ∷ g) h = ap (λ (s : Site). (call s k).site) (after_append g h)

-- A REQUEST CONFIRMED BEFORE the query keeps its W
first_waits : (f : Item → Bool) (q : List Item) → All Waiting q → confirmed_at (first_of f q) ≡ false
first_waits f [] h = refl
first_waits f (x ∷ q) h = by_test (f x) (λ t. rw t (waiting_unconfirmed x h.0)) (λ g. rw g (first_waits f q h.1))

before_entry : (f : Item → Bool) (y : Item) (m top : ℕ) (q : List Item) → f y ≡ false → InOrder m top q → confirmed_at (first_of f q) ≡ true
    → up_to f (before_waiting y q) ≡ up_to f q
before_entry f y m top [] n o h = no _ h refl
before_entry f y m top (x ∷ q) n (inl o) h =
    rw (follows_confirmed m x o.0) (by_test (f x)
    (λ t. rw t)
    (λ g. rw g (ap (λ (v : ℕ). left x + v) (before_entry f y (line x) top q n o.2 (rw g at h)))))
before_entry f y m top (x ∷ q) n (inr o) h = no _ h (first_waits f (x ∷ q) o)

query_same : (c top p n i : ℕ) (k : Class) → SoundClass c top k → confirmed_at (entry_of i k.queue) ≡ true
    → (entry_of i (query_step p n k).queue ≡ entry_of i k.queue) × (owed i (query_step p n k).queue ≡ owed i k.queue)
unfolding query_step
query_same c top p n i k s h = go k.queue s.order h
  where
    y : Item
    y = reading p n

    go : (q : List Item) → InOrder 0 top q → confirmed_at (entry_of i q) ≡ true
        → (entry_of i (query_on y q k.committed k.working).queue ≡ entry_of i q) × (owed i (query_on y q k.committed k.working).queue ≡ owed i q)
    go [] o h = no _ h refl
    go (x ∷ rest) o h =
        by_test (is_confirmed x)
        (λ t. let is : backed x ≡ x = rw t in
        rw is (first_before (id_is i) y (x ∷ rest) refl, before_entry (id_is i) y 0 top (x ∷ rest) refl o h))
        (λ f. no _ h (first_waits (id_is i) (x ∷ rest) (waits_head 0 top x rest o f, waits_all 0 top x rest o f)))

-- what look answers of an id that is queued in class c
look_in : (s : Site) → SoundSite s → (i c : ℕ) → c < 16 → has i (s.class c).queue ≡ true → (call s (look i)).answer ≡ look_answer i (s.class c)
unfolding call act refusal
look_in s w i c l h = rw (class_is s i c w l h, lt-ltb c 16 l)

confirmed_has : (i : ℕ) (q : List Item) → confirmed_at (entry_of i q) ≡ true → has i q ≡ true
confirmed_has i [] h = h
confirmed_has i (x ∷ q) h = by_test (id_is i x) (λ t. rw t) (λ f. rw f (confirmed_has i q (rw f at h)))

look_confirmed : (s : Site) (i v b : ℕ) → (call s (look i)).answer ≡ to_do v b → (class_of s i < 16) × (confirmed_at (entry_at s i) ≡ true)
unfolding call act
look_confirmed s i v b e =
    by_test (accepts s (look i))
    (λ a. (look_accepted s i a, confirmed (rw a at e)))
    (λ f. let z : ◌≡◌ {A = ℕ} 0 1 = cc (rw f at e) in absurd (omega arith))
  where
    confirmed : look_answer i (s.class (class_of s i)) ≡ to_do v b → confirmed_at (entry_at s i) ≡ true
    confirmed e =
        by_test (confirmed_at (entry_at s i)) (λ t. t) (λ f. let z : ◌≡◌ {A = ℕ} 0 1 = cc (rw f at e) in absurd (omega arith))

class_after : (s : Site) (m c : ℕ) → accepts s (query m) ≡ true
    → (call s (query m)).site.class c ≡ cond (named m c) (query_step (free_place s) s.confirmations (s.class c)) (s.class c)
unfolding call act
class_after s m c a = rw a

pub keeps_its_w : (s : Site) → SoundSite s → (m i v b : ℕ) → (call s (look i)).answer ≡ to_do v b → (call (call s (query m)).site (look i)).answer ≡ to_do v b
keeps_its_w s w m i v b e = by_test (accepts s (query m)) taken untaken
  where
    c : ℕ
    c = class_of s i

    s' : Site
    s' = (call s (query m)).site

    l : c < 16
    l = (look_confirmed s i v b e).0

    h : confirmed_at (entry_of i (s.class c).queue) ≡ true
    h = (look_confirmed s i v b e).1

    says : look_answer i (s.class c) ≡ to_do v b
    says = sym (look_in s w i c l (confirmed_has i (s.class c).queue h)) ∙ e

    alike : (k : Class) → s'.class c ≡ k → entry_of i k.queue ≡ entry_of i (s.class c).queue → owed i k.queue ≡ owed i (s.class c).queue
        → (call s' (look i)).answer ≡ to_do v b
    alike k is en ow =
        look_in s' (call_sound s (query m) w) i c l (confirmed_has i (s'.class c).queue (rw (is, en) h))
        ∙ rw (is, en, ow) says

    untaken : accepts s (query m) ≡ false → (call s' (look i)).answer ≡ to_do v b
    untaken f = alike (s.class c) (ap (λ (o : Outcome). o.site.class c) (refused_same s (query m) f)) refl refl

    taken : accepts s (query m) ≡ true → (call s' (look i)).answer ≡ to_do v b
    taken a =
        by_test (named m c)
        (λ t. let q = query_same c s.confirmations (free_place s) s.confirmations i (s.class c) (w.each c l) h in
        alike (query_step (free_place s) s.confirmations (s.class c)) (class_after s m c a ∙ rw t) q.0 q.1)
        (λ f. alike (s.class c) (class_after s m c a ∙ rw f) refl refl)

-- NO OTHER CALL reads an entry
pub unread : (s : Site) → SoundSite s → (k : Call) → ((c : ℕ) → k ≡ work c → ⊥) → read_of (call s k).answer ≡ none
unfolding call act
unread s w k n = by_test (accepts s k) (λ t. rw t (go k n t)) (λ f. rw f)
  where
    go : (k : Call) → ((c : ℕ) → k ≡ work c → ⊥) → accepts s k ≡ true → read_of (act s k).answer ≡ none
    go (offer b) n t = unfold offer_step in refl
    go (work c) n t = absurd (n c refl)
    go (confirm i m) n t = confirms (confirm_both s w i m t).1
      where
        confirms : {k : Class} {d : Did} → Confirms i m k d → read_of d.answer ≡ none
        confirms (at_once x b sl bk en p p' r a u) = ap read_of a
        confirms (later x y back en m e p z a u) = ap read_of a
    go (read c j) n t = refl
    go (look i) n t = by_test (confirmed_at (entry_at s i)) (λ u. rw u) (λ f. rw f)
    go (query m) n t = refl
