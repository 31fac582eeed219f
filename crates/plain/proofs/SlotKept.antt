-- The slot promise: from its offer on a request keeps its slot, until the call with which it has both finished its work and been confirmed frees it.
-- Assumes nothing.
use Prim.Native.Nat.{ℕ, ◌+◌, ◌<◌, ◌≤◌}
use native.Mathlib.Omega.{arith}
use mathlib.Core.Path.{◌≡◌, refl, sym, ap, ◌∙◌}
use mathlib.Core.Logic.{◌⊎◌, inl, inr}
use mathlib.Core.Bool.{true, false}
use mathlib.Core.Option.{Option, none, some}
use mathlib.Core.List.{List, [], ◌∷◌}
use lib.Dec.{eqb}
use lib.ListN.{length}
use borrow.Author.Tests.{eqb-true, eqb-false, eq-eqb, ne_eqb}
use Rattle.plain.specs.Ops.{Request}
use Rattle.plain.specs.Record.{request_in}
use Rattle.plain.specs.Queue.{Entry, Item, booking, reading, id_of, is_executed, id_is, slot_is, is_confirmed, any, count}
use Rattle.plain.specs.Steps.{Class, Did, Answer, refused, queued, stepped, executed, committed, waiting, value, to_do, unconfirmed, begun, entry}
use Rattle.plain.specs.Steps.{new_entry, tried, advanced, work_on, work_step, confirm_on, confirm_step, offer_step}
use Rattle.plain.specs.Site.{Site, Call, offer, work, confirm, read, look, query, call, act, accepts, class_of, in_class, standing, named, free_place}
use Rattle.plain.specs.Site.{is_free, slot_free, entry_at, confirmed_at}
use Rattle.plain.specs.Sound.{SoundSite}
use Rattle.plain.specs.History.{after_from}
use Rattle.plain.specs.Demands.{Keeps, BringsBoth, Frees, Gives, GivenIn, FreedIn, SlotPromise}
use Rattle.plain.proofs.Tests.{by_test, no}
use Rattle.plain.proofs.Sums.{sum_term}
use Rattle.plain.proofs.Queues.{first_any, first_append, first_last}
use Rattle.plain.proofs.Sites.{standing_change, standing_some, not_queued, room, free}
use Rattle.plain.proofs.Sites.{work_accepted, Offered, offer_accepted, confirm_accepted}
use Rattle.plain.proofs.Kept.{call_sound}
use Rattle.plain.proofs.Turn.{from_sound}
use Rattle.plain.proofs.Stands.{Stands, Off, AfterWork, AfterConfirm, work_stands, confirm_stands, query_stands, never_both}

-- On a sound site a request keeps the slot in which it stands
keeps : (s : Site) → SoundSite s → (r : Request) (j : ℕ) (x : Entry) → r.class < 16 → x.request ≡ r → x.slot ≡ j
    → Stands r.id x (s.class r.class).queue → Keeps s r j
unfolding is_free
keeps s w r j x l p q u =
    let e : u.0.slot ≡ j = u.3 ∙ q in
    record {
      it = u.0;
      class = l;
      queued = u.1;
      request = u.2 ∙ p;
      slot = e;
      used = ne_eqb (standing (slot_is j) s) 0 (λ z. omega (
        arith,
        standing_some (slot_is j) s r.class l
            (first_any (id_is r.id) (slot_is j) (s.class r.class).queue (booking u.0) u.1 (eq-eqb u.0.slot j e)),
      ));
      not_both = never_both r.class s.confirmations r.id (s.class r.class) u.0 (w.each r.class l) u.1;
    }

-- AN ACCEPTED OFFER is given the lowest free slot, and its request keeps it
pub offered_keeps : (s : Site) → SoundSite s → (b : List ℕ) → accepts s (offer b) ≡ true
    → ((call s (offer b)).answer ≡ queued (request_in b).id (request_in b).class (length (s.class (request_in b).class).queue + 1) (slot_free s))
    × Keeps (call s (offer b)).site (request_in b) (slot_free s)
unfolding call act offer_step
offered_keeps s w b a = (rw a, keeps (call s (offer b)).site (call_sound s (offer b) w) r (slot_free s) x f.class refl refl stands)
  where
    r : Request
    r = request_in b

    x : Entry
    x = new_entry r (slot_free s)

    f : Offered s b
    f = offer_accepted s b a

    new : any (id_is r.id) (s.class r.class).queue ≡ false
    new =
        by_test (any (id_is r.id) (s.class r.class).queue)
        (λ t. absurd (omega (arith, standing_some (id_is r.id) s r.class f.class t, not_queued s r.id f.unknown)))
        (λ g. g)

    stands : Stands r.id x ((call s (offer b)).site.class r.class).queue
    stands = rw (a, eq-eqb r.class r.class refl)
        (x, first_last (id_is r.id) (s.class r.class).queue (booking x) new (eq-eqb r.id r.id refl), refl, refl)

-- while a request keeps a slot no offer is given it
pub not_given : (s : Site) → SoundSite s → (r : Request) (j : ℕ) → Keeps s r j → (b : List ℕ) → accepts s (offer b) ≡ true → slot_free s ≡ j → ⊥
unfolding is_free
not_given s w r j u b a p =
    eqb-false (standing (slot_is j) s) 0 u.used (rw p at (free s (room s w (offer_accepted s b a).few)))

-- EVERY CALL
module _ (s : Site) (w : SoundSite s) (r : Request) (j : ℕ) (u : Keeps s r j) where
  abbrev c : ℕ
  c = r.class

  abbrev x : Entry
  x = u.it

  -- it is kept
  kept : (k : Call) → Stands r.id x ((call s k).site.class c).queue → Keeps (call s k).site r j
  kept k = keeps (call s k).site (call_sound s k w) r j x u.class u.request u.slot

  -- a step in one class leaves it, if it does so in the class of the request
  stays : (d : ℕ) (new : Option ℕ) (y : Did) → (d ≡ c → Stands r.id x y.class.queue) → Stands r.id x ((in_class s d new y).site.class c).queue
  stays d new y g =
      by_test (eqb c d)
      (λ t. rw t (g (sym (eqb-true c d t))))
      (λ t. rw t (x, u.queued, refl, refl))

  -- the head is committed and its slot is free
  freed : (k : Call) (new : Option ℕ) (n : ℕ) (d : Did) → call s k ≡ in_class s c new d → Off (s.class c) d x n → 0 < n → BringsBoth k r x n → Frees s k (call s k) r j
  unfolding is_free
  freed k new n d is o m b = record {
    kept = u;
    number = n;
    confirmed = m;
    both = b;
    mark = o.mark;
    says = rw is (o.says ∙ named);
    free = rw is (eq-eqb _ 0 gone);
  }
    where
      named : committed (id_of x) n o.mark x.slot x.backs ≡ committed r.id n o.mark j x.backs
      named =
          ap (λ (q : Request). committed q.id n o.mark x.slot x.backs) u.request
          ∙ ap (λ (l : ℕ). committed r.id n o.mark l x.backs) u.slot

      shorter : count (slot_is j) (s.class c).queue ≡ 1 + count (slot_is j) d.class.queue
      shorter = ap (count (slot_is j)) o.behind ∙ rw (eq-eqb x.slot j u.slot)

      gone : standing (slot_is j) (in_class s c new d).site ≡ 0
      gone = omega (arith, standing_change (slot_is j) s c new d u.class, w.slots j, shorter)

  abbrev After : Call → Type 0
  After k = Keeps (call s k).site r j ⊎ Frees s k (call s k) r j

  worked_here : accepts s (work c) ≡ true → After (work c)
  unfolding call act
  worked_here a = go (work_stands r.id (s.class c) x (work_accepted s c a).1 u.queued)
    where
      d : Did
      d = work_step (s.class c)

      is : call s (work c) ≡ in_class s c none d
      is = rw a

      go : AfterWork r.id (s.class c) d x → After (work c)
      go (inl y) = inl (kept (work c) (rw is (stays c none d (λ p. y))))
      go (inr y) = inr (freed (work c) none x.number d is y.0 y.1 (inl (refl, refl, y.2)))

  confirmed_here : (i n : ℕ) → accepts s (confirm i n) ≡ true → class_of s i ≡ c → After (confirm i n)
  unfolding call act standing
  confirmed_here i n a p = go (confirm_stands r.id i n (s.class c) x once u.queued)
    where
      d : Did
      d = confirm_step i n (s.class c)

      is : call s (confirm i n) ≡ in_class s c (some i) d
      is = rw (a, p)

      once : count (id_is r.id) (s.class c).queue ≤ 1
      once = omega (arith, w.ids r.id, sum_term (λ c. count (id_is r.id) (s.class c).queue) 16 c u.class)

      go : AfterConfirm r.id i n (s.class c) d x → After (confirm i n)
      go (inl y) = inl (kept (confirm i n) (rw is (stays c (some i) d (λ q. y))))
      go (inr y) =
          inr (freed (confirm i n) (some i) n d is y.0 (omega (arith, (confirm_accepted s i n a).next)) (inr (ap (λ (m : ℕ). confirm m n) y.1, y.2)))

  -- KEPT OR FREED, and not both
  pub keeps_or_frees : (k : Call) → Keeps (call s k).site r j ⊎ Frees s k (call s k) r j
  unfolding call act offer_step
  keeps_or_frees k = by_test (accepts s k) (go k) (λ f. inl (kept k (rw f (x, u.queued, refl, refl))))
    where
      go : (k : Call) → accepts s k ≡ true → After k
      go (offer b) a =
          let d = (request_in b).class in
          let y = booking (new_entry (request_in b) (slot_free s)) in
          inl (kept (offer b) (rw a (stays d none (offer_step (request_in b) (slot_free s) (s.class d))
          (λ p. (x, first_append (id_is r.id) (s.class d).queue (booking x) y (rw p u.queued), refl, refl)))))
      go (work d) a =
          by_test (eqb d c)
          (λ t. let p : d ≡ c = eqb-true d c t in rw p (worked_here (rw p at a)))
          (λ f. inl (kept (work d) (rw a (stays d none (work_step (s.class d)) (λ p. absurd (eqb-false d c f p))))))
      go (confirm i n) a =
          let d = class_of s i in
          by_test (eqb d c)
          (λ t. confirmed_here i n a (eqb-true d c t))
          (λ f. inl (kept (confirm i n) (rw a (stays d (some i) (confirm_step i n (s.class d)) (λ p. absurd (eqb-false d c f p))))))
      go (read d k) a = inl (kept (read d k) (rw a (x, u.queued, refl, refl)))
      go (look i) a = inl (kept (look i) (rw a (x, u.queued, refl, refl)))
      go (query m) a =
          inl (kept (query m) (rw a (by_test (named m c)
          (λ t. rw t (query_stands r.id (free_place s) s.confirmations (s.class c) x u.queued))
          (λ f. rw f (x, u.queued, refl, refl)))))

  pub not_kept_and_freed : (k : Call) → Keeps (call s k).site r j → Frees s k (call s k) r j → ⊥
  not_kept_and_freed k v f = no _ f.free v.used

-- ANSWERS. Only an accepted offer's answer gives a slot
abbrev slot_within : Answer → Option ℕ
slot_within (queued i c p s) = some s
slot_within (refused n) = none
slot_within (stepped i d) = none
slot_within (executed i) = none
slot_within (committed i n d s b) = none
slot_within (waiting i w b) = none
slot_within (value x) = none
slot_within (to_do w b) = none
slot_within (unconfirmed b) = none
slot_within (begun p) = none
slot_within (entry p l) = none

work_gives : (k : Class) → slot_within (work_step k).answer ≡ none
unfolding work_step
work_gives k = go k.queue
  where
    go : (q : List Item) → slot_within (work_on q k.committed k.working).answer ≡ none
    go [] = refl
    go (reading p b ∷ rest) = refl
    go (booking e ∷ rest) =
        let e' = booking (advanced e (tried e k.working)) in
        by_test (is_executed e')
        (λ v. by_test (is_confirmed (booking e)) (λ t. rw (v, t)) (λ f. rw (v, f)))
        (λ v. rw v)

confirm_gives : (i n : ℕ) (k : Class) → slot_within (confirm_step i n k).answer ≡ none
unfolding confirm_step
confirm_gives i n k = go k.queue
  where
    go : (q : List Item) → slot_within (confirm_on i n q k.committed k.working).answer ≡ none
    go [] = refl
    go (reading p b ∷ rest) = refl
    go (booking h ∷ rest) =
        by_test (id_is i (booking h))
        (λ y. by_test (is_executed (booking h)) (λ v. rw (y, v)) (λ v. rw (y, v)))
        (λ y. rw y)

-- while a request keeps a slot no answer gives it
pub none_given : (s : Site) → SoundSite s → (r : Request) (j : ℕ) → Keeps s r j → (k : Call) → Gives (call s k).answer j → ⊥
unfolding call act offer_step
none_given s w r j u k g = by_test (accepts s k) (go k (ap slot_within g.says)) (λ f. never refl (rw f at (ap slot_within g.says)))
  where
    never : {o : Option ℕ} → o ≡ none → o ≡ some j → ⊥
    never a b = let z : ◌≡◌ {A = ℕ} 0 1 = cc in omega arith

    go : (k : Call) → slot_within (call s k).answer ≡ some j → accepts s k ≡ true → ⊥
    go (offer b) e a = not_given s w r j u b a (let z : some (slot_free s) ≡ some j = rw a at e in cc)
    go (work c) e a = never (work_gives (s.class c)) (rw a at e)
    go (confirm i n) e a = never (confirm_gives i n (s.class (class_of s i))) (rw a at e)
    go (read c k) e a = never refl (rw a at e)
    go (query m) e a = never refl (rw a at e)
    go (look i) e a =
        by_test (confirmed_at (entry_at s i)) (λ t. never refl (rw t at (rw a at e))) (λ f. never refl (rw f at (rw a at e)))

-- HISTORIES: the slot is kept and no other is given it, or a call frees it
pub kept_history : (s : Site) → SoundSite s → (r : Request) (j : ℕ) → Keeps s r j → (h : List Call)
    → (Keeps (after_from s h) r j × (GivenIn s h j → ⊥)) ⊎ FreedIn s h r j
kept_history s w r j u [] = inl (u, (λ g. g))
kept_history s w r j u (k ∷ h) = go (kept_history s w r j u h)
  where
    t : Site
    t = after_from s h

    v : SoundSite t
    v = from_sound s w h

    more : Keeps t r j → (GivenIn s h j → ⊥) → Gives (call t k).answer j ⊎ GivenIn s h j → ⊥
    more u n (inl g) = none_given t v r j u k g
    more u n (inr g) = n g

    go : (Keeps t r j × (GivenIn s h j → ⊥)) ⊎ FreedIn s h r j → (Keeps (call t k).site r j × (GivenIn s (k ∷ h) j → ⊥)) ⊎ FreedIn s (k ∷ h) r j
    go (inl y) = elim (keeps_or_frees t v r j y.0 k) [ inl a ↦ inl (a, more y.0 y.1) | inr f ↦ inr (inl (f, y.1)) ]
    go (inr y) = inr (inr y)

-- THE SLOT PROMISE: of any accepted offer on a sound site, so after any history
pub slot_promise : (s : Site) → SoundSite s → (b : List ℕ) → accepts s (offer b) ≡ true → SlotPromise b (call s (offer b))
slot_promise s w b a =
    let o = offered_keeps s w b a in
    record {
      place = length (s.class (request_in b).class).queue + 1;
      slot = slot_free s;
      says = o.0;
      later = kept_history (call s (offer b)).site (call_sound s (offer b) w) (request_in b) (slot_free s) o.1;
    }
