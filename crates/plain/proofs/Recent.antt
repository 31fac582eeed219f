-- The ids of the last 256 confirmations: what the test of one tells, and every call leaves their rules standing. Assumes nothing.
use Prim.Native.Nat.{ℕ, suc, ◌+◌, ◌<◌, ◌≤◌}
use native.Mathlib.Omega.{arith}
use mathlib.Core.Path.{◌≡◌, refl, sym, ◌∙◌}
use mathlib.Core.Bool.{Bool, true, false, cond}
use mathlib.Core.Option.{none, some}
use mathlib.Core.List.{List, [], ◌∷◌}
use lib.Dec.{eqb}
use borrow.Author.Tests.{eqb-true, eqb-false, eq-eqb, ne_eqb, ltb-true, ltb-false, lt-ltb}
use Rattle.plain.specs.Record.{request_in}
use Rattle.plain.specs.Queue.{Item, booking, reading, id_of, id_is, number_is, is_confirmed, count, entry_of}
use Rattle.plain.specs.Steps.{Did, new_entry, numbered, work_step, offer_step, confirm_step}
use Rattle.plain.specs.Site.{Site, Call, offer, work, confirm, read, look, query, lowest, standing, class_of, slot_free}
use Rattle.plain.specs.Site.{Recent, first_recent, recent_count, is_kept, call, act, accepts, in_class}
use Rattle.plain.specs.Sound.{SoundSite, differs, strange, Waiting, Belongs}
use Rattle.plain.proofs.Tests.{by_test, no}
use Rattle.plain.proofs.Sums.{lowest_passes, lowest_from, lowest_none, sum_add, sum_le}
use Rattle.plain.proofs.Items.{Lasting, is_valid, unconfirmed_waits}
use Rattle.plain.proofs.Queues.{all_first, first_passes, first_any, one}
use Rattle.plain.proofs.Steps.{nothing, that, Turnover, Works, unconcerned, one_done, last_done}
use Rattle.plain.proofs.Confirming.{Confirms, at_once, later}
use Rattle.plain.proofs.Sites.{standing_some, number_unused, work_accepted, offer_accepted, Confirmable, confirm_accepted}
use Rattle.plain.proofs.Accepted.{turns, work_both, offer_both, confirm_both, query_standing}

-- THE TEST. A kept id has one of the last 256 numbers, and the id of one of those is kept
module _ (s : Site) (i : ℕ) where
  abbrev first : ℕ
  first = lowest (λ n. eqb (s.kept n) i) (first_recent s.confirmations) (recent_count s.confirmations)

  pub kept_under : is_kept s i ≡ true → (n : ℕ) × Recent s.confirmations n × (s.kept n ≡ i)
  unfolding is_kept
  kept_under t =
      let l = ltb-true first (suc s.confirmations) t in
      let b = lowest_from (λ n. eqb (s.kept n) i) (first_recent s.confirmations) (recent_count s.confirmations) in (
        first,
        record { given = omega arith; within = omega arith; last = omega arith },
        eqb-true _ i (lowest_passes (λ n. eqb (s.kept n) i) (first_recent s.confirmations) (recent_count s.confirmations) (omega arith)),
      )

  pub not_under : is_kept s i ≡ false → (n : ℕ) → Recent s.confirmations n → s.kept n ≡ i → ⊥
  unfolding is_kept
  not_under f n r =
      let l = ltb-false first (suc s.confirmations) f in
      eqb-false _ i (lowest_none (λ n. eqb (s.kept n) i) (first_recent s.confirmations) (recent_count s.confirmations) (omega arith) n
      (omega (arith, r.given, r.last)) (omega (arith, r.within)))

  pub under_kept : (n : ℕ) → Recent s.confirmations n → s.kept n ≡ i → is_kept s i ≡ true
  under_kept n r e = by_test (is_kept s i) (λ t. t) (λ f. absurd (not_under f n r e))

-- a test of two counts no more than they do
both_le : (n i : ℕ) (e : Item) → cond (strange n i e) 1 0 ≤ cond (id_is i e) 1 0 + cond (number_is n e) 1 0
both_le n i e = le (number_is n e) (id_is i e)
  where
    le : (a b : Bool) → cond (differs a b) 1 0 ≤ cond b 1 0 + cond a 1 0
    le true true = omega arith
    le true false = omega arith
    le false true = omega arith
    le false false = omega arith

standing_le : (n i : ℕ) (s : Site) → standing (strange n i) s ≤ standing (id_is i) s + standing (number_is n) s
unfolding standing
standing_le n i s =
    let a = sum_le (λ c. count (strange n i) (s.class c).queue) (λ c. count (id_is i) (s.class c).queue + count (number_is n) (s.class c).queue) 16
    (λ c l. each (s.class c).queue) in
    omega (arith, sum_add (λ c. count (id_is i) (s.class c).queue) (λ c. count (number_is n) (s.class c).queue) 16)
  where
    each : (q : List Item) → count (strange n i) q ≤ count (id_is i) q + count (number_is n) q
    each [] = omega arith
    each (e ∷ q) = omega (arith, both_le n i e, each q)

strange_lasts : (n i : ℕ) → Lasting (strange n i)
strange_lasts n i = record { work = λ e t. refl; back = λ e. refl }

-- of a request that waits the test is that of its id
waiting_strange : (n i : ℕ) (x : Item) → 0 < n → Waiting x → strange n i x ≡ id_is i x
waiting_strange n i (booking e) l z = rw (z, ne_eqb 0 n (λ h. omega arith), lt-ltb 0 n l)
waiting_strange n i (reading p b) l z = refl

-- and of one with the number n that of its id for every other number, and fails for its id and n
numbered_strange : (n m j : ℕ) (x : Item) → 0 < m → m < n → strange m j (numbered n x) ≡ id_is j x
numbered_strange n m j (booking e) k u = rw (ne_eqb n m (λ h. omega arith), lt-ltb 0 m k)
numbered_strange n m j (reading p b) k u = refl

numbered_fits : (n i : ℕ) (x : Item) → 0 < n → id_is i x ≡ true → strange n i (numbered n x) ≡ false
numbered_fits n i (booking e) l h = rw (h, eq-eqb n n refl, lt-ltb 0 n l)
numbered_fits n i (reading p b) l h = refl

-- THE THREE RULES
pub record Keeping (s : Site) : Type 0 where
  pub not_zero : (n : ℕ) → Recent s.confirmations n → 0 < s.kept n
  pub differ : (m n : ℕ) → Recent s.confirmations m → Recent s.confirmations n → s.kept m ≡ s.kept n → m ≡ n
  pub queued : (n : ℕ) → Recent s.confirmations n → standing (strange n (s.kept n)) s ≡ 0

-- the numbers that stay among the last
older : (top n : ℕ) → Recent (top + 1) n → n ≤ top → Recent top n
older top n r l = record { given = r.given; within = l; last = omega (arith, r.last) }

pub as_before : (top n : ℕ) → Recent (top + 0) n → Recent top n
as_before top n r = record { given = r.given; within = omega (arith, r.within); last = omega (arith, r.last) }

module _ (s : Site) (w : SoundSite s) where
  -- a step that gives no number
  no_number : (c : ℕ) (d : Did) (gone come : (Item → Bool) → ℕ) → c < 16 → Turnover (s.class c) d.class gone come
      → ((n : ℕ) → Recent s.confirmations n → come (strange n (s.kept n)) ≡ 0) → Keeping (in_class s c none d).site
  no_number c d gone come l t none-comes = record {
    not_zero = λ n r. w.kept_not_zero n (as_before _ n r);
    differ = λ m n r q. w.kept_differ m n (as_before _ m r) (as_before _ n q);
    queued = λ n r. let f = as_before _ n r in
        omega (arith, turns s c none d gone come l t (strange n (s.kept n)) (strange_lasts n (s.kept n)), w.kept_queued n f, none-comes n f);
  }

  work_keeps : (c : ℕ) → accepts s (work c) ≡ true → Keeping (in_class s c none (work_step (s.class c))).site
  work_keeps c a = go (work_both s w c a).1
    where
      go : Works (s.class c) (work_step (s.class c)) → Keeping (in_class s c none (work_step (s.class c))).site
      go (unconcerned p p' b z t) = no_number c (work_step (s.class c)) nothing nothing (work_accepted s c a).0 t (λ n r. refl)
      go (one_done x y rest p p' al m b z t) = no_number c (work_step (s.class c)) nothing nothing (work_accepted s c a).0 t (λ n r. refl)
      go (last_done x y rest p p' al en m b z t) = no_number c (work_step (s.class c)) (that x) nothing (work_accepted s c a).0 t (λ n r. refl)

  offer_keeps : (b : List ℕ) → accepts s (offer b) ≡ true
      → Keeping (in_class s (request_in b).class none (offer_step (request_in b) (slot_free s) (s.class (request_in b).class))).site
  offer_keeps b a =
      no_number (request_in b).class (offer_step (request_in b) (slot_free s) (s.class (request_in b).class)) nothing (that e) (offer_accepted s b a).class (offer_both s w b a).turnover
      (λ n r. rw (
        waiting_strange n (s.kept n) e r.given refl,
        ne_eqb (request_in b).id (s.kept n) (λ h. not_under s (request_in b).id (offer_accepted s b a).new n r (sym h)),
      ))
    where
      e : Item
      e = booking (new_entry (request_in b) (slot_free s))

  -- A NUMBER IS GIVEN to the waiting request x of class c with id i; what comes in its stead, if anything does, is y
  module _ (i n c : ℕ) (d : Did) (f : Confirmable s i n) (x : Item) (come : (Item → Bool) → ℕ) (l : c < 16)
      (en : entry_of i (s.class c).queue ≡ some x) (waits : Waiting x) (t : Turnover (s.class c) d.class (that x) come)
      (same : (m : ℕ) → 0 < m → m < n → (j : ℕ) → come (strange m j) ≤ one (strange m j) x) (fits : come (strange n i) ≡ 0) where
    is_it : id_is i x ≡ true
    is_it = first_passes (id_is i) (s.class c).queue x en

    -- its id is not kept
    not_kept : (m : ℕ) → Recent s.confirmations m → s.kept m ≡ i → ⊥
    not_kept m r e =
        let odd : strange m (s.kept m) x ≡ true = waiting_strange m (s.kept m) x r.given waits ∙ rw e is_it in
        omega (
          arith,
          w.kept_queued m r,
          standing_some (strange m (s.kept m)) s c l (first_any (id_is i) (strange m (s.kept m)) (s.class c).queue x en odd),
        )

    abbrev after : Site
    after = (in_class s c (some i) d).site

    old_one : (m : ℕ) → (m ≡ suc s.confirmations → ⊥) → after.kept m ≡ s.kept m
    old_one m ne = rw (ne_eqb m (suc s.confirmations) ne)

    new_one : after.kept (suc s.confirmations) ≡ i
    new_one = rw (eq-eqb (suc s.confirmations) (suc s.confirmations) refl)

    -- by cases: an older number, or the new one
    by_age : (P : ℕ → Type 0) → ((m : ℕ) → Recent s.confirmations m → P m) → P (suc s.confirmations) → (m : ℕ) → Recent (s.confirmations + 1) m → P m
    by_age P a b m r =
        by_test (eqb m (suc s.confirmations))
        (λ y. rw (eqb-true m (suc s.confirmations) y) b)
        (λ z. let ne = eqb-false m (suc s.confirmations) z in a m (older s.confirmations m r (omega (arith, r.within))))

    past : (m : ℕ) → Recent s.confirmations m → m ≡ suc s.confirmations → ⊥
    past m r e = omega (arith, r.within)

    pub number_keeps : Keeping after
    number_keeps = record {
      not_zero = by_age (λ m. 0 < after.kept m)
          (λ m r. rw (old_one m (past m r)) (w.kept_not_zero m r))
          (rw new_one (omega (arith, not_zero)));
      differ = λ a b p q. by_age (λ a. (b : ℕ) → Recent (s.confirmations + 1) b → after.kept a ≡ after.kept b → a ≡ b)
          (λ a r. by_age (λ b. after.kept a ≡ after.kept b → a ≡ b)
          (λ b u e. w.kept_differ a b r u (sym (old_one a (past a r)) ∙ e ∙ old_one b (past b u)))
          (λ e. absurd (not_kept a r (sym (old_one a (past a r)) ∙ e ∙ new_one))))
          (by_age (λ b. after.kept (suc s.confirmations) ≡ after.kept b → suc s.confirmations ≡ b)
          (λ b u e. absurd (not_kept b u (sym (old_one b (past b u)) ∙ sym e ∙ new_one)))
          (λ e. refl)) a p b q;
      queued = by_age (λ m. standing (strange m (after.kept m)) after ≡ 0)
          (λ m r. rw (old_one m (past m r)) (omega (
            arith,
            turns s c (some i) d (that x) come l t (strange m (s.kept m)) (strange_lasts m (s.kept m)),
            w.kept_queued m r,
            same m r.given (omega (arith, r.within, f.next)) (s.kept m),
          )))
          (rw new_one last_one);
    }
      where
        not_zero : 0 < i
        not_zero =
            go x is_it (all_first (Belongs c) (id_is i) (s.class c).queue x en (w.each c l).belong)
          where
            go : (x : Item) → id_is i x ≡ true → Belongs c x → 0 < i
            go (reading p n) h b = no _ h refl
            go (booking e) h b =
                let v = (is_valid e.request b.valid).id in
                omega (arith, eqb-true (id_of e) i h, by_test (eqb (id_of e) 0) (λ y. absurd (v (eqb-true _ 0 y))) (λ z. eqb-false (id_of e) 0 z))

        last_one : standing (strange (suc s.confirmations) i) after ≡ 0
        last_one =
            let m = suc s.confirmations in
            let is : m ≡ n = omega (arith, f.next) in
            let gone : one (strange m i) x ≡ 1 = rw (waiting_strange m i x (omega arith) waits, is_it) in
            let nothing-comes : come (strange m i) ≡ 0 = rw is fits in
            omega (
              arith,
              turns s c (some i) d (that x) come l t (strange m i) (strange_lasts m i),
              standing_le m i s,
              w.ids i,
              number_unused s w m (omega arith),
            )

  confirm_keeps : (i n : ℕ) → accepts s (confirm i n) ≡ true
      → Keeping (in_class s (class_of s i) (some i) (confirm_step i n (s.class (class_of s i)))).site
  confirm_keeps i n a = go (confirm_both s w i n a).1
    where
      c : ℕ
      c = class_of s i

      d : Did
      d = confirm_step i n (s.class c)

      g : Confirmable s i n
      g = confirm_accepted s i n a

      unnumbered : (x : Item) → entry_of i (s.class c).queue ≡ some x → Waiting x
      unnumbered x en = let u : is_confirmed x ≡ false = rw en at g.waits in unconfirmed_waits x u

      go : Confirms i n (s.class c) d → Keeping (in_class s c (some i) d).site
      go (at_once x b sl bk en p p' r z t) =
          number_keeps i n c d g x nothing g.known en (unnumbered x en) t (λ m k u j. omega arith) refl
      go (later x y back en num e p b z t) =
          number_keeps i n c d g x (that y) g.known en (unnumbered x en) t
          (λ m k u j. rw (e, waiting_strange m j x k (unnumbered x en), numbered_strange n m j x k u) (omega arith))
          (rw (e, numbered_fits n i x (omega (arith, g.next)) (first_passes (id_is i) (s.class c).queue x en)))

  pub call_keeping : (k : Call) → Keeping (call s k).site
  unfolding call act
  call_keeping k = by_test (accepts s k) (λ t. rw t (go k t)) (λ f. rw f same)
    where
      same : Keeping s
      same = record { not_zero = w.kept_not_zero; differ = w.kept_differ; queued = w.kept_queued }

      go : (k : Call) → accepts s k ≡ true → Keeping (act s k).site
      go (offer b) a = offer_keeps b a
      go (work c) a = work_keeps c a
      go (confirm i n) a = confirm_keeps i n a
      go (read c k) a = same
      go (look i) a = same
      go (query m) a = record {
        not_zero = w.kept_not_zero;
        differ = w.kept_differ;
        queued = λ n r. query_standing s w m a (strange n (s.kept n)) (strange_lasts n (s.kept n)) refl ∙ w.kept_queued n r;
      }
