-- A fresh site is sound, and every call leaves a sound site sound. Assumes nothing.
use Prim.Native.Nat.{ℕ, ◌+◌, ◌<◌, ◌≤◌}
use native.Mathlib.Omega.{arith}
use mathlib.Core.Path.{◌≡◌, refl, sym, ap, ◌∙◌, subst}
use mathlib.Core.Logic.{◌⊎◌, inl, inr}
use mathlib.Core.Bool.{Bool, true, false, cond, and-false}
use mathlib.Core.Option.{Option, none, some}
use mathlib.Core.List.{List, [], ◌∷◌}
use lib.Dec.{ltb, eqb}
use borrow.Author.Tests.{eqb-true, ltb-true}
use Rattle.plain.specs.Record.{request_in}
use Rattle.plain.specs.Queue.{Entry, Item, booking, reading, id_is, slot_is, number_is, has_number, place_is, reading_is, is_confirmed, count, entry_of, confirmed_part}
use Rattle.plain.specs.Steps.{Did, Answer, new_entry, numbered, work_step, offer_step, confirm_step}
use Rattle.plain.specs.Site.{Site, Call, offer, work, confirm, read, look, query, fresh, sum, standing, class_of, slot_free, free_place, named}
use Rattle.plain.specs.Site.{call, act, accepts, in_class, begins, given, commit_of, commits_by}
use Rattle.plain.specs.Sound.{SoundClass, SoundSite, Differ}
use Rattle.plain.proofs.Tests.{by_test, no}
use Rattle.plain.proofs.Sums.{sum_term}
use Rattle.plain.proofs.Items.{Lasting, ending_commits, unconfirmed_unnumbered, gets_number, no_place, no_reading}
use Rattle.plain.proofs.Queues.{one, one_le, one_same, first_passes}
use Rattle.plain.proofs.Steps.{raise, Turnover, nothing, that, Works, unconcerned, one_done, last_done}
use Rattle.plain.proofs.Confirming.{Confirms, at_once, later}
use Rattle.plain.proofs.Sites.{not_queued, room, free, number_unused, work_accepted, offer_accepted, Confirmable, confirm_accepted, query_accepted}
use Rattle.plain.proofs.Accepted.{id_lasts, slot_lasts, number_lasts, numbered_lasts, confirmed_lasts, place_lasts, reading_lasts}
use Rattle.plain.proofs.Accepted.{turns, work_both, offer_both, confirm_both, query_both, query_count, query_standing, readings_le}
use Rattle.plain.proofs.Backs.{call_backs}
use Rattle.plain.proofs.Recent.{call_keeping}

-- DIFFERENT: no two requests pass one of a family of lasting tests
module _ (P : ℕ → Item → Bool) (lasts : (j : ℕ) → Lasting (P j)) (s : Site) (w : SoundSite s) (u : Differ P s) where
  -- in class c of a site
  differ_step : (c : ℕ) (new : Option ℕ) (d : Did) (gone come : (Item → Bool) → ℕ) → c < 16 → Turnover (s.class c) d.class gone come
      → ((j : ℕ) → (come (P j) ≤ gone (P j)) ⊎ ((come (P j) ≤ 1) × (standing (P j) s ≡ 0))) → Differ P (in_class s c new d).site
  differ_step c new d gone come l t fresh j = go (fresh j)
    where
      go : (come (P j) ≤ gone (P j)) ⊎ ((come (P j) ≤ 1) × (standing (P j) s ≡ 0)) → standing (P j) (in_class s c new d).site ≤ 1
      go (inl le) = omega (arith, turns s c new d gone come l t (P j) (lasts j), u j)
      go (inr z) = omega (arith, turns s c new d gone come l t (P j) (lasts j))

  -- every call keeps it, if an offer brings in, and a confirmation turns into, only what stands nowhere
  differ_call : ((b : List ℕ) → accepts s (offer b) ≡ true → (j : ℕ) → P j (booking (new_entry (request_in b) (slot_free s))) ≡ true → standing (P j) s ≡ 0)
      → ((i n : ℕ) → accepts s (confirm i n) ≡ true → (j : ℕ) (e : Entry) → P j (numbered n (booking e)) ≡ true
      → (P j (booking e) ≡ true) ⊎ (standing (P j) s ≡ 0))
      → ((j p n : ℕ) → P j (reading p n) ≡ false) → (k : Call) → Differ P (call s k).site
  unfolding call act
  differ_call new num none_reads k = by_test (accepts s k) (λ t. rw t (go k t)) (λ f. rw f u)
    where
      worked : (c : ℕ) → c < 16 → Works (s.class c) (work_step (s.class c)) → Differ P (in_class s c none (work_step (s.class c))).site
      worked c l (unconcerned p p' b z t) = differ_step c none (work_step (s.class c)) nothing nothing l t (λ j. inl (omega arith))
      worked c l (one_done x y rest p p' al m b z t) = differ_step c none (work_step (s.class c)) nothing nothing l t (λ j. inl (omega arith))
      worked c l (last_done x y rest p p' al en m b z t) = differ_step c none (work_step (s.class c)) (that x) nothing l t (λ j. inl (omega arith))

      offered : (b : List ℕ) → accepts s (offer b) ≡ true → Differ P (act s (offer b)).site
      offered b a =
          let x = booking (new_entry (request_in b) (slot_free s)) in
          differ_step (request_in b).class none (offer_step (request_in b) (slot_free s) (s.class (request_in b).class)) nothing (that x)
          (offer_accepted s b a).class (offer_both s w b a).turnover
          (λ j. by_test (P j x) (λ t. inr (one_le (P j) x, new b a j t)) (λ f. inl (rw f (omega arith))))

      turned : (i n : ℕ) → accepts s (confirm i n) ≡ true → (j : ℕ) (x : Item) → id_is i x ≡ true → P j (numbered n x) ≡ true
          → (P j x ≡ true) ⊎ (standing (P j) s ≡ 0)
      turned i n a j (booking e) h t = num i n a j e t
      turned i n a j (reading p m) h t = no _ h refl

      confirmed : (i n : ℕ) → accepts s (confirm i n) ≡ true → Confirms i n (s.class (class_of s i)) (confirm_step i n (s.class (class_of s i)))
          → Differ P (act s (confirm i n)).site
      confirmed i n a (at_once x b sl bk en p p' r z t) =
          differ_step (class_of s i) (some i) (confirm_step i n (s.class (class_of s i))) (that x) nothing (confirm_accepted s i n a).known t (λ j. inl (omega arith))
      confirmed i n a (later x y back en m e p b z t) =
          differ_step (class_of s i) (some i) (confirm_step i n (s.class (class_of s i))) (that x) (that y) (confirm_accepted s i n a).known t
          (λ j. by_test (P j y)
          (λ v. elim (turned i n a j x (first_passes (id_is i) (s.class (class_of s i)).queue x en) (rw e at v)) [ inl g ↦ inl (rw (v, g) (omega arith)) | inr g ↦ inr (one_le (P j) y, g) ])
          (λ f. inl (rw f (omega arith))))

      go : (k : Call) → accepts s k ≡ true → Differ P (act s k).site
      go (offer b) a = offered b a
      go (work c) a = worked c (work_accepted s c a).0 (work_both s w c a).1
      go (confirm i n) a = confirmed i n a (confirm_both s w i n a).1
      go (read c k) a = u
      go (look i) a = u
      go (query m) a = λ j. omega (arith, u j, query_standing s w m a (P j) (lasts j) (none_reads j (free_place s) s.confirmations))

module _ (s : Site) (w : SoundSite s) where
  call_ids : (k : Call) → Differ id_is (call s k).site
  call_ids =
      differ_call id_is id_lasts s w w.ids
      (λ b a j h. subst (λ (m : ℕ). standing (id_is m) s ≡ 0) (eqb-true (request_in b).id j h)
      (not_queued s (request_in b).id (offer_accepted s b a).unknown))
      (λ i n a j e h. inl h)
      (λ j p n. refl)

  call_slots : (k : Call) → Differ slot_is (call s k).site
  call_slots =
      differ_call slot_is slot_lasts s w w.slots
      (λ b a j h. subst (λ (m : ℕ). standing (slot_is m) s ≡ 0) (eqb-true (slot_free s) j h)
      (free s (room s w (offer_accepted s b a).few)))
      (λ i n a j e h. inl h)
      (λ j p n. refl)

  call_numbers : (k : Call) → Differ number_is (call s k).site
  call_numbers =
      differ_call number_is number_lasts s w w.numbers
      (λ b a j h. by_test (ltb 0 j)
      (λ t. let z : eqb 0 j ≡ true = rw t at h in absurd (omega (arith, eqb-true 0 j z, ltb-true 0 j t)))
      (λ f. no _ (rw f at h) refl))
      (λ i n a j x h. by_test (eqb n j)
      (λ t. inr (number_unused s w j (omega (arith, eqb-true n j t, (confirm_accepted s i n a).next))))
      (λ f. no _ (rw (f, and-false) at h) refl))
      (λ j p n. refl)

-- EACH CLASS AND THE TALLY
pub record Rules (s : Site) : Type 0 where
  pub each : (c : ℕ) → c < 16 → SoundClass c s.confirmations (s.class c)
  pub tally : s.confirmations ≡ s.commits + standing has_number s

pub no_commit : (a : Answer) → commit_of a ≡ none → commits_by a ≡ 0
no_commit a e = rw (e, commits_by)

-- a step in one class, with a new number or none
module _ (s : Site) (w : SoundSite s) (c : ℕ) (new : Option ℕ) (d : Did) (l : c < 16) (k : SoundClass c (s.confirmations + given new) d.class) where
  each_class : (e : ℕ) → e < 16 → SoundClass e (s.confirmations + given new) ((in_class s c new d).site.class e)
  each_class e m =
      by_test (eqb e c)
      (λ t. rw t (subst (λ (n : ℕ). SoundClass n (s.confirmations + given new) d.class) (sym (eqb-true e c t)) k))
      (λ f. rw f (raise e s.confirmations (s.confirmations + given new) (s.class e) (omega arith) (w.each e m)))

  rules : (gone come : (Item → Bool) → ℕ) → Turnover (s.class c) d.class gone come
      → commits_by d.answer + come has_number ≡ gone has_number + given new → Rules (in_class s c new d).site
  rules gone come t y = record {
    each = each_class;
    tally = omega (arith, w.tally, turns s c new d gone come l t has_number numbered_lasts);
  }

-- the first of a confirmed part is confirmed
part_confirmed : (q : List Item) (x : Item) (rest : List Item) → confirmed_part q ≡ x ∷ rest → is_confirmed x ≡ true
part_confirmed [] x rest e = let z : ◌≡◌ {A = ℕ} 0 1 = cc in absurd (omega arith)
part_confirmed (y ∷ q) x rest e =
    by_test (is_confirmed y)
    (λ t. let z : y ∷ confirmed_part q ≡ x ∷ rest = rw t at e in let p : y ≡ x = cc in rw (← p) t)
    (λ f. part_confirmed q x rest (rw f at e))

module _ (s : Site) (w : SoundSite s) where
  work_rules : (c : ℕ) → accepts s (work c) ≡ true → Rules (in_class s c none (work_step (s.class c))).site
  work_rules c a = go (work_both s w c a).1
    where
      l : c < 16
      l = (work_accepted s c a).0

      d : Did
      d = work_step (s.class c)

      k : SoundClass c (s.confirmations + 0) d.class
      k = raise c s.confirmations (s.confirmations + 0) d.class (omega arith) (work_both s w c a).0

      go : Works (s.class c) d → Rules (in_class s c none d).site
      go (unconcerned p p' b z t) = rules s w c none d l k nothing nothing t (omega (arith, no_commit d.answer z.0))
      go (one_done x y rest p p' al m b z t) = rules s w c none d l k nothing nothing t (omega (arith, no_commit d.answer z.0))
      go (last_done x y rest p p' al en m b z t) =
          let f : is_confirmed y ≡ true = al.tests is_confirmed confirmed_lasts ∙ part_confirmed (s.class c).queue x rest p in
          rules s w c none d l k (that x) nothing t
          (omega (arith, ap commits_by z ∙ ending_commits y d.class.committed f, one_same has_number y x (al.tests has_number numbered_lasts)))

  offer_rules : (b : List ℕ) → accepts s (offer b) ≡ true → Rules (act s (offer b)).site
  unfolding act offer_step
  offer_rules b a =
      let o = offer_both s w b a in
      let c = (request_in b).class in
      let d = offer_step (request_in b) (slot_free s) (s.class c) in
      rules s w c none d (offer_accepted s b a).class
      (raise c s.confirmations (s.confirmations + 0) d.class (omega arith) o.sound)
      nothing (that (booking (new_entry (request_in b) (slot_free s)))) o.turnover refl

  confirm_rules : (i n : ℕ) → accepts s (confirm i n) ≡ true
      → Rules (in_class s (class_of s i) (some i) (confirm_step i n (s.class (class_of s i)))).site
  confirm_rules i n a = go (confirm_both s w i n a).1
    where
      f : Confirmable s i n
      f = confirm_accepted s i n a

      c : ℕ
      c = class_of s i

      d : Did
      d = confirm_step i n (s.class c)

      k : SoundClass c (s.confirmations + 1) d.class
      k = raise c n (s.confirmations + 1) d.class (omega (arith, f.next)) (confirm_both s w i n a).0

      waits : (x : Item) → entry_of i (s.class c).queue ≡ some x → that x has_number ≡ 0
      waits x en = let g : is_confirmed x ≡ false = rw en at f.waits in rw (unconfirmed_unnumbered x g)

      counts : (x : Item) → entry_of i (s.class c).queue ≡ some x → that (numbered n x) has_number ≡ 1
      counts x en = rw (gets_number i n x (first_passes (id_is i) (s.class c).queue x en) (omega (arith, f.next)))

      go : Confirms i n (s.class c) d → Rules (in_class s c (some i) d).site
      go (at_once x b sl bk en p p' r z t) = rules s w c (some i) d f.known k (that x) nothing t (omega (arith, ap commits_by z, waits x en))
      go (later x y back en m e p b z t) =
          let g : that y has_number ≡ 1 = rw e (counts x en) in
          rules s w c (some i) d f.known k (that x) (that y) t (omega (arith, ap commits_by z, waits x en))

  call_rules : (k : Call) → Rules (call s k).site
  unfolding call act
  call_rules k = by_test (accepts s k) (λ t. rw t (go k t)) (λ f. rw f same)
    where
      same : Rules s
      same = record { each = w.each; tally = w.tally }

      go : (k : Call) → accepts s k ≡ true → Rules (act s k).site
      go (offer b) a = offer_rules b a
      go (work c) a = work_rules c a
      go (confirm i n) a = confirm_rules i n a
      go (read c k) a = same
      go (look i) a = same
      go (query m) a = record {
        each = λ c l. by_test (named m c) (λ t. rw t (query_both s w m c a l).sound) (λ f. rw f (w.each c l));
        tally = w.tally ∙ ap (λ (x : ℕ). s.commits + x) (sym (query_standing s w m a has_number numbered_lasts refl));
      }

-- ENTRIES OF QUERIES: one at most of each in a queue, and all of one agree in their beginning
pub record Entries (s : Site) : Type 0 where
  pub entries : (c : ℕ) → c < 16 → (p : ℕ) → count (place_is p) (s.class c).queue ≤ 1
  pub agree : (p m n : ℕ) → 0 < standing (reading_is p m) s → 0 < standing (reading_is p n) s → m ≡ n

module _ (s : Site) (w : SoundSite s) where
  -- a step in one class that brings none
  step_entries : (c : ℕ) (new : Option ℕ) (d : Did) (gone come : (Item → Bool) → ℕ) → c < 16 → Turnover (s.class c) d.class gone come
      → ((p : ℕ) → come (place_is p) ≡ 0) → ((p n : ℕ) → come (reading_is p n) ≡ 0) → Entries (in_class s c new d).site
  step_entries c new d gone come l t z y = record {
    entries = λ e m p. by_test (eqb e c)
        (λ u. rw u (omega (arith, t (place_is p) (place_lasts p), z p, w.entries c l p)))
        (λ f. rw f (w.entries e m p));
    agree = λ p m n a b. w.agree p m n (still p m a) (still p n b);
  }
    where
      still : (p n : ℕ) → 0 < standing (reading_is p n) (in_class s c new d).site → 0 < standing (reading_is p n) s
      still p n a = omega (arith, turns s c new d gone come l t (reading_is p n) (reading_lasts p n), y p n)

  work_entries : (c : ℕ) → accepts s (work c) ≡ true → Entries (in_class s c none (work_step (s.class c))).site
  work_entries c a = go (work_both s w c a).1
    where
      go : Works (s.class c) (work_step (s.class c)) → Entries (in_class s c none (work_step (s.class c))).site
      go (unconcerned p p' b z t) = step_entries c none (work_step (s.class c)) nothing nothing (work_accepted s c a).0 t (λ p. refl) (λ p n. refl)
      go (one_done x y rest p p' al m b z t) = step_entries c none (work_step (s.class c)) nothing nothing (work_accepted s c a).0 t (λ p. refl) (λ p n. refl)
      go (last_done x y rest p p' al en m b z t) = step_entries c none (work_step (s.class c)) (that x) nothing (work_accepted s c a).0 t (λ p. refl) (λ p n. refl)

  confirm_entries : (i n : ℕ) → accepts s (confirm i n) ≡ true
      → Entries (in_class s (class_of s i) (some i) (confirm_step i n (s.class (class_of s i)))).site
  confirm_entries i n a = go (confirm_both s w i n a).1
    where
      d : Did
      d = confirm_step i n (s.class (class_of s i))

      go : Confirms i n (s.class (class_of s i)) d → Entries (in_class s (class_of s i) (some i) d).site
      go (at_once x b sl bk en p p' r z t) = step_entries (class_of s i) (some i) d (that x) nothing (confirm_accepted s i n a).known t (λ p. refl) (λ p n. refl)
      go (later x y back en m e p b z t) =
          step_entries (class_of s i) (some i) d (that x) (that y) (confirm_accepted s i n a).known t
          (λ p. rw (no_place i p y m.id)) (λ p n. rw (no_reading i p n y m.id))

  -- a query's own: its place was that of none, and all its entries have the present count
  query_entries : (m : ℕ) → accepts s (query m) ≡ true → Entries (begins s m)
  unfolding standing
  query_entries m a = record { entries = one_each; agree = same }
    where
      p' : ℕ
      p' = free_place s

      none_there : (c : ℕ) → c < 16 → count (place_is p') (s.class c).queue ≡ 0
      none_there c l = omega (arith, (query_accepted s m a).unused, sum_term (λ c. count (place_is p') (s.class c).queue) 16 c l)

      one_each : (c : ℕ) → c < 16 → (p : ℕ) → count (place_is p) ((begins s m).class c).queue ≤ 1
      one_each c l p =
          by_test (eqb p' p)
          (λ t. let e : p ≡ p' = sym (eqb-true p' p t) in
          rw e (omega (arith, query_count s w m c a l (place_is p') (place_lasts p'), none_there c l, most c)))
          (λ f. omega (arith, query_count s w m c a l (place_is p) (place_lasts p), w.entries c l p, nothing_more c f))
        where
          most : (c : ℕ) → cond (named m c) (one (place_is p') (reading p' s.confirmations)) 0 ≤ 1
          most c = by_test (named m c) (λ t. rw t (one_le (place_is p') (reading p' s.confirmations))) (λ f. rw f (omega arith))

          nothing_more : (c : ℕ) → eqb p' p ≡ false → cond (named m c) (one (place_is p) (reading p' s.confirmations)) 0 ≡ 0
          nothing_more c f = by_test (named m c) (λ t. rw (t, f)) (λ g. rw g)

      -- one that is not the query's stood there before
      older : (p n : ℕ) → reading_is p n (reading p' s.confirmations) ≡ false → 0 < standing (reading_is p n) (begins s m) → 0 < standing (reading_is p n) s
      older p n f h = omega (arith, query_standing s w m a (reading_is p n) (reading_lasts p n) f)

      its_own : (p n : ℕ) → eqb p' p ≡ true → 0 < standing (reading_is p n) (begins s m) → n ≡ s.confirmations
      its_own p n t h =
          by_test (eqb s.confirmations n)
          (λ u. sym (eqb-true s.confirmations n u))
          (λ f. let z = older p n (rw (t, f)) h in
          let e : p ≡ p' = sym (eqb-true p' p t) in
          let z' : 0 < standing (reading_is p' n) s = rw e at z in
          absurd (omega (arith, z', readings_le p' n s, (query_accepted s m a).unused)))

      same : (p j n : ℕ) → 0 < standing (reading_is p j) (begins s m) → 0 < standing (reading_is p n) (begins s m) → j ≡ n
      same p j n x y =
          by_test (eqb p' p)
          (λ t. its_own p j t x ∙ sym (its_own p n t y))
          (λ f. w.agree p j n (older p j (rw f) x) (older p n (rw f) y))

  call_entries : (k : Call) → Entries (call s k).site
  unfolding call act
  call_entries k = by_test (accepts s k) (λ t. rw t (go k t)) (λ f. rw f same)
    where
      same : Entries s
      same = record { entries = w.entries; agree = w.agree }

      go : (k : Call) → accepts s k ≡ true → Entries (act s k).site
      go (offer b) a =
          step_entries (request_in b).class none (offer_step (request_in b) (slot_free s) (s.class (request_in b).class)) nothing
          (that (booking (new_entry (request_in b) (slot_free s)))) (offer_accepted s b a).class (offer_both s w b a).turnover (λ p. refl) (λ p n. refl)
      go (work c) a = work_entries c a
      go (confirm i n) a = confirm_entries i n a
      go (read c k) a = same
      go (look i) a = same
      go (query m) a = query_entries m a

-- EVERY CALL LEAVES A SOUND SITE SOUND
pub call_sound : (s : Site) (k : Call) → SoundSite s → SoundSite (call s k).site
call_sound s k w =
    let r = call_rules s w k in
    let m = call_keeping s w k in
    let e = call_entries s w k in
    record {
      each = r.each;
      slots = call_slots s w k;
      ids = call_ids s w k;
      numbers = call_numbers s w k;
      entries = e.entries;
      agree = e.agree;
      tally = r.tally;
      backs = call_backs s w k;
      kept_not_zero = m.not_zero;
      kept_differ = m.differ;
      kept_queued = m.queued;
    }

-- A FRESH SITE IS SOUND
pub fresh_sound : SoundSite fresh
unfolding fresh sum standing
fresh_sound = record {
  each = λ c l. record { belong = tt; order = tt; working = refl };
  slots = λ j. omega arith;
  ids = λ j. omega arith;
  numbers = λ j. omega arith;
  entries = λ c l p. omega arith;
  agree = λ p m n a b. absurd (omega arith);
  tally = refl;
  backs = λ c l. tt;
  kept_not_zero = λ n r. absurd (omega (arith, r.given, r.within));
  kept_differ = λ m n r q. absurd (omega (arith, r.given, r.within));
  kept_queued = λ n r. absurd (omega (arith, r.given, r.within));
}
