-- Work: the head's slot takes its next operation. Assumes nothing.
use Prim.Native.Nat.{ℕ, zero, suc, ◌+◌, ◌*◌, ◌-◌, ◌<◌, ◌≤◌}
use native.Mathlib.Omega.{arith}
use mathlib.Core.Path.{◌≡◌, refl, sym, ap, ◌∙◌, subst}
use mathlib.Core.Logic.{◌⊎◌, inl, inr}
use mathlib.Core.Bool.{Bool, true, false, not, cond, ◌&&◌}
use mathlib.Core.Option.{Option, none, some}
use mathlib.Core.List.{List, [], ◌∷◌, ◌++◌}
use lib.Dec.{eqb, ltb}
use lib.ListN.{length, get_or, take, drop, set, replicate, length-set, get_or-map}
use lib.Seq.{get_or-take, map-set_same, get_or-set_same, get_or-set_other}
use borrow.Author.Tests.{eqb-false, eq-eqb, ne_eqb, lt-ltb, le-ltb, le-leb, lt-leb, ltb-true, ltb-false, eqb-true}
use borrow.Rule.Slice.PartMut.{put_mid, same_len_mid}
use Rattle.plain.specs.Ops as P
use Rattle.plain.specs.Queue as Q
use Rattle.plain.specs.Steps as K
use Rattle.plain.specs.Site as S
use Rattle.cells.specs.Ops.{no_op, op_of}
use Rattle.places.proofs.Parts.{put_apart, put_own}
use Rattle.plain.proofs.Tests.{by_test}
use Rattle.plain.specs.Sound.{Head}
use Rattle.slots.proofs.Records.{ops_count}
use Rattle.slots.proofs.Running as Running
use Rattle.slots.specs.Meaning.{entry_of, slot_free, is_used, no_slot, op_at, request_of, slot_at}
use Rattle.slots.specs.Rules.{Holds}
use Rattle.slots.specs.Steps.{StepDone, Marked, after_step, tried_by}
use Rattle.slots.specs.declared.Slot.{Slot}
use Rattle.store.proofs.Canonical.{part_is, places_length, slot_item, slot_stands}
use Rattle.store.proofs.Cells.{lent, lent_long}
use Rattle.store.proofs.Commit.{head_is, stands_class}
use Rattle.store.proofs.Meant.{to_plain, used_holds}
use Rattle.store.proofs.Summed.{work_sum}
use Rattle.plain.proofs.Costs.{head_confirmed}
use Rattle.store.proofs.Offered.{accepted_call, not_done}
use Rattle.store.proofs.Promise.{same_trans, sound_kept}
use Rattle.store.proofs.Relaid.{Queued, at_stored, by_slot, items_kept, means}
use Rattle.plain.proofs.Sums.{sum_term}
use Rattle.store.specs.Calls.{Did, RightCells, SoundState, State, plain_of}
use Rattle.store.specs.Meaning.{Same, cells_of, items, len_of, places, plain, plain_class, queue_of}
use Rattle.store.specs.Sound.{Cells, Laid, stands, stands_at, times}
use Rattle.store.specs.Steps.{CommitDone, Commitable, head_slot, head_tried, less_one, with_slot, with_sums}
use Rattle.store.specs.Store.{Shaped, Store, query_at}

-- a slot in use takes another value of the same record: the site stays laid out, and no queue's places change
module _ (s : Store) (w : Shaped s) (h : Laid s) (i : ℕ) (m : i < 128) (u : Slot) (id : u.id ≡ (slot_at s.slots i).id) (class : u.class ≡ (slot_at s.slots i).class) (holds : Holds u) where
  inside : i < length s.slots
  inside = omega (arith, w.slots)

  stands_same : (c j : ℕ) → stands_at (with_slot s i u) c j ≡ stands_at s c j
  stands_same c j = by_slot s.slots i u inside (λ j x. cond (ltb j 128) (stands c x) (cond (S.named (query_at s.queries (j - 128)).classes c) 1 0) ≡ stands_at s c j)
      (rw (id, class)) (λ j n. refl) j

  pub kept_laid : Laid (with_slot s i u)
  kept_laid = record {
    free_or_valid = λ j n. by_slot s.slots i u inside (λ j x. j < 128 → (x ≡ slot_free) ⊎ Holds x) (λ n. inr holds) (λ j ne n. h.free_or_valid j n) j n;
    not_longer_than_136 = h.not_longer_than_136;
    exactly_once = λ c j l. h.exactly_once c j l ∙ sym (stands_same c j);
    past_the_end_zero = h.past_the_end_zero;
    map_agrees = h.map_agrees ∙ sym (map-set_same is_used s.slots i u no_slot (ap (λ (n : ℕ). not (eqb n 0)) id));
    unused_zero = h.unused_zero;
    free_queries_zero = h.free_queries_zero;
  }

  pub kept_queued : (c : ℕ) → c < 16 → Queued s (with_slot s i u) c (places s c)
  kept_queued c l =
      let n = places_length s w h c l in
      record {
        fits = omega (arith, h.not_longer_than_136 c l);
        len = sym n;
        own = part_is s w h c l ∙ ap (λ (k : ℕ). places s c ++ replicate (136 - k) 0) (sym n);
        others = λ d k ne. (refl, refl);
      }

-- other sums leave it laid out
pub laid_sums : (s : Store) (sums : List ℕ) → Laid s → Laid (with_sums s sums)
laid_sums s sums h = record {
  free_or_valid = h.free_or_valid;
  not_longer_than_136 = h.not_longer_than_136;
  exactly_once = h.exactly_once;
  past_the_end_zero = h.past_the_end_zero;
  map_agrees = h.map_agrees;
  unused_zero = h.unused_zero;
  free_queries_zero = h.free_queries_zero;
}

-- the plain entry's next operation is the slot's
module _ (i : ℕ) (v : Slot) (seven : length v.ops ≡ 7) (holds : Holds v) (left : v.done < v.count) (w : List ℕ) where
  any_default : {A : Type 0} (l : List A) (n : ℕ) (d e : A) → n < length l → get_or l n d ≡ get_or l n e
  any_default [] n d e k = absurd (omega arith)
  any_default (x ∷ l) zero d e k = refl
  any_default (x ∷ l) (suc n) d e k = any_default l n d e (omega arith)

  pub tried_same : K.tried (entry_of i v) w ≡ tried_by v w
  tried_same = ap (λ (o : P.Op). cond (eqb v.mark 0) (P.carry_at (suc v.done) o w) (P.declined v.mark)) is_op
    where
      is_op : get_or (request_of v).ops v.done (P.put 0 0) ≡ op_of (op_at v v.done)
      is_op =
          any_default (request_of v).ops v.done (P.put 0 0) (op_of no_op) (omega (arith, ops_count v seven holds))
          ∙ get_or-map op_of (take v.count v.ops) v.done no_op ∙ ap op_of (get_or-take v.count v.ops v.done no_op left)

-- the ids last confirmed, where a number is given or none is
kept_in : (m n : ℕ) (f g : ℕ → ℕ) (new : Option ℕ) → m ≡ n → ((j : ℕ) → S.Recent m j → f j ≡ g j)
    → (j : ℕ) → S.Recent (m + S.given new) j → S.kept_with new (suc m) f j ≡ S.kept_with new (suc n) g j
kept_in m n f g none e h j r = h j (record { given = r.given; within = omega (arith, r.within); last = omega (arith, r.last) })
kept_in m n f g (some i) e h j r =
    by_test (eqb j (suc m))
    (λ y. rw (y, ← e, y))
    (λ z. let ne = eqb-false j (suc m) z in
    rw (z, ← e, z) (h j (record { given = r.given; within = omega (arith, r.within); last = omega (arith, r.last) })))

-- two plain sites that differ in class c alone, and steps there that leave the same
pub same_in : (a b : S.Site) (c : ℕ) (new : Option ℕ) (d e : K.Did) → ((k : ℕ) → k < 16 → (k ≡ c → ⊥) → a.class k ≡ b.class k) → a.confirmations ≡ b.confirmations → a.commits ≡ b.commits → a.queries ≡ b.queries → ((n : ℕ) → S.Recent a.confirmations n → a.kept n ≡ b.kept n)
    → d.class ≡ e.class → S.commits_by d.answer ≡ S.commits_by e.answer → Same (S.in_class a c new d).site (S.in_class b c new e).site
same_in a b c new d e f g h nq ids k m = record {
  class = λ j l. by_test (eqb j c) (λ t. rw t k) (λ n. rw n (f j l (eqb-false j c n)));
  confirmations = ap (λ (n : ℕ). n + S.given new) g;
  commits = rw (h, m);
  queries = nq;
  kept = kept_in a.confirmations b.confirmations a.kept b.kept new g ids;
}

module _ (x : State) (w : Shaped x.site) (r : RightCells x) (q : SoundState x) (c : ℕ) where
  abbrev s : Store
  s = x.site

  abbrev base : List ℕ
  base = x.committed

  abbrev wrk : List ℕ
  wrk = x.working

  abbrev p : S.Site
  p = plain x.site x.committed x.working

  abbrev k : S.Call
  k = S.work c

  pub work_class : 16 ≤ c → Did x k x (K.refused 10)
  unfolding S.refusal
  work_class h = not_done x k 10 r q (omega arith) (rw (le-leb 16 c h))

  module _ (l : c < 16) where
    pub work_empty : len_of s c ≡ 0 → Did x k x (K.refused 11)
    unfolding S.refusal plain plain_class
    work_empty z = not_done x k 11 r q (omega arith) (rw (lt-leb 16 c l, ap K.idle none_there))
      where
        none_there : queue_of s c ≡ []
        none_there = rw z

    module _ (has : 0 < len_of s c) (request : head_slot s c < 128) where
      abbrev i : ℕ
      i = head_slot s c

      abbrev v : Slot
      v = slot_at s.slots (head_slot s c)

      abbrev ps : List ℕ
      ps = drop 1 (places s c)

      abbrev rest : List Q.Item
      rest = items s.slots s.queries (drop 1 (places s c))

      abbrev tr : P.Ran
      tr = head_tried s wrk c

      abbrev u : Slot
      u = after_step v tr

      abbrev cells : List ℕ
      cells = P.leaves tr (cells_of base c)

      small : i < 128
      small = request

      once_here : times i (i ∷ ps) ≡ stands c v
      once_here = ap (times i) (sym (head_is s w q.laid c l has)) ∙ q.laid.exactly_once c i l ∙ slot_stands s c i small

      pub head_held : Holds v
      head_held =
          let e : stands c v ≡ suc (times i ps) = sym once_here ∙ rw (eq-eqb i i refl) in
          used_holds s w.slots w.queries q.laid i (in_use (is_used v) (eqb v.class c) (times i ps) e)
        where
          in_use : (a b : Bool) (n : ℕ) → cond (a && b) 1 0 ≡ suc n → a ≡ true
          in_use true b n e = refl
          in_use false b n e = absurd (omega arith)

      long : length (request_of v).ops ≡ v.count
      long = ops_count v (w.ops i small) head_held

      head : queue_of s c ≡ Q.booking (entry_of i v) ∷ rest
      head = ap (items s.slots s.queries) (head_is s w q.laid c l has) ∙ ap (λ (x : Q.Item). x ∷ rest) (slot_item s.slots s.queries i small)

      pub head_sound : Head (entry_of i v) (cells_of base c) (cells_of wrk c)
      head_sound = subst (λ (z : List Q.Item). Cells z (cells_of base c) (cells_of wrk c)) head (q.working_cells_follow c l)

      pub work_idle : v.done ≡ v.count → Did x k x (K.refused 11)
      unfolding S.refusal plain plain_class
      work_idle e = not_done x k 11 r q (omega arith) (rw (lt-leb 16 c l, ap K.idle head, long, le-leb v.count v.done (omega arith)))

      pub work_left : (v.done ≡ v.count → ⊥) → v.done < v.count
      work_left ne = omega (arith, head_sound.within, long)

      -- a head that has declined has the committed cells
      pub marked : Marked v (cells_of base c) (cells_of wrk c)
      marked = Running.marked i v (cells_of base c) (cells_of wrk c) head_sound

      -- where the head is confirmed, a commit is still to come
      pub commits_less : 0 < v.number → s.commits < s.confirmations
      commits_less n =
          let f : Q.count Q.has_number (queue_of s c) ≡ 1 + Q.count Q.has_number rest = rw (head, lt-ltb 0 v.number n) in
          omega (arith, q.counts_agree, sum_term (λ c. Q.count Q.has_number (queue_of s c)) 16 c l)

      module _ (left : v.done < v.count) where
        accepted : S.refusal p k ≡ 0
        unfolding S.refusal plain plain_class
        accepted = rw (lt-leb 16 c l, ap K.idle head, long, lt-leb v.count v.done left)

        abbrev did : K.Did
        did = K.worked (entry_of i u) rest (cells_of base c) cells

        outcome : S.call p k ≡ S.in_class p c none did
        unfolding S.act K.work_step plain plain_class
        outcome = accepted_call p k accepted ∙ ap (S.in_class p c none)
            (ap (λ (z : List Q.Item). K.work_on z (cells_of base c) (cells_of wrk c)) head
            ∙ ap (λ (o : P.Ran). K.worked (K.advanced (entry_of i v) o) rest (cells_of base c) (P.leaves o (cells_of base c))) (tried_same i v (w.ops i small) head_held left (cells_of wrk c)))

        after_held : Holds u
        after_held = record { count = head_held.count; coded = head_held.coded; rest = head_held.rest; valid = head_held.valid }

        pub after_laid : Laid (with_slot s i u)
        after_laid = kept_laid s w q.laid i small u refl refl after_held

        gone : times i ps ≡ 0
        gone = let e : suc (times i ps) ≡ stands c v = rw (eq-eqb i i refl) at once_here in omega (arith, at_most (is_used v && eqb v.class c))
          where
            at_most : (b : Bool) → cond b 1 0 ≤ 1
            at_most true = omega arith
            at_most false = omega arith

        queue_after : items (set s.slots i u) s.queries (places s c) ≡ Q.booking (entry_of i u) ∷ rest
        queue_after =
            ap (items (set s.slots i u) s.queries) (head_is s w q.laid c l has)
            ∙ rw (lt-ltb i 128 small, at_stored s.slots i u (omega (arith, w.slots, small)), items_kept s.slots i u (omega (arith, w.slots, small)) s.queries ps gone)

        others_after : (d : ℕ) → d < 16 → (d ≡ c → ⊥) → items (set s.slots i u) s.queries (places s d) ≡ items s.slots s.queries (places s d)
        others_after d m ne = items_kept s.slots i u (omega (arith, w.slots, small)) s.queries (places s d) (q.laid.exactly_once d i m ∙ slot_stands s d i small ∙ rw (of_class, ne_eqb c d (λ e. ne (sym e))) (off (is_used v)))
          where
            off : (b : Bool) → ◌≡◌ {A = ℕ} (cond (b && false) 1 0) 0
            off true = refl
            off false = refl

            of_class : v.class ≡ c
            of_class = stands_class c v (times i ps) (sym once_here ∙ rw (eq-eqb i i refl))

        -- with the sums that are right then
        module _ (wrk' : List ℕ) (own : cells_of wrk' c ≡ cells) (others : (d : ℕ) → (d ≡ c → ⊥) → cells_of wrk' d ≡ cells_of wrk d) (n : length wrk' ≡ 1024)
            (ss : List ℕ) (right_sums : (d : ℕ) → d < 16 → get_or ss d 0 ≡ Q.confirmed_costs ((S.call p k).site.class d).queue) where
          abbrev y : State
          y = record { site = with_sums (with_slot s i u) ss; committed = x.committed; working = wrk' }

          -- the head stays at the head
          stays : (a : K.Answer) → S.commits_by a ≡ 0 → did ≡ record { class = record { queue = Q.booking (entry_of i u) ∷ rest; committed = cells_of base c; working = cells }; answer = a } → Did x k y a
          stays a z e =
              let o : S.call p k ≡ S.in_class p c none (record { class = record { queue = Q.booking (entry_of i u) ∷ rest; committed = cells_of base c; working = cells }; answer = a }) = outcome ∙ ap (S.in_class p c none) e in
              let m : Same (plain_of y) (S.call p k).site = rw o (means s (with_sums (with_slot s i u) ss) c (places s c) (queued_sums (kept_queued s w q.laid i small u refl refl after_held c l)) base wrk base wrk' none (record { class = record { queue = Q.booking (entry_of i u) ∷ rest; committed = cells_of base c; working = cells }; answer = a })
              queue_after refl own others_after (λ d m ne. (refl, others d ne)) (omega arith) (rw z (omega arith)) refl (λ n r. refl)) in
              record { cells = (r.0, n); sound = sound_kept x y k w (length-set s.slots i u ∙ w.slots) w.queries q (laid_sums (with_slot s i u) ss after_laid) m right_sums; site = m; answer = rw o }
            where
              queued_sums : Queued s (with_slot s i u) c (places s c) → Queued s (with_sums (with_slot s i u) ss) c (places s c)
              queued_sums g = record { fits = g.fits; len = g.len; own = g.own; others = g.others }

          pub work_stepped : suc v.done < v.count → Did x k y (K.stepped v.id (suc v.done))
          work_stepped h = stays _ refl (rw (long, lt-leb v.count (suc v.done) h))

          pub work_executed : v.count ≤ suc v.done → v.number ≡ 0 → Did x k y (K.executed v.id)
          work_executed h z = stays _ refl (rw (long, le-leb v.count (suc v.done) h, le-ltb 0 v.number (omega arith)))

          between : Same (S.in_class (plain (with_sums (with_slot s i u) ss) base wrk') c none (K.commit (Q.booking (entry_of i u)) (items (set s.slots i u) s.queries ps) (cells_of wrk' c))).site
              (S.in_class p c none (K.commit (Q.booking (entry_of i u)) rest cells)).site
          unfolding plain plain_class
          between = same_in (plain (with_sums (with_slot s i u) ss) base wrk') p c none (K.commit (Q.booking (entry_of i u)) (items (set s.slots i u) s.queries ps) (cells_of wrk' c)) (K.commit (Q.booking (entry_of i u)) rest cells)
              (λ d m ne. λ j. record { queue = others_after d m ne j; committed = cells_of base d; working = others d ne j }) refl refl refl (λ n r. refl)
              (λ j. record { queue = items_kept s.slots i u (omega (arith, w.slots, small)) s.queries ps gone j; committed = own j; working = own j }) refl

          pub work_committed : v.count ≤ suc v.done → 0 < v.number → (t : Store) (base' : List ℕ) → CommitDone (with_sums (with_slot s i u) ss) base wrk' c t base'
              → Did x k (record { site = t; committed = base'; working = wrk' }) (K.committed v.id v.number (P.mark_of tr) i v.backs)
          work_committed h z t base' d =
              let e : did ≡ K.commit (Q.booking (entry_of i u)) rest cells = rw (long, le-leb v.count (suc v.done) h, lt-ltb 0 v.number z) in
              let o : S.call p k ≡ S.in_class p c none (K.commit (Q.booking (entry_of i u)) rest cells) = outcome ∙ ap (S.in_class p c none) e in
              let m : Same (plain t base' wrk') (S.call p k).site = rw o (same_trans (d.site (entry_of i u)) between) in
              record { cells = (d.cells, n); sound = sound_kept x (record { site = t; committed = base'; working = wrk' }) k w (d.slots ∙ length-set s.slots i u ∙ w.slots) (ap length d.queries ∙ w.queries) q d.laid m (λ c l. ap (λ (z : List ℕ). get_or z c 0) d.sums ∙ right_sums c l); site = m; answer = rw o }

        -- the sums: one less where the head is confirmed
        pub sums_after : (d : ℕ) → d < 16 → get_or (set s.sums c (less_one (get_or s.sums c 0) v.number)) d 0 ≡ Q.confirmed_costs ((S.call p k).site.class d).queue
        unfolding plain plain_class
        sums_after d m =
            by_test (eqb d c)
            (λ t. let z : d ≡ c = eqb-true d c t in
            rw z (get_or-set_same s.sums c _ 0 (omega (arith, w.sums)) ∙ rw (q.sums_right c l) (sym (after c ∙ rw (eq-eqb c c refl, head_first)))))
            (λ f. let ne = eqb-false d c f in
            get_or-set_other s.sums c d _ 0 ne ∙ q.sums_right d m ∙ sym (after d ∙ rw (ne_eqb d c ne)))
          where
            after : (d : ℕ) → Q.confirmed_costs ((S.call p k).site.class d).queue ≡ cond (eqb d c) (Q.confirmed_costs (queue_of s c) - cond (head_confirmed (queue_of s c)) 1 0) (Q.confirmed_costs (queue_of s d))
            after d = work_sum p (to_plain s w.slots w.queries q.laid base wrk q) c (rw accepted) d

            head_first : head_confirmed (queue_of s c) ≡ ltb 0 v.number
            head_first = rw head

        -- the code's way to it: the class's part of the working cells lent and back, the slot as the operation left it, and the sum
        module _ (z : Slot) (after : List ℕ) (n : length after ≡ length (lent wrk c)) (d : StepDone v (lent base c) (lent wrk c) z after)
            (sum : ℕ) (less : sum ≡ less_one (get_or s.sums c 0) v.number) where
          abbrev wrk' : List ℕ
          wrk' = put_mid (64 * c) (64 * c + 64 - 64 * c) wrk after

          as_lent : 64 * c + 64 - 64 * c ≡ 64
          as_lent = omega arith

          m : length after ≡ 64
          m = n ∙ lent_long wrk c r.1 l

          is : z ≡ u
          is = rw as_lent at d.slot

          right : length wrk' ≡ 1024
          right = rw as_lent (same_len_mid (64 * c) 64 wrk after (rw as_lent at n) ∙ r.1)

          own : cells_of wrk' c ≡ cells
          own = rw as_lent (put_own (64 * c) 64 wrk after (omega (arith, r.1)) m ∙ (rw as_lent at d.cells))

          others : (k : ℕ) → (k ≡ c → ⊥) → cells_of wrk' k ≡ cells_of wrk k
          others k ne = rw as_lent (put_apart (64 * c) 64 wrk after (omega (arith, r.1)) m (64 * k) 64
              (by_test (ltb k c) (λ t. let y = ltb-true k c t in inl (omega arith)) (λ f. let y = ltb-false k c f in inr (omega arith))))

          abbrev ss : List ℕ
          ss = set s.sums c sum

          summed : (d : ℕ) → d < 16 → get_or (set s.sums c sum) d 0 ≡ Q.confirmed_costs ((S.call p k).site.class d).queue
          summed d b = ap (λ (a : ℕ). get_or (set s.sums c a) d 0) less ∙ sums_after d b

          pub stepped_as : z.done < z.count → Did x k (record { site = with_sums (with_slot s i z) ss; committed = x.committed; working = wrk' }) (K.stepped z.id z.done)
          stepped_as =
              subst (λ (z : Slot). z.done < z.count → Did x k (record { site = with_sums (with_slot s i z) ss; committed = x.committed; working = wrk' }) (K.stepped z.id z.done))
              (sym is) (work_stepped wrk' own others right ss summed)

          pub executed_as : z.count ≤ z.done → z.number ≡ 0 → Did x k (record { site = with_sums (with_slot s i z) ss; committed = x.committed; working = wrk' }) (K.executed z.id)
          executed_as =
              subst (λ (z : Slot). z.count ≤ z.done → z.number ≡ 0 → Did x k (record { site = with_sums (with_slot s i z) ss; committed = x.committed; working = wrk' }) (K.executed z.id))
              (sym is) (work_executed wrk' own others right ss summed)

          pub may_commit : 0 < z.number → s.confirmations ≤ 4294967295 → Commitable (with_sums (with_slot s i z) ss) base wrk' c
          may_commit =
              subst (λ (z : Slot). 0 < z.number → s.confirmations ≤ 4294967295 → Commitable (with_sums (with_slot s i z) ss) base wrk' c) (sym is)
              (λ n m. record { laid = laid_sums (with_slot s i u) ss after_laid; class = l; some = has; cells = (r.0, right); count = omega (arith, commits_less n); request = request })

          pub committed_as : z.count ≤ z.done → 0 < z.number → (t : Store) (base' : List ℕ) → CommitDone (with_sums (with_slot s i z) ss) base wrk' c t base'
              → Did x k (record { site = t; committed = base'; working = wrk' }) (K.committed z.id z.number z.mark i z.backs)
          committed_as =
              subst (λ (z : Slot). z.count ≤ z.done → 0 < z.number → (t : Store) (base' : List ℕ) → CommitDone (with_sums (with_slot s i z) ss) base wrk' c t base'
              → Did x k (record { site = t; committed = base'; working = wrk' }) (K.committed z.id z.number z.mark i z.backs)) (sym is)
              (work_committed wrk' own others right ss summed)
