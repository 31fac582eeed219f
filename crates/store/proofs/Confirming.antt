-- Confirm on a sound site, by cases: refused, the executed head commits, or the request is numbered and moves. Assumes nothing.
use Prim.Native.Nat.{ℕ, suc, ◌+◌, ◌<◌, ◌≤◌}
use native.Mathlib.Omega.{arith}
use mathlib.Core.Path.{◌≡◌, refl, sym, ap, ◌∙◌}
use mathlib.Core.Bool.{and-false}
use mathlib.Core.Option.{none, some}
use mathlib.Core.List.{List, ◌∷◌}
use lib.Dec.{eqb, ltb}
use lib.ListN.{length, take, drop, length-set, get_or}
use borrow.Author.Tests.{eqb-false, eq-eqb, ne_eqb, lt-ltb, le-ltb, le-leb, lt-leb, ltb-true, ltb-false}
use Rattle.plain.specs.Queue as Q
use Rattle.plain.specs.Steps as K
use Rattle.plain.specs.Site as S
use Rattle.plain.proofs.Tests.{by_test}
use Rattle.plain.proofs.Recent.{as_before}
use Rattle.places.specs.Moves.{part}
use Rattle.slots.specs.declared.Slot.{Slot}
use Rattle.slots.specs.Meaning.{entry_of, is_used, slot_at}
use Rattle.slots.specs.Rules.{Holds}
use Rattle.store.specs.Store.{Store, Shaped}
use Rattle.store.specs.Meaning.{len_of, places, items, queue_of, cells_of, kept_at, plain, plain_class, Same}
use Rattle.store.specs.Sound.{times, Laid}
use Rattle.store.specs.Calls.{State, RightCells, SoundState, Did, plain_of}
use Rattle.store.specs.Steps.{with_slot, head_slot, with_number, numbered_store, Backable, Commitable, CommitDone}
use Rattle.store.proofs.KeptIds.{kept_after, unused_after}
use Rattle.store.proofs.Relaid.{items_kept}
use Rattle.store.proofs.Canonical.{slot_item, slot_stands}
use Rattle.store.proofs.Confirm.{holds_kept}
use Rattle.store.proofs.Commit.{head_is}
use Rattle.store.proofs.Promise.{sound_kept, same_trans}
use Rattle.store.proofs.Offered.{not_done, accepted_call}
use Rattle.store.proofs.Asked.{id_absent, there}
use Rattle.store.proofs.Asking.{found, entry}
use Rattle.store.proofs.Meant.{to_plain, used_holds}
use Rattle.store.proofs.Summed.{commit_sum}
use Rattle.store.proofs.Work.{kept_laid}
use Rattle.slots.proofs.Records.{ops_count}

-- REFUSALS 6, 7, 8, 9
module _ (x : State) (w : Shaped x.site) (r : RightCells x) (q : SoundState x) (id n : ℕ) where
  abbrev s : Store
  s = x.site

  abbrev p : S.Site
  p = plain_of x

  abbrev k : S.Call
  k = S.confirm id n

  -- NO COUNT WRAPS: none is above the count of confirmations and queries, which both have 32 bits, so 64 bits hold one more
  pub may_be_put_back : s.confirmations < 4294967296 → s.begun < 4294967296 → (c : ℕ) → c < 16 → 0 < len_of s c → head_slot s c < 128 → Backable s x.committed x.working c
  may_be_put_back more less c l has request = record {
    laid = q.laid;
    class = l;
    some = has;
    cells = r;
    request = request;
    fits = omega (arith, q.backs_bounded (head_slot s c) request);
  }

  pub all_taken : 4294967295 ≤ s.confirmations → Did x k x (K.refused 6)
  unfolding S.refusal plain
  all_taken h = not_done x k 6 r q (omega arith) (rw (le-leb 4294967295 s.confirmations h))

  module _ (more : s.confirmations < 4294967295) where
    pub not_next : (n ≡ s.confirmations + 1 → ⊥) → Did x k x (K.refused 7)
    unfolding S.refusal plain
    not_next h = not_done x k 7 r q (omega arith) (rw (lt-leb 4294967295 s.confirmations more, ne_eqb n (s.confirmations + 1) h))

    module _ (next : n ≡ s.confirmations + 1) where
      pub unknown : ((j : ℕ) → j < 128 → 0 < (slot_at s.slots j).id → (slot_at s.slots j).id ≡ id → ⊥) → Did x k x (K.refused 8)
      unfolding S.refusal plain
      unknown e = not_done x k 8 r q (omega arith)
          (rw (
            lt-leb 4294967295 s.confirmations more,
            eq-eqb n (s.confirmations + 1) next,
            le-ltb (S.class_of p id) 16 (omega (arith, id_absent s w q.laid x.committed x.working id e)),
          ))

      -- the request in slot i
      module _ (i : ℕ) (m : i < 128) (e : (slot_at s.slots i).id ≡ id) (pos : 0 < id) where
        abbrev v : Slot
        v = slot_at s.slots i

        abbrev c : ℕ
        c = (slot_at s.slots i).class

        pub class_here : (S.class_of p id ≡ c) × (c < 16)
        class_here = found x w r q id i m e pos

        entry_here : Q.entry_of id (queue_of s c) ≡ some (Q.booking (entry_of i v))
        entry_here = entry x w r q id i m e pos

        pub confirmed_already : 0 < v.number → Did x k x (K.refused 9)
        unfolding S.refusal plain plain_class
        confirmed_already h = not_done x k 9 r q (omega arith)
            (rw (lt-leb 4294967295 s.confirmations more, eq-eqb n (s.confirmations + 1) next, class_here.0, lt-ltb c 16 class_here.1, entry_here, lt-ltb 0 v.number h))

        module _ (waits : v.number ≡ 0) where
          pub accepted : S.refusal p k ≡ 0
          unfolding S.refusal plain plain_class
          accepted = rw (lt-leb 4294967295 s.confirmations more, eq-eqb n (s.confirmations + 1) next, class_here.0, lt-ltb c 16 class_here.1, entry_here, le-ltb 0 v.number (omega arith))

          pub outcome : S.call p k ≡ S.in_class p c (some id) (K.confirm_step id n (p.class c))
          unfolding S.act
          outcome = accepted_call p k accepted ∙ rw class_here.0

          -- THE EXECUTED HEAD COMMITS
          abbrev s₁ : Store
          s₁ = numbered_store x.site i n

          pub held : Holds v
          held = used_holds s w.slots w.queries q.laid i (rw (ne_eqb v.id 0 (omega arith)))

          inside : i < length s.slots
          inside = omega (arith, w.slots)

          -- it stands in its class's queue, which so has a head
          pub stands_once : times i (places s c) ≡ 1
          stands_once = there s w q.laid x.committed x.working i m held

          pub queue_some : 0 < len_of s c
          queue_some = by_test (ltb 0 (len_of s c)) (ltb-true 0 (len_of s c))
              (λ g. let z : len_of s c ≡ 0 = omega (arith, ltb-false 0 (len_of s c) g) in
              absurd (omega (arith, stands_once, ap (λ (n : ℕ). times i (take n (part s.queue c))) z)))

          numbered_held : Holds (with_number n v)
          numbered_held = holds_kept v (with_number n v) refl refl refl held

          kept : Laid (with_slot s i (with_number n v))
          kept = kept_laid s w q.laid i m (with_number n v) refl refl numbered_held

          numbered_laid : Laid s₁
          numbered_laid = record {
            free_or_valid = kept.free_or_valid;
            not_longer_than_136 = kept.not_longer_than_136;
            exactly_once = kept.exactly_once;
            past_the_end_zero = kept.past_the_end_zero;
            map_agrees = kept.map_agrees;
            unused_zero = unused_after s s₁ n v.id w.kept next refl refl q.laid.unused_zero;
            free_queries_zero = kept.free_queries_zero;
          }

          -- the other classes' queues
          elsewhere : (d : ℕ) → d < 16 → (d ≡ c → ⊥) → items s₁.slots s.queries (places s d) ≡ items s.slots s.queries (places s d)
          elsewhere d l ne =
              items_kept s.slots i (with_number n v) inside s.queries (places s d)
              (q.laid.exactly_once d i l ∙ slot_stands s d i m ∙ rw (ne_eqb c d (λ e. ne (sym e)), and-false (is_used v)))

          module _ (first : head_slot s c ≡ i) where
            abbrev ps : List ℕ
            ps = drop 1 (places s c)

            head_places : places s c ≡ i ∷ ps
            head_places = head_is s w q.laid c class_here.1 queue_some ∙ ap (λ (j : ℕ). j ∷ ps) first

            head_queue : queue_of s c ≡ Q.booking (entry_of i v) ∷ items s.slots s.queries ps
            head_queue = ap (items s.slots s.queries) head_places ∙ ap (λ (z : Q.Item). z ∷ items s.slots s.queries ps) (slot_item s.slots s.queries i m)

            gone : times i ps ≡ 0
            gone =
                let one = ap (times i) (sym head_places) ∙ stands_once in
                let e : suc (times i ps) ≡ 1 = rw (eq-eqb i i refl) at one in omega arith

            rest_kept : items s₁.slots s.queries ps ≡ items s.slots s.queries ps
            rest_kept = items_kept s.slots i (with_number n v) inside s.queries ps gone

            pub may_commit : Commitable s₁ x.committed x.working c
            may_commit = record { laid = numbered_laid; class = class_here.1; some = queue_some; cells = r; count = omega (arith, q.counts_agree); request = rw first m }

            abbrev done : K.Did
            done = K.commit (Q.booking (K.with_number n (entry_of i v))) (items s.slots s.queries ps) (cells_of x.working c)

            step_commits : v.done ≡ v.count → K.confirm_step id n (p.class c) ≡ done
            unfolding K.confirm_step plain plain_class
            step_commits h =
                ap (λ (l : List Q.Item). K.confirm_on id n l (cells_of x.committed c) (cells_of x.working c)) head_queue
                ∙ rw (eq-eqb v.id id e, ops_count v (w.ops i m) held, le-leb v.count v.done (omega arith))

            pub committed_now : v.done ≡ v.count → (t : Store) (base' : List ℕ) → CommitDone s₁ x.committed x.working c t base'
                → Did x k (record { site = t; committed = base'; working = x.working }) (K.committed v.id n v.mark i v.backs)
            committed_now h t base' d =
                let o : S.call p k ≡ S.in_class p c (some id) done = outcome ∙ ap (S.in_class p c (some id)) (step_commits h) in
                let z : Same (plain t base' x.working) (S.call p k).site = rw o (same_trans (d.site (K.with_number n (entry_of i v))) between) in
                record {
                  cells = (d.cells, r.1);
                  sound = sound_kept x (record { site = t; committed = base'; working = x.working }) k w
                      (d.slots ∙ length-set s.slots i (with_number n v) ∙ w.slots) (ap length d.queries ∙ w.queries) q d.laid z
                      (λ e l. ap (λ (y : List ℕ). get_or y e 0) d.sums ∙ sums_stay o e l);
                  site = z;
                  answer = rw o;
                }
              where
                sums_stay : S.call p k ≡ S.in_class p c (some id) done → (e : ℕ) → e < 16 → get_or s.sums e 0 ≡ Q.confirmed_costs ((S.call p k).site.class e).queue
                sums_stay o e l = unfold plain plain_class in (q.sums_right e l ∙ sym (commit_sum p (to_plain s w.slots w.queries q.laid x.committed x.working q) id n (rw accepted) v.id n v.mark i v.backs (rw o) e))

                between : Same (S.in_class (plain s₁ x.committed x.working) c none (K.commit (Q.booking (K.with_number n (entry_of i v))) (items s₁.slots s.queries ps) (cells_of x.working c))).site
                    (S.in_class p c (some id) done).site
                between = unfold plain plain_class in (record {
                  class = λ d l. by_test (eqb d c)
                      (λ t. rw t (λ j. record { queue = rest_kept j; committed = cells_of x.working c; working = cells_of x.working c }))
                      (λ f. rw f (λ j. record { queue = elsewhere d l (eqb-false d c f) j; committed = cells_of x.committed d; working = cells_of x.working d }));
                  confirmations = omega arith;
                  commits = refl;
                  queries = refl;
                  kept = λ j u. kept_after s s₁ n v.id w.kept next refl refl j (as_before s₁.confirmations j u) ∙ ap (λ (z : ℕ). S.kept_with (some z) (suc s.confirmations) (kept_at s) j) e;
                })
