-- Offer on a sound site, by cases: the record is broken, its id is queued or kept, the slots are full, or it is queued in the lowest free slot.
-- Assumes nothing.
use Prim.Native.Nat.{ℕ, ◌+◌, ◌%◌, ◌<◌, ◌≤◌}
use native.Mathlib.Omega.{arith}
use mathlib.Core.Path.{◌≡◌, refl, sym, ap, ◌∙◌, subst}
use mathlib.Core.Logic.{◌⊎◌, inl, inr}
use mathlib.Core.Bool.{true, false, cond}
use mathlib.Core.Option.{none}
use mathlib.Core.List.{List}
use lib.Dec.{ltb, leb}
use lib.ListN.{get_or, set, length-map, length-set}
use lib.Seq.{get_or-set_same}
use borrow.Author.Tests.{ne_eqb, lt-ltb, le-ltb, le-leb, lt-leb}
use Rattle.plain.specs.Queue.{confirmed_costs}
use Rattle.plain.specs.Steps as K
use Rattle.plain.specs.Site as S
use Rattle.plain.proofs.Tests.{by_test}
use Rattle.plain.proofs.Recent.{kept_under, under_kept}
use Rattle.slots.specs.Meaning.{entry_of, slot_free, request_of, slot_at}
use Rattle.slots.specs.Rules.{Holds, New}
use Rattle.plain.specs.Record.{is_record, request, request_in}
use Rattle.slots.specs.declared.Slot.{Slot}
use Rattle.store.proofs.Asked.{free_is, id_absent, id_found, lowest_is_free, queued_is, room}
use Rattle.store.proofs.Canonical.{has_class, has_id, places_length}
use Rattle.store.proofs.KeptIds.{place_of}
use Rattle.store.proofs.Meant.{to_plain}
use Rattle.store.proofs.Offer.{offer_laid, offer_means}
use Rattle.store.proofs.Promise.{sound_kept}
use Rattle.store.proofs.Summed.{offer_sum}
use Rattle.store.specs.Calls.{State, RightCells, SoundState, Did, plain_of}
use Rattle.store.specs.Checks.{InUse, Spare}
use Rattle.store.specs.Meaning.{Same, len_of, plain, plain_class}
use Rattle.store.specs.Steps.{placed}
use Rattle.store.specs.Store.{Shaped, Store}
use Rattle.usedmap.specs.Flags.{count_used, first_free, used_of}

-- a plain call that is refused, one that is accepted
module _ (p : S.Site) (k : S.Call) where
  pub refused_call : (n : ℕ) → 0 < n → S.refusal p k ≡ n → S.call p k ≡ record { site = p; answer = K.refused n }
  unfolding S.call
  refused_call n l e = rw (e, ne_eqb n 0 (omega arith))

  pub accepted_call : S.refusal p k ≡ 0 → S.call p k ≡ S.act p k
  unfolding S.call
  accepted_call e = rw (e)

pub same_refl : (a : S.Site) → Same a a
same_refl a = record { class = λ c l. refl; confirmations = refl; commits = refl; queries = refl; kept = λ n r. refl }

-- a call that is refused on a sound site
pub not_done : (x : State) (k : S.Call) (n : ℕ) → RightCells x → SoundState x → 0 < n → S.refusal (plain_of x) k ≡ n → Did x k x (K.refused n)
not_done x k n r s l e =
    let q = refused_call (plain_of x) k n l e in
    record { cells = r; sound = s; site = rw q (same_refl (plain_of x)); answer = rw q }

-- a new slot is the entry of an offer
new_entry_lem : (v : Slot) → New v → (i : ℕ) → entry_of i v ≡ K.new_entry (request_of v) i
new_entry_lem v n i = λ k. record { request = request_of v; slot = i; number = n.number k; done = n.done k; mark = n.mark k; backs = n.backs k }

module _ (x : State) (w : Shaped x.site) (r : RightCells x) (q : SoundState x) (b : List ℕ) where
  abbrev s : Store
  s = x.site

  abbrev p : S.Site
  p = plain_of x

  abbrev k : S.Call
  k = S.offer b

  pub bad_record : is_record b ≡ false → Did x k x (K.refused 3)
  unfolding S.refusal request
  bad_record f = not_done x k 3 r q (omega arith) (rw f)

  module _ (ok : is_record b ≡ true) (v : Slot) (new : New v) (req : request_of v ≡ request_in b) where
    held : Holds v
    held = new.held

    -- what is left of the table
    left_tests : S.refusal p k ≡ cond (ltb (S.class_of p v.id) 16) 4 (cond (S.is_kept p v.id) 14 (cond (leb 128 (S.number_queued p)) 5 0))
    unfolding S.refusal request
    left_tests = rw (ok, ← req)

    pub id_queued : (j : ℕ) → (slot_at s.slots j).id ≡ v.id → Did x k x (K.refused 4)
    id_queued j e =
        let u = has_id v held in
        let found = id_found s w q.laid x.committed x.working (to_plain s w.slots w.queries q.laid x.committed x.working q) j (omega arith) in
        not_done x k 4 r q (omega arith) (left_tests ∙ rw (← e, lt-ltb (S.class_of p (slot_at s.slots j).id) 16 (omega (arith, found.0, found.1))))

    module _ (absent : (j : ℕ) → j < 128 → (slot_at s.slots j).id ≡ v.id → ⊥) where
      unknown : ltb (S.class_of p v.id) 16 ≡ false
      unknown = le-ltb (S.class_of p v.id) 16 (omega (arith, id_absent s w q.laid x.committed x.working v.id (λ j l _. absent j l)))

      pub id_kept : (j : ℕ) → j < 256 → get_or s.kept j 0 ≡ v.id → Did x k x (K.refused 14)
      unfolding plain
      id_kept j l e = not_done x k 14 r q (omega arith) (left_tests ∙ rw (unknown, kept_id (place_of s.confirmations j l)))
        where
          kept_id : InUse s.confirmations j ⊎ Spare s.confirmations j → S.is_kept p v.id ≡ true
          kept_id (inl u) = under_kept p v.id u.0 u.1 (rw u.2 e)
          kept_id (inr u) =
              let z : get_or s.kept j 0 ≡ 0 = rw (← u.3) (q.laid.unused_zero u.0 u.1 u.2) in absurd (omega (arith, has_id v held))

      module _ (fresh-id : (j : ℕ) → j < 256 → get_or s.kept j 0 ≡ v.id → ⊥) where
        not_kept : S.is_kept p v.id ≡ false
        unfolding plain
        not_kept = by_test (S.is_kept p v.id)
            (λ t. let u = kept_under p v.id t in absurd (fresh-id (u.0 % 256) (omega arith) u.2)) (λ f. f)

        pub slots_full : 128 ≤ count_used (used_of s.low s.high) → Did x k x (K.refused 5)
        slots_full f =
            not_done x k 5 r q (omega arith)
            (left_tests ∙ rw (unknown, not_kept, le-leb 128 (S.number_queued p) (omega (arith, queued_is s w q.laid x.committed x.working))))

        module _ (left : count_used (used_of s.low s.high) < 128) where
          accepted : S.refusal p k ≡ 0
          accepted = left_tests ∙ rw (unknown, not_kept, lt-leb 128 (S.number_queued p) (omega (arith, queued_is s w q.laid x.committed x.working)))

          -- there is a free slot, and room in the queue
          pub here : (first_free (used_of s.low s.high) < 128) × (slot_at s.slots (first_free (used_of s.low s.high)) ≡ slot_free)
          here = lowest_is_free s w q.laid x.committed x.working left

          pub fits : len_of s v.class < 136
          fits = omega (arith, room s w q.laid x.committed x.working (to_plain s w.slots w.queries q.laid x.committed x.working q) v.class (has_class v held), queued_is s w q.laid x.committed x.working)

        module _ (left : count_used (used_of s.low s.high) < 128) (lo hi : ℕ)
            (marked : used_of lo hi ≡ set (used_of s.low s.high) (first_free (used_of s.low s.high)) true) where
          abbrev i : ℕ
          i = first_free (used_of s.low s.high)

          abbrev y : State
          y = record { site = placed s v.class i v lo hi; committed = x.committed; working = x.working }

          outcome : S.call p k ≡ S.in_class p v.class none (K.offer_step (request_of v) i (p.class v.class))
          unfolding S.act
          outcome = accepted_call p k (accepted left) ∙ rw (← req, free_is s w q.laid x.committed x.working)

          means : Same (plain_of y) (S.call p k).site
          means = rw outcome (offer_means s w q.laid v.class i v lo hi (has_class v held) (here left).0 (here left).1 held refl (fits left) marked
              x.committed x.working (request_of v) (new_entry_lem v new i))

          -- the sums stay: the request waits
          sums : (c : ℕ) → c < 16 → get_or s.sums c 0 ≡ confirmed_costs ((S.call p k).site.class c).queue
          unfolding plain plain_class
          sums c l = q.sums_right c l ∙ sym (offer_sum p (to_plain s w.slots w.queries q.laid x.committed x.working q) b (rw (accepted left)) c)

          pub offered : Did x k y (K.queued v.id v.class (len_of s v.class + 1) i)
          unfolding K.offer_step plain plain_class
          offered = record {
            cells = r;
            sound = sound_kept x y k w (length-set s.slots i v ∙ w.slots) w.queries q
                (offer_laid s w q.laid v.class i v lo hi (has_class v held) (here left).0 (here left).1 held refl (fits left) marked) means sums;
            site = means;
            answer = rw (outcome, length-map, places_length s w q.laid v.class (has_class v held));
          }

        -- the same, of a site and an answer that are equal to those
        pub offered_as : (left : count_used (used_of s.low s.high) < 128) (i slot : ℕ) (y' : Store)
            → i ≡ first_free (used_of s.low s.high) → y' ≡ placed s v.class i v y'.low y'.high
            → used_of y'.low y'.high ≡ set (used_of s.low s.high) i true → slot ≡ i
            → Did x k (record { site = y'; committed = x.committed; working = x.working }) (K.queued v.id v.class (len_of y' v.class) slot)
        offered_as left i slot y' e is u sl =
            let u' : used_of y'.low y'.high ≡ set (used_of s.low s.high) (first_free (used_of s.low s.high)) true = rw (← e) u in
            let is' : y' ≡ placed s v.class (first_free (used_of s.low s.high)) v y'.low y'.high = rw (← e) is in
            let at_end : len_of y' v.class ≡ len_of s v.class + 1 =
            ap (λ (z : Store). len_of z v.class) is'
            ∙ get_or-set_same s.lens v.class (len_of s v.class + 1) 0 (omega (arith, w.lens, has_class v held)) in
            rw (at_end, sl, e) (subst (λ (z : Store). Did x k (record { site = z; committed = x.committed; working = x.working })
            (K.queued v.id v.class (len_of s v.class + 1) (first_free (used_of s.low s.high)))) (sym is')
            (offered left y'.low y'.high u'))
