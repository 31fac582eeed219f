-- The rules together, from what the pieces of the check say. Assumes nothing.
use Prim.Native.Nat.{ℕ, ◌+◌, ◌-◌, ◌≤◌}
use native.Mathlib.Omega.{arith}
use mathlib.Core.Path.{◌≡◌, ap}
use lib.Dec.{ltb}
use lib.ListN.{get_or-eq_default}
use borrow.Author.Tests.{ltb-true, ltb-false}
use Rattle.plain.proofs.Tests.{by_test}
use Rattle.queries.specs.declared.Query.{Query}
use Rattle.queries.specs.Table.{free_query}
use Rattle.store.proofs.Summing.{sums_of, sums_in}
use mathlib.Core.List.{List, map}
use Rattle.slots.specs.Meaning.{is_used}
use Rattle.store.proofs.Agree.{agree_all, agree_at}
use Rattle.store.proofs.Places.{ordered, past_of, places_of, tails_of}
use Rattle.store.proofs.KeptIds.{differ_of, apart_of}
use Rattle.store.proofs.Tally.{queued_confirmed}
use Rattle.store.specs.Checks.{CellsOk, Differ, FreeIn, KeptOk, LaidIn, PlacesIn, Tails, ids_of, numbered, numbers_of}
use Rattle.store.specs.Sound.{BacksOk, FreeZero, Laid, Once, Short, SlotsOk, Sound, SumsOk, Unused}
use Rattle.store.specs.Store.{Shaped, Store}
use Rattle.usedmap.specs.Flags.{used_of}

-- a place of queries past the end is free and all zero
free_of : (s : Store) → Shaped s → FreeIn s.queries → FreeZero s
free_of s w h p z = by_test (ltb p 8) (λ t. h p (ltb-true p 8 t) z)
    (λ f. ap (λ (q : Query). q.begun) (get_or-eq_default s.queries free_query (omega (arith, w.queries, ltb-false p 8 f))))

module _ (s : Store) (w : Shaped s) where
  pub laid_of : SlotsOk s → Short s.lens → Tails s.queue s.lens → used_of s.low s.high ≡ map is_used s.slots → Once s → Unused s → FreeZero s → Laid s
  laid_of a b t u o z f = record { free_or_valid = a; not_longer_than_136 = b; exactly_once = o; past_the_end_zero = λ c l. past_of s w b c l t; map_agrees = u; unused_zero = z; free_queries_zero = f }

  module _ (base wrk : List ℕ) where
    pub sound_of : Laid s → Differ (ids_of s.slots) (numbers_of s.slots) → PlacesIn s → s.commits ≤ s.confirmations → s.confirmations - s.commits ≡ numbered (numbers_of s.slots) 128 → CellsOk s base wrk
        → KeptOk (ids_of s.slots) (numbers_of s.slots) s.confirmations s.kept → BacksOk s.slots (s.confirmations + s.begun) → SumsOk s → Sound s base wrk
    sound_of h d p l n k ids b sums = record {
      laid = h;
      ids_differ = d.ids;
      confirmed_before_waiting = λ c m. (ordered s w h.not_longer_than_136 c m p).0;
      numbers_differ = d.numbers;
      counts_agree = omega (arith, queued_confirmed s w h.free_or_valid h.exactly_once);
      backs_bounded = b;
      only_a_head_done = λ c m. (ordered s w h.not_longer_than_136 c m p).1;
      working_cells_follow = k;
      sums_right = sums;
      kept_not_zero = ids.filled.not_zero;
      kept_differ = differ_of s.confirmations s.kept ids.filled.not_zero ids.apart;
      kept_queued = ids.matching;
    }

    -- the same, of the rules that the check has together
    pub sound_from : SlotsOk s → LaidIn s → CellsOk s base wrk → KeptOk (ids_of s.slots) (numbers_of s.slots) s.confirmations s.kept
        → BacksOk s.slots (s.confirmations + s.begun) → Sound s base wrk
    sound_from ok laid cells ids few =
        sound_of
        (laid_of ok laid.short laid.tails (agree_all s.low s.high s.slots w.slots laid.map) laid.once ids.filled.unused (free_of s w laid.free_zero))
        laid.differ laid.places (omega (arith, laid.tally)) (omega (arith, laid.tally)) cells ids few (sums_of s w ok laid.short laid.once laid.sums_right)

    module _ (h : Sound s base wrk) where
      pub tails_in : Tails s.queue s.lens
      tails_in = tails_of s w h.laid.not_longer_than_136 h.laid.past_the_end_zero

      pub differ_in : Differ (ids_of s.slots) (numbers_of s.slots)
      differ_in = record { ids = h.ids_differ; numbers = h.numbers_differ }

      pub kept_in : KeptOk (ids_of s.slots) (numbers_of s.slots) s.confirmations s.kept
      kept_in = record {
        filled = record { not_zero = h.kept_not_zero; unused = h.laid.unused_zero };
        apart = apart_of s.confirmations s.kept h.laid.unused_zero h.kept_differ;
        matching = h.kept_queued;
      }

      pub places_in : PlacesIn s
      places_in = places_of s w h.laid.not_longer_than_136 h.confirmed_before_waiting h.only_a_head_done

      pub tally_in : s.confirmations ≡ s.commits + numbered (numbers_of s.slots) 128
      tally_in = omega (arith, h.counts_agree, queued_confirmed s w h.laid.free_or_valid h.laid.exactly_once)

      pub laid_in : LaidIn s
      laid_in = record {
        short = h.laid.not_longer_than_136;
        tails = tails_in;
        map = λ k _. agree_at s.low s.high s.slots h.laid.map_agrees k;
        once = h.laid.exactly_once;
        differ = differ_in;
        places = places_in;
        sums_right = sums_in s w h.laid.free_or_valid h.laid.not_longer_than_136 h.laid.exactly_once h.sums_right;
        free_zero = λ p _. h.laid.free_queries_zero p;
        tally = tally_in;
      }
