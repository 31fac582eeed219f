-- A query begins: what is known before its first turn, and that after its last it is the plain call. Assumes nothing.
use Prim.Native.Nat.{ℕ, suc, ◌+◌, ◌*◌, ◌<◌, ◌≤◌, ◌^◌}
use native.Mathlib.Omega.{arith}
use native.Mathlib.Numerals.{add-one}
use mathlib.Core.Path.{◌≡◌, refl, sym, ap, subst, ◌∙◌}
use mathlib.Core.Bool.{true}
use mathlib.Core.List.{List, [], ◌∷◌}
use lib.ListN.{length, get_or, take, drop, length-map}
use borrow.Author.Tests.{eqb-true}
use Rattle.plain.specs.Queue.{Item, reading, is_confirmed, before_waiting}
use Rattle.plain.specs.Steps.{Class, backed, begun, query_on, query_step}
use Rattle.plain.specs.Site as S
use Rattle.plain.specs.Site.{named}
use Rattle.plain.specs.Sound.{All, Waiting, SoundSite}
use Rattle.plain.proofs.Tests.{by_test}
use Rattle.plain.proofs.Bounds.{queue_short}
use Rattle.plain.proofs.Kept.{call_sound}
use Rattle.queries.specs.declared.Query.{Query}
use Rattle.queries.specs.Table.{is_free_at, lowest_free_place}
use Rattle.plain.proofs.Sums.{lowest_passes}
use Rattle.store.proofs.Judged.{query_taken}
use Rattle.store.proofs.Turns.{Ready, Going}
use Rattle.store.specs.Store.{Store, Shaped, query_at}
use Rattle.store.specs.Meaning.{len_of, places, item_at, queue_of, plain, plain_class}
use Rattle.store.specs.Sound.{Laid}
use Rattle.store.specs.Steps.{FirstsWaiting}
use Rattle.store.specs.Calls.{State, RightCells, SoundState, plain_of, Did}
use Rattle.store.proofs.Canonical.{places_length}
use Rattle.store.proofs.Confirmed.{split_order}
use Rattle.store.proofs.Ending.{sum_bounded}
use Rattle.store.proofs.Meant.{to_plain}
use Rattle.store.proofs.Moving.{Confirmed}
use Rattle.store.proofs.Offered.{accepted_call}
use Rattle.store.proofs.Queried.{upto_none, query_did}
use Rattle.store.proofs.Walk.{place_at}

-- the site with one query more counted
abbrev pub counted : Store → Store
counted s = record {
  slots = s.slots;
  queue = s.queue;
  lens = s.lens;
  low = s.low;
  high = s.high;
  confirmations = s.confirmations;
  commits = s.commits;
  kept = s.kept;
  queries = s.queries;
  begun = s.begun + 1;
  sums = s.sums;
}

-- an entry makes a queue one longer
before_length : (y : Item) (q : List Item) → length (before_waiting y q) ≡ suc (length q)
before_length y [] = refl
before_length y (x ∷ q) = by_test (is_confirmed x) (λ t. rw (t, before_length y q)) (λ f. rw f)

query_length : (y : Item) (q : List Item) (base w : List ℕ) → length (query_on y q base w).queue ≡ suc (length q)
query_length y [] base w = refl
query_length y (x ∷ q) base w = before_length y (backed x ∷ q)

-- THE START
module _ (x : State) (w : Shaped x.site) (r : RightCells x) (q : SoundState x) (m : ℕ) (firsts : List ℕ) (f : FirstsWaiting x.site firsts)
    (accepted : S.refusal (plain_of x) (S.query m) ≡ 0) where
  long : (d : ℕ) → d < 16 → length (places x.site d) ≡ len_of x.site d
  long d l = places_length x.site w q.laid d l

  in_place : (d : ℕ) → d < 16 → (a : ℕ) → a < len_of x.site d → get_or (places x.site d) a 0 ≡ get_or x.site.queue (136 * d + a) 0
  in_place d l a u = place_at x.site w d l (q.laid.not_longer_than_136 d l) a u

  parts : (d : ℕ) → d < 16 → All Confirmed (take (get_or firsts d 0) (queue_of x.site d)) × All Waiting (drop (get_or firsts d 0) (queue_of x.site d))
  parts d l = split_order x.site.slots x.site.queries 0 x.site.confirmations (places x.site d) (get_or firsts d 0)
      (q.confirmed_before_waiting d l) (omega (arith, long d l, (f d l).within))
      (λ a u. rw (in_place d l a (omega (arith, (f d l).within))) ((f d l).before a u))
      (λ u. rw (in_place d l (get_or firsts d 0) (omega (arith, long d l))) ((f d l).waits (omega (arith, long d l))))

  after : (d : ℕ) → named m d ≡ true → (S.call (plain_of x) (S.query m)).site.class d ≡ query_step (S.free_place (plain_of x)) (plain_of x).confirmations ((plain_of x).class d)
  unfolding S.act
  after d t = rw (accepted_call (plain_of x) (S.query m) accepted, t)

  stepped : (d : ℕ) → length (query_step (S.free_place (plain_of x)) (plain_of x).confirmations ((plain_of x).class d)).queue ≡ suc (length (queue_of x.site d))
  unfolding plain plain_class query_step
  stepped d = query_length (reading (S.free_place (plain_of x)) x.site.confirmations) (queue_of x.site d) _ _

  pub query_ready : Ready (counted x.site) m firsts
  query_ready = record {
    fits = λ d l. omega (arith, length-map (places x.site d) (item_at x.site.slots x.site.queries), long d l, (f d l).within);
    ahead = λ d l. (parts d l).0;
    behind = λ d l. (parts d l).1;
    room = λ d l t. omega (
      arith,
      queue_short (S.call (plain_of x) (S.query m)).site (call_sound (plain_of x) (S.query m) sound_x) d l,
      ap (λ (k : Class). length k.queue) (after d t) ∙ stepped d,
    );
    few = λ d l. omega (arith, sum_bounded x w r q d l);
  }
    where
      sound_x : SoundSite (plain_of x)
      sound_x = to_plain x.site w.slots w.queries q.laid x.committed x.working q

-- the lowest free index of the table is free
free_at : (l : List Query) → lowest_free_place l < 8 → (query_at l (lowest_free_place l)).classes ≡ 0
unfolding lowest_free_place
free_at l m = eqb-true _ 0 (lowest_passes (is_free_at l) 0 8 m)

-- A query that may begin
module _ (x : State) (w : Shaped x.site) (r : RightCells x) (q : SoundState x) (m : ℕ) (small : m < 2 ^ 16) (some : m ≡ 0 → ⊥)
    (free : lowest_free_place x.site.queries < 8) (more : x.site.begun < 4294967295) where
  taken : (S.refusal (plain_of x) (S.query m) ≡ 0) × (S.free_place (plain_of x) ≡ suc (lowest_free_place x.site.queries))
  taken = query_taken x w r q m small some free more

  counted_laid : Laid (counted x.site)
  counted_laid = record {
    free_or_valid = q.laid.free_or_valid;
    not_longer_than_136 = q.laid.not_longer_than_136;
    exactly_once = q.laid.exactly_once;
    past_the_end_zero = q.laid.past_the_end_zero;
    map_agrees = q.laid.map_agrees;
    unused_zero = q.laid.unused_zero;
    free_queries_zero = q.laid.free_queries_zero;
  }

  module _ (firsts : List ℕ) (p : ℕ) (is : p ≡ lowest_free_place x.site.queries) where
    abbrev After : Store → List ℕ → ℕ → Type 0
    After t wrk' c = Going (counted x.site) t x.committed x.working wrk' m p x.site.confirmations c firsts

    -- before the first class
    pub start : x.site.confirmations ≤ 4294967295 → FirstsWaiting x.site firsts → After (counted x.site) x.working 0
    start few f = record {
      ready = query_ready x w r q m firsts f taken.0;
      index = rw is free;
      right = r.0;
      upto = upto_none (counted x.site) x.committed x.working m p x.site.confirmations counted_laid (rw is (free_at x.site.queries free));
      shape = record {
        slots = w.slots;
        ops = w.ops;
        ids = w.ids;
        queue = w.queue;
        lens = w.lens;
        low = w.low;
        high = w.high;
        kept = w.kept;
        queries = w.queries;
        masks = w.masks;
        sums = w.sums;
      };
      cells = r.1;
      backs = λ i l. omega (arith, q.backs_bounded i l);
    }

    -- AFTER THE LAST it is the plain call
    pub begun_is : (t : Store) (wrk' : List ℕ) (c : ℕ) → 16 ≤ c → c ≤ 16 → After t wrk' c
        → Did x (S.query m) (record { site = t; committed = x.committed; working = wrk' }) (begun (p + 1))
    unfolding plain plain_class
    begun_is t wrk' c a b after =
        let last : c ≡ 16 = omega arith in
        let u : After t wrk' 16 = subst (After t wrk') last after in
        let place : S.free_place (plain_of x) ≡ suc p = taken.1 ∙ ap suc (sym is) in
        rw (add-one p) (query_did x (record { site = t; committed = x.committed; working = wrk' }) w m p r (r.0, u.cells) q (counted x.site) (refl, refl, refl, refl, refl)
        (λ d l. refl) place taken.0 (u.shape.slots, u.shape.queries) refl u.upto)
