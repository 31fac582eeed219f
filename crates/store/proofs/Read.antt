-- Work on a class whose head is an entry of a query: it is read, and the call is the plain one. Assumes nothing.
use Prim.Native.Nat.{ℕ, suc, ◌+◌, ◌*◌, ◌-◌, ◌<◌, ◌≤◌}
use native.Mathlib.Omega.{arith}
use mathlib.Core.Path.{◌≡◌, refl, sym, ap, subst, ◌∙◌}
use mathlib.Core.Bool.{cond, true}
use mathlib.Core.Option.{none}
use mathlib.Core.List.{List, ◌∷◌}
use lib.Dec.{eqb}
use lib.ListN.{length, drop, set, length-set, get_or}
use lib.Seq.{get_or-set_same, get_or-set_other}
use borrow.Author.Tests.{eqb-true, eqb-false, eq-eqb, ne_eqb, lt-leb}
use Rattle.plain.specs.Queue as Q
use Rattle.plain.specs.Steps as K
use Rattle.plain.specs.Site as S
use Rattle.plain.proofs.Tests.{by_test}
use Rattle.plain.proofs.Costs.{head_confirmed}
use Rattle.store.specs.Calls.{Did, RightCells, SoundState, State, plain_of}
use Rattle.store.specs.Meaning.{Same, cells_of, len_of, places, queue_of, plain, plain_class}
use Rattle.store.specs.Store.{Store, Shaped, query_at}
use Rattle.queries.specs.declared.Query.{Query}
use Rattle.queries.specs.Table.{Shrunk}
use Rattle.store.specs.Sound.{Laid}
use Rattle.store.specs.Steps.{head_slot, less_one}
use Rattle.places.specs.Moves.{part, first_off}
use Rattle.store.proofs.Commit.{head_is, head_off}
use Rattle.store.proofs.Places.{in_range}
use Rattle.store.proofs.Canonical.{query_item}
use Rattle.store.proofs.Meant.{to_plain}
use Rattle.store.proofs.Offered.{accepted_call}
use Rattle.store.proofs.Promise.{sound_kept}
use Rattle.store.proofs.Summed.{work_sum}
use Rattle.store.proofs.Reading.{Leaves, leave_laid, leave_queue, leave_others}

module _ (x : State) (w : Shaped x.site) (r : RightCells x) (q : SoundState x) (c p mask : ℕ) (ps : List ℕ) (t : Store) (l : c < 16) (m : p < 8)
    (e : Leaves x.site t c p mask ps) (sums : t.sums ≡ set x.site.sums c (less_one (get_or x.site.sums c 0) 1)) (long : length t.queries ≡ 8) where
  abbrev s : Store
  s = x.site

  abbrev site : S.Site
  site = plain_of x

  abbrev y : State
  y = record { site = t; committed = x.committed; working = x.working }

  abbrev base : List ℕ
  base = cells_of x.committed c

  -- the entry is the head
  head : queue_of s c ≡ Q.reading (suc p) (query_at s.queries p).begun ∷ queue_of t c
  head = leave_queue s t w q.laid c p mask ps l m e ∙ ap (λ (z : Q.Item). z ∷ queue_of t c) (query_item s.slots s.queries p)

  accepted : S.refusal site (S.work c) ≡ 0
  unfolding S.refusal plain plain_class
  accepted = rw (lt-leb 16 c l, ap K.idle head)

  did : K.Did
  did = record { class = K.class_with (queue_of t c) base (cells_of x.working c); answer = K.entry (suc p) base }

  outcome : S.call site (S.work c) ≡ S.in_class site c none did
  unfolding S.act K.work_step plain plain_class did
  outcome =
      accepted_call site (S.work c) accepted
      ∙ ap (λ (z : List Q.Item). S.in_class site c none (K.work_on z base (cells_of x.working c))) head

  same : Same (plain_of y) (S.in_class site c none did).site
  unfolding plain plain_class did
  same = record {
    class = λ d k. by_test (eqb d c)
        (λ z. let is : d ≡ c = eqb-true d c z in rw (is, eq-eqb c c refl))
        (λ f. rw f (ap (λ (z : List Q.Item). K.class_with z (cells_of x.committed d) (cells_of x.working d))
        (leave_others s t w q.laid c p mask ps l m e d k (eqb-false d c f))));
    confirmations = e.counts.0 ∙ omega arith;
    commits = e.counts.1 ∙ omega arith;
    queries = e.counts.2;
    kept = λ n r. rw e.kept;
  }

  right_sums : (d : ℕ) → d < 16 → get_or t.sums d 0 ≡ Q.confirmed_costs ((S.call site (S.work c)).site.class d).queue
  unfolding plain plain_class
  right_sums d k =
      rw sums (by_test (eqb d c)
      (λ z. let is : d ≡ c = eqb-true d c z in
      rw is (get_or-set_same s.sums c _ 0 (omega (arith, w.sums)) ∙ rw (q.sums_right c l) (sym (after c ∙ rw (eq-eqb c c refl, first)))))
      (λ f. let ne = eqb-false d c f in get_or-set_other s.sums c d _ 0 ne ∙ q.sums_right d k ∙ sym (after d ∙ rw (ne_eqb d c ne))))
    where
      after : (d : ℕ) → Q.confirmed_costs ((S.call site (S.work c)).site.class d).queue ≡ cond (eqb d c) (Q.confirmed_costs (queue_of s c) - cond (head_confirmed (queue_of s c)) 1 0) (Q.confirmed_costs (queue_of s d))
      after d = work_sum site (to_plain s w.slots w.queries q.laid x.committed x.working q) c (rw accepted) d

      first : head_confirmed (queue_of s c) ≡ true
      first = rw head

  pub read_did : Did x (S.work c) y (K.entry (suc p) (cells_of x.committed c))
  unfolding did
  read_did = record {
    cells = r;
    sound = sound_kept x y (S.work c) w (ap length e.slots ∙ w.slots) long q (leave_laid s t w q.laid c p mask ps l m e) (rw outcome same) right_sums;
    site = rw outcome same;
    answer = rw outcome;
  }

-- an entry that is head leaves, as the code does it: with what its query still has to read
entry_left : (s t : Store) → Shaped s → Laid s → (c : ℕ) → c < 16 → 0 < len_of s c → 128 ≤ head_slot s c → (v : Query)
    → Shrunk (query_at s.queries (head_slot s c - 128)).classes c v.classes → v.begun ≡ cond (eqb v.classes 0) 0 (query_at s.queries (head_slot s c - 128)).begun
    → t.queries ≡ set s.queries (head_slot s c - 128) v → t.lens ≡ set s.lens c (len_of s c - 1)
    → part t.queue c ≡ first_off (part s.queue c) (len_of s c) → ((d : ℕ) → (d ≡ c → ⊥) → part t.queue d ≡ part s.queue d)
    → t.slots ≡ s.slots → (t.low ≡ s.low) × (t.high ≡ s.high) → (t.confirmations ≡ s.confirmations) × (t.commits ≡ s.commits) × (t.begun ≡ s.begun) → t.kept ≡ s.kept
    → Leaves s t c (head_slot s c - 128) v.classes (drop 1 (places s c))
entry_left s t w h c l some big v shrunk b qs lens own others slots map counts kept =
    let e : 128 + (head_slot s c - 128) ≡ head_slot s c = omega arith in
    let is = head_is s w h c l some in
    record {
      head = is ∙ ap (λ (i : ℕ). i ∷ drop 1 (places s c)) (sym e);
      queued = head_off s t w h c (head_slot s c) (drop 1 (places s c)) l is lens own others;
      slots = slots;
      map_same = map;
      counts = counts;
      kept = kept;
      queries = qs ∙ ap (λ (n : ℕ). set s.queries (head_slot s c - 128) (record { classes = v.classes; begun = n })) b;
      own = shrunk.own;
      others = shrunk.others;
    }

-- a head that is an entry is of one of the 8 queries
pub entry_small : (s : Store) → Shaped s → Laid s → (c : ℕ) → c < 16 → 0 < len_of s c → head_slot s c < 136
entry_small s w h c l some =
    let z : 136 * c + 0 ≡ 136 * c = omega arith in
    rw z at (in_range s w h.not_longer_than_136 h.exactly_once c l 0 some)

-- READ, as the code does it
module _ (x : State) (w : Shaped x.site) (r : RightCells x) (q : SoundState x) (c : ℕ) (l : c < 16) (some : 0 < len_of x.site c) (big : 128 ≤ head_slot x.site c) where
  pub read_as : (t : Store) (v : Query) → Shrunk (query_at x.site.queries (head_slot x.site c - 128)).classes c v.classes
      → v.begun ≡ cond (eqb v.classes 0) 0 (query_at x.site.queries (head_slot x.site c - 128)).begun
      → t.queries ≡ set x.site.queries (head_slot x.site c - 128) v → t.lens ≡ set x.site.lens c (len_of x.site c - 1)
      → part t.queue c ≡ first_off (part x.site.queue c) (len_of x.site c) → ((d : ℕ) → (d ≡ c → ⊥) → part t.queue d ≡ part x.site.queue d)
      → t.slots ≡ x.site.slots → (t.low ≡ x.site.low) × (t.high ≡ x.site.high)
      → (t.confirmations ≡ x.site.confirmations) × (t.commits ≡ x.site.commits) × (t.begun ≡ x.site.begun) → t.kept ≡ x.site.kept
      → (sum : ℕ) → sum ≡ less_one (get_or x.site.sums c 0) 1 → t.sums ≡ set x.site.sums c sum
      → (place : ℕ) → place ≡ head_slot x.site c - 127
      → Did x (S.work c) (record { site = t; committed = x.committed; working = x.working }) (K.entry place (cells_of x.committed c))
  read_as t v shrunk b qs lens own others slots map counts kept sum less sums place is =
      let small = entry_small x.site w q.laid c l some in
      let e : suc (head_slot x.site c - 128) ≡ place = omega arith in
      subst (λ (n : ℕ). Did x (S.work c) (record { site = t; committed = x.committed; working = x.working }) (K.entry n (cells_of x.committed c))) e
      (read_did x w r q c (head_slot x.site c - 128) v.classes (drop 1 (places x.site c)) t l (omega arith)
      (entry_left x.site t w q.laid c l some big v shrunk b qs lens own others slots map counts kept)
      (sums ∙ ap (set x.site.sums c) less) (ap length qs ∙ length-set x.site.queries _ v ∙ w.queries))
