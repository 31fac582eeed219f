-- An entry that is written behind a class's queue and moved forward to before the waiting: as the code does it, it enters there. Assumes nothing.
use Prim.Native.Nat.{ℕ, suc, ◌+◌, ◌*◌, ◌-◌, ◌<◌, ◌≤◌, ◌^◌}
use native.Mathlib.Omega.{arith}
use mathlib.Core.Path.{◌≡◌, refl, sym, ap, ◌∙◌}
use mathlib.Core.List.{List, [], ◌∷◌, ◌++◌}
use lib.Dec.{eqb}
use lib.ListN.{length, get_or, take, drop, set, replicate, length-set, length-append, take-append-drop, get_or-append}
use lib.Seq.{take-append-le, take_at, drop-length, get_or-set_same, get_or-set_other}
use borrow.Author.Tests.{eqb-true, eqb-false}
use Rattle.plain.proofs.Tests.{by_test}
use Rattle.places.specs.Moves.{Moved, moved_up, part}
use Rattle.places.proofs.Shift.{moved_append}
use Rattle.queries.specs.declared.Query.{Query}
use Rattle.queries.specs.Table.{Grown, free_query}
use Rattle.store.specs.Store.{Store, Shaped, query_at}
use Rattle.store.specs.Steps.{with_entry}
use Rattle.store.specs.Meaning.{len_of, places}
use Rattle.store.specs.Sound.{Laid}
use Rattle.store.proofs.Canonical.{part_is, places_length}
use Rattle.store.proofs.Entering.{Enters}
use Rattle.store.proofs.Lists.{push}
use Rattle.store.proofs.Relaid.{Queued, part_own, part_other}

-- the last of a list moved up
last_moved : (ps : List ℕ) (b to : ℕ) → to ≤ length ps → moved_up b (ps ++ (b ∷ [])) (length ps) to ≡ take to ps ++ b ∷ drop to ps
last_moved ps b to k = rw (take-append-le to ps (b ∷ []) k, take_at ps (b ∷ []) (length ps) refl, past) (ap (λ (r : List ℕ). take to ps ++ b ∷ r) (none (drop to ps)))
  where
    past : drop (suc (length ps)) (ps ++ (b ∷ [])) ≡ []
    past = let n : suc (length ps) ≡ length (ps ++ (b ∷ [])) = omega (arith, length-append ps (b ∷ [])) in rw n (drop-length (ps ++ (b ∷ [])))

    none : (l : List ℕ) → l ++ [] ≡ l
    none [] = refl
    none (x ∷ l) = rw (none l)

-- what the code leaves of the site s: behind class c's queue, of `len` places, the entry was written, and moved to place `to`; its query is v; the class's
-- sum is one more
pub record Written (s t : Store) (c p to len : ℕ) (v : Query) : Type 0 where
  pub queue : Moved (set s.queue (136 * c + len) (128 + p)) t.queue c len to
  pub lens : t.lens ≡ set s.lens c (len + 1)
  pub queries : t.queries ≡ set s.queries p v
  pub slots : t.slots ≡ s.slots
  pub map_same : (t.low ≡ s.low) × (t.high ≡ s.high)
  pub counts : (t.confirmations ≡ s.confirmations) × (t.commits ≡ s.commits) × (t.begun ≡ s.begun)
  pub kept : t.kept ≡ s.kept
  pub sums : t.sums ≡ set s.sums c (with_entry (get_or s.sums c 0))

module _ (s t : Store) (w : Shaped s) (h : Laid s) (c p to : ℕ) (v : Query) (l : c < 16) (k : p < 8) (room : len_of s c < 136) (fits : to ≤ len_of s c) (e : Written s t c p to (len_of s c) v) where
  abbrev ps : List ℕ
  ps = places s c

  abbrev b : ℕ
  b = 128 + p

  long : length ps ≡ len_of s c
  long = places_length s w h c l

  zs : List ℕ
  zs = replicate (136 - (len_of s c + 1)) 0

  pushed : part (set s.queue (136 * c + len_of s c) b) c ≡ (ps ++ (b ∷ [])) ++ zs
  unfolding zs
  pushed =
      part_own s.queue c (len_of s c) b room
      ∙ push (part s.queue c) ps (136 - len_of s c) (136 - (len_of s c + 1)) 0 b (len_of s c) (part_is s w h c l) long (omega arith)

  more : length (ps ++ (b ∷ [])) ≡ len_of s c + 1
  more = omega (arith, length-append ps (b ∷ []), long)

  last : get_or ((ps ++ (b ∷ [])) ++ zs) (len_of s c) 0 ≡ b
  last = get_or-append (ps ++ (b ∷ [])) zs 0 (len_of s c) (omega (arith, more)) ∙ ap (λ (n : ℕ). get_or (ps ++ (b ∷ [])) n 0) (sym long) ∙ at_end ps
    where
      at_end : (l : List ℕ) → get_or (l ++ (b ∷ [])) (length l) 0 ≡ b
      at_end [] = refl
      at_end (x ∷ l) = at_end l

  own_part : part t.queue c ≡ (take to ps ++ b ∷ drop to ps) ++ zs
  own_part =
      e.queue.own
      ∙ ap (λ (r : List ℕ). moved_up (get_or r (len_of s c) 0) r (len_of s c) to) pushed
      ∙ ap (λ (x : ℕ). moved_up x ((ps ++ (b ∷ [])) ++ zs) (len_of s c) to) last
      ∙ moved_append (ps ++ (b ∷ [])) (len_of s c) (omega (arith, more)) to b zs fits
      ∙ ap (λ (n : ℕ). moved_up b (ps ++ (b ∷ [])) n to ++ zs) (sym long)
      ∙ ap (λ (r : List ℕ). r ++ zs) (last_moved ps b to (omega (arith, long)))

  count : length (take to ps ++ b ∷ drop to ps) ≡ len_of s c + 1
  count = omega (arith, length-append (take to ps) (b ∷ drop to ps), length-append (take to ps) (drop to ps), ap length (take-append-drop to ps), long)

  queued : Queued s t c (take to ps ++ b ∷ drop to ps)
  unfolding zs
  queued = record {
    fits = omega (arith, count);
    len = rw e.lens (get_or-set_same s.lens c (len_of s c + 1) 0 (omega (arith, w.lens)) ∙ sym count);
    own = own_part ∙ ap (λ (n : ℕ). (take to ps ++ b ∷ drop to ps) ++ replicate (136 - n) 0) (sym count);
    others = λ d m ne. (
      rw e.lens (get_or-set_other s.lens c d (len_of s c + 1) 0 ne),
      e.queue.others d ne ∙ part_other s.queue c d (len_of s c) b room ne,
    );
  }

  -- IT ENTERS, where its query has class c more to read, and began at n
  pub enters : Grown (query_at s.queries p).classes c v.classes → Enters s t c p to v.begun v.classes
  enters g = record {
    queued = queued;
    slots = e.slots;
    map_same = e.map_same;
    counts = e.counts;
    kept = e.kept;
    queries = e.queries;
    own = g.own;
    others = g.others;
  }

  -- and the shape stays
  pub entered_shape : v.classes < 2 ^ 16 → Shaped t
  entered_shape small = record {
    slots = rw e.slots w.slots;
    ops = rw e.slots w.ops;
    ids = rw e.slots w.ids;
    queue = e.queue.long ∙ length-set s.queue (136 * c + len_of s c) b ∙ w.queue;
    lens = rw e.lens (length-set s.lens c (len_of s c + 1) ∙ w.lens);
    low = rw e.map_same.0 w.low;
    high = rw e.map_same.1 w.high;
    kept = rw e.kept w.kept;
    queries = rw e.queries (length-set s.queries p v ∙ w.queries);
    masks = λ j. rw e.queries (by_test (eqb j p)
        (λ y. let is : j ≡ p = eqb-true j p y in rw (is, get_or-set_same s.queries p v free_query (omega (arith, w.queries))) small)
        (λ f. rw (get_or-set_other s.queries p j v free_query (eqb-false j p f)) (w.masks j)));
    sums = rw e.sums (length-set s.sums c (with_entry (get_or s.sums c 0)) ∙ w.sums);
  }
