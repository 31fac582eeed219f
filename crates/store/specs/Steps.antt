-- What the steps do to the arrays and to a slot. Assumes nothing.
use Rattle.std.specs.Prelude.{ℕ, ◌+◌, ◌*◌, ◌-◌, ◌%◌, ◌<◌, ◌≤◌, ◌≡◌, ◌⊎◌, cond, List, ltb, length, get_or, drop, set}
use Rattle.std.proofs.Math.Option.{none}
use Rattle.slots.specs.Steps.{tried_by}
use Rattle.places.specs.Moves.{Moved}
use Rattle.plain.specs.Sizes.{kept_count, wide_word}
use Rattle.plain.specs.Ops.{Ran}
use Rattle.plain.specs.Queue as Q
use Rattle.plain.specs.Steps as K
use Rattle.plain.specs.Site as S
use Rattle.slots.specs.Meaning.{slot_at}
use Rattle.slots.specs.declared.Slot.{Slot}
use Rattle.store.specs.Meaning.{Same, cells_of, items, len_of, places, plain}
use Rattle.store.specs.Sound.{Apart, Laid}
use Rattle.store.specs.Store.{Store}

-- slot i takes v and stands at the end of class c's queue; lo and hi are the new map
abbrev pub placed : Store → ℕ → ℕ → Slot → ℕ → ℕ → Store
placed s c i v lo hi = record {
  slots = set s.slots i v;
  queue = set s.queue (136 * c + len_of s c) i;
  lens = set s.lens c (len_of s c + 1);
  low = lo;
  high = hi;
  confirmations = s.confirmations;
  commits = s.commits;
  kept = s.kept;
  queries = s.queries;
  begun = s.begun;
  sums = s.sums;
}

-- slot i takes v, and nothing else changes
abbrev pub with_slot : Store → ℕ → Slot → Store
with_slot s i v = record {
  slots = set s.slots i v;
  queue = s.queue;
  lens = s.lens;
  low = s.low;
  high = s.high;
  confirmations = s.confirmations;
  commits = s.commits;
  kept = s.kept;
  queries = s.queries;
  begun = s.begun;
  sums = s.sums;
}

-- the sums are these, and nothing else changes
abbrev pub with_sums : Store → List ℕ → Store
with_sums s sums = record {
  slots = s.slots;
  queue = s.queue;
  lens = s.lens;
  low = s.low;
  high = s.high;
  confirmations = s.confirmations;
  commits = s.commits;
  kept = s.kept;
  queries = s.queries;
  begun = s.begun;
  sums = sums;
}

-- what stands at the head of class c: a slot, or from 128 on a query
abbrev pub head_slot : Store → ℕ → ℕ
head_slot s c = get_or s.queue (136 * c) 0

-- what its next operation comes to
abbrev pub head_tried : Store → List ℕ → ℕ → Ran
head_tried s wrk c = tried_by (slot_at s.slots (head_slot s c)) (cells_of wrk c)

-- THE SUM that stands with class c, after a step there: a work call takes one off where the head is confirmed, which has this number; an entry that is
-- read counts as confirmed
abbrev pub less_one : ℕ → ℕ → ℕ
less_one sum number = sum - cond (ltb 0 number) 1 0

-- a confirmation adds what its request, in slot i, still takes
abbrev pub sum_with : Store → ℕ → ℕ → ℕ
sum_with s c i = get_or s.sums c 0 + ((slot_at s.slots i).count - (slot_at s.slots i).done)

-- a query adds one for its entry
abbrev pub with_entry : ℕ → ℕ
with_entry sum = sum + 1

-- class c has a head that may commit
pub record Commitable (s : Store) (base wrk : List ℕ) (c : ℕ) : Type 0 where
  pub laid : Laid s
  pub class : c < 16
  pub some : 0 < len_of s c
  pub cells : (length base ≡ 1024) × (length wrk ≡ 1024)
  pub count : s.commits < 4294967295
  -- the head is a request
  pub request : head_slot s c < 128

-- laid out again, and the plain commit of class c
pub record CommitDone (s : Store) (base wrk : List ℕ) (c : ℕ) (t : Store) (base' : List ℕ) : Type 0 where
  pub laid : Laid t
  pub slots : length t.slots ≡ length s.slots
  pub cells : length base' ≡ 1024
  pub site : (e : Q.Entry) → Same (plain t base' wrk) (S.in_class (plain s base wrk) c none (K.commit (Q.booking e) (items s.slots s.queries (drop 1 (places s c))) (cells_of wrk c))).site
  pub queries : t.queries ≡ s.queries
  pub sums : t.sums ≡ s.sums

-- the work calls that what stands at queue place b still takes: one for each operation of a request still to do; an entry of a query is read by one
abbrev pub left_at : List Slot → ℕ → ℕ
left_at l b = cond (ltb b 128) ((slot_at l b).count - (slot_at l b).done) 1

-- class c's queue can be counted: no slot in it has more done than it has operations, and ids differ. An entry of a query counts 1
pub record Countable (s : Store) (c : ℕ) : Type 0 where
  pub laid : Laid s
  pub class : c < 16
  pub ids : Apart 128 (λ i. (slot_at s.slots i).id)
  pub within : (p : ℕ) → p < len_of s c → get_or s.queue (136 * c + p) 0 < 128 → (slot_at s.slots (get_or s.queue (136 * c + p) 0)).done ≤ (slot_at s.slots (get_or s.queue (136 * c + p) 0)).count

-- a slot with its number, and a slot put back: nothing done, not declined, put back once more
abbrev pub with_number : ℕ → Slot → Slot
with_number n v = record { id = v.id; class = v.class; count = v.count; ops = v.ops; number = n; done = v.done; mark = v.mark; backs = v.backs }

abbrev pub as_put_back : Slot → Slot
as_put_back v = record { id = v.id; class = v.class; count = v.count; ops = v.ops; number = v.number; done = 0; mark = 0; backs = v.backs + 1 }

-- class c has a head that may be put back: one more fits its count
pub record Backable (s : Store) (base wrk : List ℕ) (c : ℕ) : Type 0 where
  pub laid : Laid s
  pub class : c < 16
  pub some : 0 < len_of s c
  pub cells : (length base ≡ 1024) × (length wrk ≡ 1024)
  -- the head is a request
  pub request : head_slot s c < 128
  pub fits : (slot_at s.slots (head_slot s c)).backs + 1 < wide_word

-- class c's head is put back: its slot, and the working cells of the class
pub record PutBack (s : Store) (base wrk : List ℕ) (c : ℕ) (t : Store) (wrk' : List ℕ) : Type 0 where
  pub is : t ≡ with_slot s (head_slot s c) (as_put_back (slot_at s.slots (head_slot s c)))
  pub cells : length wrk' ≡ 1024
  pub own : cells_of wrk' c ≡ cells_of base c
  pub others : (d : ℕ) → (d ≡ c → ⊥) → cells_of wrk' d ≡ cells_of wrk d

-- slot i has its number, its id is kept under it, and one confirmation more is counted
abbrev pub numbered_store : Store → ℕ → ℕ → Store
numbered_store s i n = record {
  slots = set s.slots i (with_number n (slot_at s.slots i));
  queue = s.queue;
  lens = s.lens;
  low = s.low;
  high = s.high;
  confirmations = s.confirmations + 1;
  commits = s.commits;
  kept = set s.kept (n % kept_count) (slot_at s.slots i).id;
  queries = s.queries;
  begun = s.begun;
  sums = s.sums;
}

-- the place of slot i in class c's queue
pub record PlaceOf (s : Store) (c i p : ℕ) : Type 0 where
  pub within : p < len_of s c
  pub is : get_or s.queue (136 * c + p) 0 ≡ i

-- what stands at a flat place of the queues is a request that waits
abbrev pub WaitsAt : (number : ℕ → ℕ) → List ℕ → ℕ → Type 0
WaitsAt number queue b = (get_or queue b 0 < 128) × (number (get_or queue b 0) ≡ 0)

-- the place of the first waiting one in a queue that begins at flat place a, or its length where none waits, by the number of each slot: before it stand
-- the confirmed and the entries of queries
pub record WaitsFrom (number : ℕ → ℕ) (queue : List ℕ) (a len p : ℕ) : Type 0 where
  pub within : p ≤ len
  pub before : (k : ℕ) → k < p → (128 ≤ get_or queue (a + k) 0) ⊎ (0 < number (get_or queue (a + k) 0))
  pub waits : p < len → WaitsAt number queue (a + p)

-- that of class c's queue, and of every class's
abbrev pub FirstWaiting : Store → ℕ → ℕ → Type 0
FirstWaiting s c p = WaitsFrom (λ i. (slot_at s.slots i).number) s.queue (136 * c) (len_of s c) p

abbrev pub FirstsWaiting : Store → List ℕ → Type 0
FirstsWaiting s ends = (c : ℕ) → c < 16 → FirstWaiting s c (get_or ends c 0)

-- what stands at place p of class c's queue is confirmed: an entry of a query, or a request with a number
abbrev pub Passed : Store → ℕ → ℕ → Type 0
Passed s c p = (128 ≤ get_or s.queue (136 * c + p) 0) ⊎ (0 < (slot_at s.slots (get_or s.queue (136 * c + p) 0)).number)

-- slot i ends the confirmed part of class c's queue: it stands directly before the first that waits
pub record EndsPart (s : Store) (c i : ℕ) : Type 0 where
  pub until : ℕ
  pub first : FirstWaiting s c until
  pub some : 0 < until
  pub is : get_or s.queue (136 * c + (until - 1)) 0 ≡ i

-- slot i ends the confirmed part of its class, and w is the sum that stands there
abbrev pub KeptW : Store → ℕ → ℕ → Type 0
KeptW s i w = (w ≡ get_or s.sums (slot_at s.slots i).class 0) × EndsPart s (slot_at s.slots i).class i

-- in class c's queue all behind a waiting one wait
abbrev pub WaitingLast : Store → ℕ → Type 0
WaitingLast s c =
    (j k : ℕ) → j < k → k < len_of s c → WaitsAt (λ i. (slot_at s.slots i).number) s.queue (136 * c + j)
    → WaitsAt (λ i. (slot_at s.slots i).number) s.queue (136 * c + k)

-- slot i of class c has its number, its place `from` has moved forward to `to`, its id is kept, and one confirmation more is counted
pub record Forward (s : Store) (c i n from to : ℕ) (t : Store) : Type 0 where
  pub slots : t.slots ≡ (numbered_store s i n).slots
  pub queue : Moved s.queue t.queue c from to
  pub lens : t.lens ≡ s.lens
  pub map : (t.low ≡ s.low) × (t.high ≡ s.high)
  pub confirmations : t.confirmations ≡ s.confirmations + 1
  pub commits : t.commits ≡ s.commits
  pub kept : t.kept ≡ (numbered_store s i n).kept
  pub queries : t.queries ≡ s.queries
  pub begun : t.begun ≡ s.begun
  pub sums : t.sums ≡ (numbered_store s i n).sums
