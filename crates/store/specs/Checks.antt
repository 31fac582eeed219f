-- The rules as the parts of the check look at them. Assumes nothing.
use Rattle.std.specs.Prelude.{ℕ, suc, ◌+◌, ◌*◌, ◌-◌, ◌%◌, ◌<◌, ◌≤◌, ◌≡◌, ◌⊎◌, ◌↔◌, Bool, true, false, cond, not, ◌&&◌, List, eqb, ltb, get_or, length, take}
use Rattle.plain.specs.Sizes.{class_count, slot_count, query_count, most_queued, kept_count}
use Rattle.plain.specs.Site.{sum, named, Recent}
use Rattle.plain.specs.Sound.{Head}
use Rattle.usedmap.specs.Flags.{used_of}
use Rattle.queries.specs.declared.Query.{Query}
use Rattle.slots.specs.Meaning.{entry_of, slot_free, is_used, slot_at}
use Rattle.slots.specs.Rules.{Holds}
use Rattle.slots.specs.declared.Slot.{Slot}
use Rattle.places.specs.Moves.{part}
use Rattle.store.specs.Meaning.{cells_of, queue_of, under}
use Rattle.store.specs.Sound.{Apart, Cells, Short, times}
use Rattle.store.specs.Store.{Store, query_at}

-- slot i is used and of class c
pub record Mine (s : Store) (c i : ℕ) : Type 0 where
  pub used : is_used (slot_at s.slots i) ≡ true
  pub class : (slot_at s.slots i).class ≡ c

-- the query at index p has class c still to read
abbrev pub Reading : Store → ℕ → ℕ → Type 0
Reading s c p = named (query_at s.queries p).classes c ≡ true

-- what stands at a queue place b of class c: a slot that is its own, or a query that reads it
abbrev pub Stays : Store → ℕ → ℕ → Type 0
Stays s c b = ((b < slot_count) × Mine s c b) ⊎ ((slot_count ≤ b) × Reading s c (b - slot_count))

-- The rules as the walks look at them: over the fields of the slots, each a function of the slot, and over the queue places, place p of class c
-- at 136 c + p
abbrev pub ids_of : List Slot → ℕ → ℕ
ids_of l i = (slot_at l i).id

abbrev pub classes_of : List Slot → ℕ → ℕ
classes_of l i = (slot_at l i).class

abbrev pub numbers_of : List Slot → ℕ → ℕ
numbers_of l i = (slot_at l i).number

-- what stands at a place of a list, 0 past its end
abbrev pub nth : List ℕ → ℕ → ℕ
nth l i = get_or l i 0

-- of what a queue place b names: by what it stands in line; its done operations and mark, 0 for an entry; and the work calls that it takes where it is
-- confirmed, else 0
abbrev pub line_in : List Slot → List Query → ℕ → ℕ
line_in l table b = cond (ltb b slot_count) (slot_at l b).number (query_at table (b - slot_count)).begun

abbrev pub done_in : List Slot → ℕ → ℕ
done_in l b = cond (ltb b slot_count) (slot_at l b).done 0

abbrev pub mark_in : List Slot → ℕ → ℕ
mark_in l b = cond (ltb b slot_count) (slot_at l b).mark 0

abbrev pub due : (number count done : ℕ) → ℕ
due number count done = cond (eqb number 0) 0 (count - done)

abbrev pub due_in : List Slot → ℕ → ℕ
due_in l b = cond (ltb b slot_count) (due (slot_at l b).number (slot_at l b).count (slot_at l b).done) (cond (ltb b most_queued) 1 0)

abbrev pub line_at : Store → ℕ → ℕ
line_at s = line_in s.slots s.queries

-- each slot is free and all zero, or holds a valid record, and its count of times put back is not above `top`
abbrev pub SlotsIn : List Slot → ℕ → Type 0
SlotsIn l top = (i : ℕ) → i < slot_count → ((slot_at l i ≡ slot_free) ⊎ Holds (slot_at l i)) × ((slot_at l i).backs ≤ top)

-- lists that hold the fields of the slots: id and class; the numbers; and of what queue places name
pub record Owned (l : List Slot) (ids classes : List ℕ) : Type 0 where
  pub id : nth ids ≡ ids_of l
  pub class : nth classes ≡ classes_of l
  pub long : (length ids ≡ slot_count) × (length classes ≡ slot_count)

pub record Staged (l : List Slot) (numbers : List ℕ) : Type 0 where
  pub number : nth numbers ≡ numbers_of l

pub record Lined (l : List Slot) (table : List Query) (lines dones marks dues : List ℕ) : Type 0 where
  pub line : nth lines ≡ line_in l table
  pub done : nth dones ≡ done_in l
  pub mark : nth marks ≡ mark_in l
  pub due : nth dues ≡ due_in l

-- a slot's class is one of the 16
abbrev pub Classed : (ℕ → ℕ) → Type 0
Classed class = (i : ℕ) → i < slot_count → class i < class_count

-- the map of used slots agrees
abbrev pub MapOf : (low high : ℕ) → (ℕ → ℕ) → Type 0
MapOf low high id = (i : ℕ) → i < slot_count → get_or (used_of low high) i false ≡ not (eqb (id i) 0)

-- how often b may stand in the queue of class c: once where it is a slot that is used and of that class, or a query that has it still to read
abbrev pub may_stand : (used : ℕ → Bool) → (class : ℕ → ℕ) → List Query → ℕ → ℕ → ℕ
may_stand used class table c b =
    cond (ltb b slot_count) (cond (used b && eqb (class b) c) 1 0) (cond (named (query_at table (b - slot_count)).classes c) 1 0)

-- the flags of a map, and of ids
abbrev pub flag_of : (low high : ℕ) → ℕ → Bool
flag_of low high i = get_or (used_of low high) i false

abbrev pub has_id : (ℕ → ℕ) → ℕ → Bool
has_id id i = not (eqb (id i) 0)

-- what may stand in a queue stands there, and as often
abbrev pub OnceIn : (used : ℕ → Bool) → (class : ℕ → ℕ) → List Query → (queue lens : List ℕ) → Type 0
OnceIn used class table queue lens = (c b : ℕ) → c < class_count → times b (take (nth lens c) (part queue c)) ≡ may_stand used class table c b

-- The walk over the places takes what it passes from what may stand: what may still stand, by class and place
-- b stood in the queue of class c, and is taken
pub record TookOne (may rest : ℕ → ℕ → ℕ) (c b : ℕ) : Type 0 where
  pub own : suc (rest c b) ≡ may c b
  pub same_class : (x : ℕ) → (x ≡ b → ⊥) → rest c x ≡ may c x
  pub others : (d x : ℕ) → d < class_count → (d ≡ c → ⊥) → rest d x ≡ may d x

-- the first n places of class c are taken
pub record Took (may rest : ℕ → ℕ → ℕ) (queue : List ℕ) (c n : ℕ) : Type 0 where
  pub own : (b : ℕ) → times b (take n (part queue c)) + rest c b ≡ may c b
  pub others : (d b : ℕ) → d < class_count → (d ≡ c → ⊥) → rest d b ≡ may d b

-- one of them stands there more often than it may
abbrev pub TooOften : (may : ℕ → ℕ → ℕ) → List ℕ → (c n : ℕ) → Type 0
TooOften may queue c n = (b : ℕ) × (may c b < times b (take n (part queue c)))

-- a mask names no class; no query has one still to read
abbrev pub NamesNone : ℕ → Type 0
NamesNone mask = (c : ℕ) → c < class_count → named mask c ≡ false

abbrev pub AllRead : List Query → Type 0
AllRead table = (p : ℕ) → NamesNone (query_at table p).classes

-- a place of queries that is free is all zero
abbrev pub FreeIn : List Query → Type 0
FreeIn table = (p : ℕ) → p < query_count → (query_at table p).classes ≡ 0 → (query_at table p).begun ≡ 0

-- a free slot has no number
abbrev pub Unnumbered : (id number : ℕ → ℕ) → Type 0
Unnumbered id number = (i : ℕ) → i < slot_count → id i ≡ 0 → number i ≡ 0

-- places from one to before another are zero; queue places past the end of their class are
abbrev pub ZeroFrom : List ℕ → (from end : ℕ) → Type 0
ZeroFrom queue from end = (k : ℕ) → k < end → from ≤ k → nth queue k ≡ 0

abbrev pub Tails : (queue lens : List ℕ) → Type 0
Tails queue lens = (c : ℕ) → c < class_count → ZeroFrom queue (most_queued * c + nth lens c) (most_queued * c + most_queued)

-- ids differ, and confirmed numbers differ
pub record Differ (id number : ℕ → ℕ) : Type 0 where
  pub ids : Apart slot_count id
  pub numbers : Apart slot_count number

-- what stands at queue place b, n being its line, is confirmed: it is an entry, or has a number
abbrev pub stand : (b n : ℕ) → Bool
stand b n = cond (ltb b slot_count) (ltb 0 n) true

abbrev pub confirmed_at : Store → ℕ → Bool
confirmed_at s b = stand b (line_at s b)

-- y, with this line, done operations and mark, may stand directly behind x with the line `before`: it waits; or x is confirmed, and y a request with a
-- number above x's line, or an entry that is not below it; and it has nothing done
pub record Next (x before y line done mark : ℕ) : Type 0 where
  pub order : (stand y line ≡ false) ⊎ ((stand x before ≡ true) × ((before < line) ⊎ ((slot_count ≤ y) × (before ≤ line))))
  pub untouched : (done ≡ 0) × (mark ≡ 0)

abbrev pub Behind : (line done mark : ℕ → ℕ) → (x y : ℕ) → Type 0
Behind line done mark x y = Next x (line x) y (line y) (done y) (mark y)

-- the places of one queue that begins at flat place a: no line is above the count of confirmations, and each may stand behind the one before it
pub record PlaceOk (line done mark : ℕ → ℕ) (queue : List ℕ) (top a p : ℕ) : Type 0 where
  pub given : line (nth queue (a + p)) ≤ top
  pub follows : 0 < p → Behind line done mark (nth queue (a + p - 1)) (nth queue (a + p))

-- all places of such a queue, and of all queues
abbrev pub QueueOk : (line done mark : ℕ → ℕ) → List ℕ → (top a len : ℕ) → Type 0
QueueOk line done mark queue top a len = (p : ℕ) → p < len → PlaceOk line done mark queue top a p

abbrev pub PlacesOk : (line done mark : ℕ → ℕ) → (queue lens : List ℕ) → ℕ → Type 0
PlacesOk line done mark queue lens top = (c : ℕ) → c < class_count → QueueOk line done mark queue top (most_queued * c) (nth lens c)

abbrev pub PlacesIn : Store → Type 0
PlacesIn s = PlacesOk (line_at s) (done_in s.slots) (mark_in s.slots) s.queue s.lens s.confirmations

-- all places of such a queue name slots or queries, and of all queues
abbrev pub Named : List ℕ → (a len : ℕ) → Type 0
Named queue a len = (p : ℕ) → p < len → nth queue (a + p) < most_queued

abbrev pub InRange : (queue lens : List ℕ) → Type 0
InRange queue lens = (c : ℕ) → c < class_count → Named queue (most_queued * c) (nth lens c)

-- the work calls that the confirmed part of a queue takes which begins at a
unfoldable pub sum_over : (due : ℕ → ℕ) → List ℕ → (a len : ℕ) → ℕ
sum_over due queue a len = sum (λ p. due (nth queue (a + p))) len

-- the sum that stands with each class is that of its queue
abbrev pub SumsIn : (due : ℕ → ℕ) → (queue lens sums : List ℕ) → Type 0
SumsIn due queue lens sums = (c : ℕ) → c < class_count → nth sums c ≡ sum_over due queue (most_queued * c) (nth lens c)

-- how many slots hold a number
unfoldable pub numbered : (ℕ → ℕ) → ℕ → ℕ
numbered number n = sum (λ i. cond (eqb (number i) 0) 0 1) n

-- The kept ids, as the walk over their places looks at them, after `top` confirmations
-- a place is that of one of the last 256 numbers; or of one up to 256 that was not given yet
abbrev pub InUse : ℕ → ℕ → Type 0
InUse top p = (n : ℕ) × Recent top n × (n % kept_count ≡ p)

abbrev pub Spare : ℕ → ℕ → Type 0
Spare top p = (n : ℕ) × (top < n) × (n ≤ kept_count) × (n % kept_count ≡ p)

-- kept ids are not 0, and unused places are zero
pub record Filled (top : ℕ) (kept : List ℕ) : Type 0 where
  pub not_zero : (n : ℕ) → Recent top n → 0 < under kept n
  pub unused : (n : ℕ) → top < n → n ≤ kept_count → under kept n ≡ 0

-- kept ids differ
abbrev pub KeptApart : List ℕ → Type 0
KeptApart kept = Apart kept_count (λ p. get_or kept p 0)

-- an id is among the first of them
abbrev pub Among : List ℕ → ℕ → ℕ → Type 0
Among kept len i = (p : ℕ) × (p < len) × (get_or kept p 0 ≡ i)

-- a request has a kept number exactly if its id is the one under it; so does every queued one
abbrev pub MatchesAll : ℕ → List ℕ → (number id : ℕ) → Type 0
MatchesAll top kept number id = (n : ℕ) → Recent top n → (number ≡ n) ↔ (id ≡ under kept n)

abbrev pub Matching : (id number : ℕ → ℕ) → ℕ → List ℕ → Type 0
Matching id number top kept = (i : ℕ) → i < slot_count → not (eqb (id i) 0) ≡ true → MatchesAll top kept (number i) (id i)

-- the rules of kept ids together
pub record KeptOk (id number : ℕ → ℕ) (top : ℕ) (kept : List ℕ) : Type 0 where
  pub filled : Filled top kept
  pub apart : KeptApart kept
  pub matching : Matching id number top kept

-- the rules of lengths, queue places, map, ids, numbers, counts and queries together
pub record LaidOut (id class number line done mark due : ℕ → ℕ) (queue lens sums : List ℕ) (table : List Query) (low high top commits : ℕ) : Type 0 where
  pub short : Short lens
  pub tails : Tails queue lens
  pub map : MapOf low high id
  pub once : OnceIn (has_id id) class table queue lens
  pub differ : Differ id number
  pub places : PlacesOk line done mark queue lens top
  pub sums_right : SumsIn due queue lens sums
  pub free_zero : FreeIn table
  pub tally : top ≡ commits + numbered number slot_count

abbrev pub LaidIn : Store → Type 0
LaidIn s =
    LaidOut (ids_of s.slots) (classes_of s.slots) (numbers_of s.slots) (line_at s) (done_in s.slots) (mark_in s.slots) (due_in s.slots) s.queue s.lens s.sums
    s.queries s.low s.high s.confirmations s.commits

-- what stands at the head of class c; 128 where its queue is empty
abbrev pub head_of : (queue lens : List ℕ) → ℕ → ℕ
head_of queue lens c = cond (eqb (nth lens c) 0) slot_count (nth queue (most_queued * c))

abbrev pub Heads : (queue lens heads : List ℕ) → Type 0
Heads queue lens heads = (c : ℕ) → c < class_count → nth heads c ≡ head_of queue lens c

-- a slot that stands as head of a class holds a valid record
abbrev pub HeadsHold : List Slot → List ℕ → Type 0
HeadsHold slots heads = (c : ℕ) → c < class_count → nth heads c < slot_count → Holds (slot_at slots (nth heads c))

-- a class's cells, by the slot at its head, or from 128 on where there is none
pub record CellsAt (slots : List Slot) (head : ℕ) (base wrk : List ℕ) : Type 0 where
  pub empty : slot_count ≤ head → wrk ≡ base
  pub headed : head < slot_count → Head (entry_of head (slot_at slots head)) base wrk

abbrev pub HeadCells : List Slot → List ℕ → List ℕ → List ℕ → Type 0
HeadCells slots heads base wrk = (c : ℕ) → c < class_count → CellsAt slots (nth heads c) (cells_of base c) (cells_of wrk c)

abbrev pub CellsOk : Store → List ℕ → List ℕ → Type 0
CellsOk s base wrk = (c : ℕ) → c < 16 → Cells (queue_of s c) (cells_of base c) (cells_of wrk c)
