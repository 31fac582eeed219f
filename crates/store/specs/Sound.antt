-- Document 01, "Sound sites", of a site with its cells: its rules one by one. Assumes nothing.
use Rattle.std.specs.Prelude.{ℕ, suc, ◌+◌, ◌-◌, ◌<◌, ◌≤◌, ◌≡◌, ◌⊎◌, ◌↔◌, true, cond, ◌&&◌, List, [], ◌∷◌, map, eqb, ltb, get_or, drop, replicate}
use Rattle.plain.specs.Sizes.{class_count, slot_count, most_queued, kept_count}
use Rattle.plain.specs.Queue.{Item, has_number, count, confirmed_costs}
use Rattle.plain.specs.Site.{sum, named, Recent}
use Rattle.plain.specs.Sound.{All, Untouched, InOrder, AtHead}
use Rattle.usedmap.specs.Flags.{used_of}
use Rattle.places.specs.Moves.{part}
use Rattle.slots.specs.declared.Slot.{Slot}
use Rattle.slots.specs.Meaning.{slot_free, slot_at, is_used}
use Rattle.slots.specs.Rules.{Holds}
use Rattle.store.specs.Store.{Store, query_at}
use Rattle.store.specs.Meaning.{len_of, places, queue_of, cells_of, kept_at}

-- how often i stands in a list
abbrev pub times : ℕ → List ℕ → ℕ
times i [] = 0
times i (x ∷ xs) = cond (eqb x i) (suc (times i xs)) (times i xs)

-- 1 where slot v is used and of class c, else 0
abbrev pub stands : ℕ → Slot → ℕ
stands c v = cond (is_used v && eqb v.class c) 1 0

-- 1 where queue place b may stand in the queue of class c: it is a used slot of that class, or a query that has it still to read
abbrev pub stands_at : Store → ℕ → ℕ → ℕ
stands_at s c b = cond (ltb b slot_count) (stands c (slot_at s.slots b)) (cond (named (query_at s.queries (b - slot_count)).classes c) 1 0)

-- each slot is free and all zero, or holds a valid record
abbrev pub SlotsOk : Store → Type 0
SlotsOk s = (i : ℕ) → i < slot_count → (slot_at s.slots i ≡ slot_free) ⊎ Holds (slot_at s.slots i)

-- no count of times put back is above `top`
abbrev pub BacksOk : List Slot → ℕ → Type 0
BacksOk l top = (i : ℕ) → i < slot_count → (slot_at l i).backs ≤ top

-- no queue is longer than 136
abbrev pub Short : List ℕ → Type 0
Short lens = (c : ℕ) → c < class_count → get_or lens c 0 ≤ most_queued

-- every used slot stands exactly once, in the queue of its class, and no free slot stands in one; an open query has an entry in the queue of each class
-- that it has still to read, one in each, and in no other, and one that is free has none
abbrev pub Once : Store → Type 0
Once s = (c b : ℕ) → c < class_count → times b (places s c) ≡ stands_at s c b

-- a place of queries that is free is all zero
abbrev pub FreeZero : Store → Type 0
FreeZero s = (p : ℕ) → (query_at s.queries p).classes ≡ 0 → (query_at s.queries p).begun ≡ 0

-- unused places of kept ids are zero: those of the numbers up to 256 that were not given yet
abbrev pub Unused : Store → Type 0
Unused s = (n : ℕ) → s.confirmations < n → n ≤ kept_count → kept_at s n ≡ 0

-- the rules of slots, queue places, the map, and places of kept ids
pub record Laid (s : Store) : Type 0 where
  pub free_or_valid : SlotsOk s
  pub not_longer_than_136 : Short s.lens
  pub exactly_once : Once s
  -- queue places past the end are zero
  pub past_the_end_zero : (c : ℕ) → c < class_count → drop (len_of s c) (part s.queue c) ≡ replicate (most_queued - len_of s c) 0
  -- the map of used slots agrees
  pub map_agrees : used_of s.low s.high ≡ map is_used s.slots
  pub unused_zero : Unused s
  pub free_queries_zero : FreeZero s

-- of numbers in n places 0 may stand in several and any other in one
abbrev pub Apart : ℕ → (ℕ → ℕ) → Type 0
Apart n f = (i j : ℕ) → i < j → j < n → f i ≡ f j → f i ≡ 0

-- only a head has anything done or is declined
abbrev pub Rest : List Item → Type 0
Rest [] = Unit
Rest (x ∷ q) = All Untouched q

-- none has more done than it has operations, a confirmed head is not executed, its mark is the place of the first of its done operations
-- that declined, or 0, and the working cells are the committed ones with the head's done operations carried out on them (the four fields of
-- Head), or equal to them where the queue is empty or its head an entry of a query
abbrev pub Cells : List Item → List ℕ → List ℕ → Type 0
Cells [] base w = w ≡ base
Cells (x ∷ q) base w = AtHead x base w

-- with each class stand the work calls that its confirmed part takes
abbrev pub SumsOk : Store → Type 0
SumsOk s = (c : ℕ) → c < class_count → get_or s.sums c 0 ≡ confirmed_costs (queue_of s c)

-- A SITE IS SOUND, with its cells
pub record Sound (s : Store) (base wrk : List ℕ) : Type 0 where
  pub laid : Laid s
  pub ids_differ : Apart slot_count (λ i. (slot_at s.slots i).id)
  -- in each queue the confirmed stand before the waiting, with rising numbers, and among them the entries of queries by the count at their beginning;
  -- waiting ones have number 0; confirmed numbers lie between 1 and the count of confirmations, above which no query began
  pub confirmed_before_waiting : (c : ℕ) → c < class_count → InOrder 0 s.confirmations (queue_of s c)
  -- confirmed numbers differ over the whole site
  pub numbers_differ : Apart slot_count (λ i. (slot_at s.slots i).number)
  -- the count of confirmations equals the count of commits plus the confirmed requests queued
  pub counts_agree : s.confirmations ≡ s.commits + sum (λ c. count has_number (queue_of s c)) class_count
  -- no count of times put back is above the count of confirmations and queries
  pub backs_bounded : BacksOk s.slots (s.confirmations + s.begun)
  pub only_a_head_done : (c : ℕ) → c < class_count → Rest (queue_of s c)
  pub working_cells_follow : (c : ℕ) → c < class_count → Cells (queue_of s c) (cells_of base c) (cells_of wrk c)
  pub sums_right : SumsOk s
  -- kept ids are not 0
  pub kept_not_zero : (n : ℕ) → Recent s.confirmations n → 0 < kept_at s n
  -- kept ids differ
  pub kept_differ : (m n : ℕ) → Recent s.confirmations m → Recent s.confirmations n → kept_at s m ≡ kept_at s n → m ≡ n
  -- a queued request has a kept id exactly if its number is kept, and then the one under it
  pub kept_queued : (i : ℕ) → i < slot_count → is_used (slot_at s.slots i) ≡ true → (n : ℕ) → Recent s.confirmations n
      → ((slot_at s.slots i).number ≡ n) ↔ ((slot_at s.slots i).id ≡ kept_at s n)
