-- The plain site that a site stands for: its queues and its cells, read off the arrays. Assumes nothing.
use Rattle.std.specs.Prelude.{ℕ, suc, ◌-◌, ◌*◌, ◌%◌, ◌<◌, ◌≡◌, cond, List, map, ltb, get_or, take, drop}
use Rattle.plain.specs.Sizes.{class_count, slot_count, cell_count, kept_count}
use Rattle.plain.specs.Queue.{Item, booking, reading}
use Rattle.plain.specs.Steps.{Class, class_with}
use Rattle.plain.specs.Site.{Site, Recent}
use Rattle.places.specs.Moves.{part}
use Rattle.slots.specs.declared.Slot.{Slot}
use Rattle.slots.specs.Meaning.{entry_of, slot_at}
use Rattle.queries.specs.declared.Query.{Query}
use Rattle.store.specs.Store.{Store, query_at}

-- how many places of class c's part count, and those: the slots from the head on
abbrev pub len_of : Store → ℕ → ℕ
len_of s c = get_or s.lens c 0

abbrev pub places : Store → ℕ → List ℕ
places s c = take (len_of s c) (part s.queue c)

-- what a queue place names: below 128 the request in that slot, else an entry of the query with the place from 1 on
abbrev pub item_at : List Slot → List Query → ℕ → Item
item_at l qs b = cond (ltb b slot_count) (booking (entry_of b (slot_at l b))) (reading (suc (b - slot_count)) (query_at qs (b - slot_count)).begun)

-- what the places name, and what stands in the queue of class c, from the head on
abbrev pub items : List Slot → List Query → List ℕ → List Item
items l qs ps = map (item_at l qs) ps

abbrev pub queue_of : Store → ℕ → List Item
queue_of s c = items s.slots s.queries (places s c)

-- cell k of class c stands at 64 c + k
abbrev pub cells_of : List ℕ → ℕ → List ℕ
cells_of run c = take cell_count (drop (cell_count * c) run)

unfoldable pub plain_class : Store → List ℕ → List ℕ → ℕ → Class
plain_class s base wrk c = class_with (queue_of s c) (cells_of base c) (cells_of wrk c)

-- the id kept under number n stands at place n mod 256
abbrev pub under : List ℕ → ℕ → ℕ
under kept n = get_or kept (n % kept_count) 0

abbrev pub kept_at : Store → ℕ → ℕ
kept_at s n = under s.kept n

unfoldable pub plain : Store → List ℕ → List ℕ → Site
plain s base wrk = record { class = plain_class s base wrk; confirmations = s.confirmations; commits = s.commits; queries = s.begun; kept = kept_at s }

-- the same plain site: of classes there are 16, and of numbers the last 256 are kept
pub record Same (a b : Site) : Type 0 where
  pub class : (c : ℕ) → c < class_count → a.class c ≡ b.class c
  pub confirmations : a.confirmations ≡ b.confirmations
  pub commits : a.commits ≡ b.commits
  pub queries : a.queries ≡ b.queries
  pub kept : (n : ℕ) → Recent a.confirmations n → a.kept n ≡ b.kept n
