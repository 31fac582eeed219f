-- The contract of every call: what it promises of the site and the cells that it hands back, and of its answer. Assumes nothing.
use Rattle.std.specs.Prelude.{ℕ, ◌≡◌, List, length, replicate}
use Rattle.plain.specs.Sizes.{slot_count, class_count, query_count, kept_count}
use Rattle.plain.specs.Steps.{Answer, refused}
use Rattle.plain.specs.Site as S
use Rattle.plain.specs.Site.{Call, call}
use Rattle.slots.specs.Meaning.{slot_free}
use Rattle.queries.specs.Table.{free_query}
use Rattle.store.specs.Store.{Store, place_count, run_size}
use Rattle.store.specs.Meaning.{plain, Same}
use Rattle.store.specs.Sound.{Sound}

-- a site with its two runs of cells
pub record State : Type 0 where
  pub site : Store
  pub committed : List ℕ
  pub working : List ℕ

abbrev pub RightCells : State → Type 0
RightCells x = (length x.committed ≡ run_size) × (length x.working ≡ run_size)

abbrev pub SoundState : State → Type 0
SoundState x = Sound x.site x.committed x.working

-- the plain site that it stands for
abbrev pub plain_of : State → S.Site
plain_of x = plain x.site x.committed x.working

-- on a sound site: the plain call's site and answer, and the site is sound
pub record Did (x : State) (k : Call) (y : State) (a : Answer) : Type 0 where
  pub cells : RightCells y
  pub sound : SoundState y
  pub site : Same (plain_of y) (call (plain_of x) k).site
  pub answer : a ≡ (call (plain_of x) k).answer

-- refused by number n, and nothing touched
pub record Refused (n : ℕ) (x y : State) (a : Answer) : Type 0 where
  pub untouched : y ≡ x
  pub answer : a ≡ refused n

-- THE CONTRACT. Wrong cells: 1; an unsound site: 2; else the plain call, which may be a refusal 3 to 12, 14, 17, 18 or 24 and then leaves the plain site, and so
-- the site. Whether a site is sound is decided, so the three cases are all
pub record Called (x : State) (k : Call) (y : State) (a : Answer) : Type 0 where
  pub wrong_cells : (RightCells x → ⊥) → Refused 1 x y a
  pub unsound : RightCells x → (SoundState x → ⊥) → Refused 2 x y a
  pub did : RightCells x → SoundState x → Did x k y a

-- a site with no request queued, no query open and all counts 0
unfoldable pub fresh : Store
fresh = record {
  slots = replicate slot_count slot_free;
  queue = replicate place_count 0;
  lens = replicate class_count 0;
  low = 0;
  high = 0;
  confirmations = 0;
  commits = 0;
  kept = replicate kept_count 0;
  queries = replicate query_count free_query;
  begun = 0;
  sums = replicate class_count 0;
}

-- FRESH takes no site: an empty one comes back, the number 0 and all cells 0; with wrong cells the number 1 and every cell as it was
pub record Started (base wrk : List ℕ) (t : Store) (n : ℕ) (base' wrk' : List ℕ) : Type 0 where
  pub site : t ≡ fresh
  pub wrong : ((length base ≡ run_size) × (length wrk ≡ run_size) → ⊥) → (n ≡ 1) × (base' ≡ base) × (wrk' ≡ wrk)
  pub right : length base ≡ run_size → length wrk ≡ run_size → (n ≡ 0) × (base' ≡ replicate run_size 0) × (wrk' ≡ replicate run_size 0)
