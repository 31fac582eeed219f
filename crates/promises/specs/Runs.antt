-- Calls that were made and runs of them, known by the contract of the calls alone. Assumes nothing.
use Rattle.std.specs.Prelude.{ℕ, ◌+◌, ◌≡◌, Bool, true, false, cond, ◌&&◌, List, [], ◌∷◌}
use Rattle.plain.specs.Steps.{Answer, refused, queued, stepped, executed, committed, waiting, value, to_do, unconfirmed, begun, entry}
use Rattle.plain.specs.Ops.{Request}
use Rattle.plain.specs.Queue.{Item, booking, reading}
use Rattle.plain.specs.Site.{Call}
use Rattle.plain.specs.History.{is_work}
use Rattle.store.specs.Store.{Shaped}
use Rattle.store.specs.Calls.{State, RightCells, SoundState, Called, Started}

-- a call was made: x is the site with its two runs of cells as handed in, y as handed back, a the answer. This is known
pub record Happens (x : State) (k : Call) (y : State) (a : Answer) : Type 0 where
  -- what the declared types say of the site as it was handed in
  pub before : Shaped x.site
  -- the contract
  pub called : Called x k y a
  -- and what they say of it as it was handed back
  pub after : Shaped y.site

-- a sound site with two runs of 1,024 cells
abbrev pub Ready : State → Type 0
Ready x = RightCells x × SoundState x

-- what stands in a queue is a request that passes a test
abbrev pub asks : (Request → Bool) → Item → Bool
asks f (booking e) = f e.request
asks f (reading p b) = false

-- is the answer no refusal?
abbrev pub is_accepted : Answer → Bool
is_accepted (refused n) = false
is_accepted (queued i c p s) = true
is_accepted (stepped i d) = true
is_accepted (executed i) = true
is_accepted (committed i n d s b) = true
is_accepted (waiting i w b) = true
is_accepted (value x) = true
is_accepted (to_do w b) = true
is_accepted (unconfirmed b) = true
is_accepted (begun p) = true
is_accepted (entry p l) = true

abbrev pub Accepted : Answer → Type 0
Accepted a = is_accepted a ≡ true

-- the site of y, with other runs of cells
abbrev pub on_cells : State → List ℕ → List ℕ → State
on_cells y base wrk = record { site = y.site; committed = base; working = wrk }

-- A RUN. From x the calls h, with any arguments, accepted or refused, the latest first, lead to y
pub data Run (x : State) : List Call → State → Type 0 where
  -- no call
  start : Run x [] x
  -- one call more, on the site and the cells as they stand
  more : {h : List Call} {y : State} (k : Call) (z : State) (a : Answer) → Run x h y → Happens y k z a → Run x (k ∷ h) z
  -- a call that was given wrong cells: the run goes on with the site handed back and its own cells
  wrong : {h : List Call} {y : State} (base wrk : List ℕ) (k : Call) (z : State) (a : Answer) → Run x h y
      → (RightCells (on_cells y base wrk) → ⊥) → Happens (on_cells y base wrk) k z a → Run x h (on_cells z y.committed y.working)

-- how many of a run's calls were accepted work calls for class c
unfoldable pub works_in : {x y : State} {h : List Call} → ℕ → Run x h y → ℕ
works_in c start = 0
works_in c (more k z a r e) = works_in c r + cond (is_work c k && is_accepted a) 1 0
works_in c (wrong base wrk k z a r n e) = works_in c r

-- a run from a state that fresh handed back with 0: only then the site counts as a fresh one
pub record FromFresh (h : List Call) (y : State) : Type 0 where
  -- the runs of cells that fresh was given
  pub base : List ℕ
  pub wrk : List ℕ
  -- what it handed back
  pub begin : State
  pub started : Started base wrk begin.site 0 begin.committed begin.working
  pub run : Run begin h y
