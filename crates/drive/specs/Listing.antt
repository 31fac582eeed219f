-- The events of an input, made one after another on a site with its cells, and their lines. Assumes nothing.
use Rattle.std.specs.Prelude.{◌≡◌, ℕ, List, [], ◌∷◌, ◌++◌, length}
use Rattle.std.proofs.Math.Option.{Option, none, some}
use Rattle.plain.specs.Site.{Call}
use Rattle.store.specs.Calls.{State}
use Rattle.promises.specs.Runs.{FromFresh}
use Rattle.event.specs.Event.{event_size, call_of, Listed}
use Rattle.input.specs.Pieces.{pieces, behind}

-- the events of an input are its 72-byte pieces in order; the last may be short
abbrev pub events_of : List ℕ → List (List ℕ)
events_of input = pieces event_size input

-- ONE EVENT at a place leads from x to y, and its line is put behind what stood before
pub record ListsOne (x : State) (place : ℕ) (b : List ℕ) (y : State) (before text : List ℕ) : Type 0 where
  pub line : List ℕ
  pub listed : Listed x place b y line
  pub says : text ≡ before ++ line

-- EVENTS from a place on lead from x to y, each on the site and the cells that the one before it left; the text is their lines, one behind another
pub data Lists : State → ℕ → List (List ℕ) → State → List ℕ → Type 0 where
  -- no event, no line
  done : (x : State) (place : ℕ) → Lists x place [] x []
  -- one, and those behind it, from the next place on
  next : (x : State) (place : ℕ) (b : List ℕ) (y : State) (line : List ℕ) (bs : List (List ℕ)) (z : State) (text : List ℕ) → Listed x place b y line
      → Lists y (behind place 1) bs z text → Lists x place (b ∷ bs) z (line ++ text)

-- the calls that events ask for, behind the calls h; the latest comes first
abbrev pub asked : Option Call → List Call → List Call
asked none h = h
asked (some k) h = k ∷ h

abbrev pub calls_of : List (List ℕ) → List Call → List Call
calls_of [] h = h
calls_of (b ∷ bs) h = calls_of bs (asked (call_of b) h)

-- A RUN SO FAR from a fresh site x: the events of what was read led to y, which is where their calls lead from fresh; `then` is the next place
pub record Ran (x : State) (read : List ℕ) (y : State) (then : ℕ) (text : List ℕ) : Type 0 where
  pub lists : Lists x 1 (events_of read) y text
  pub from_fresh : FromFresh (calls_of (events_of read) []) y
  pub counts : then ≡ behind 1 (length (events_of read))

-- something was read, and led from x to y
abbrev pub RanTo : State → State → Type 0
RanTo x y = (read : List ℕ) × (then : ℕ) × (text : List ℕ) × Ran x read y then text
