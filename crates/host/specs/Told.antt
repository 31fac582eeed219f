-- What a host reads of an answer: six numbers, and what a host's call does with its site, cells and numbers. Assumes nothing.
use Rattle.std.specs.Prelude.{ℕ, zero, suc, ◌<◌, ◌≡◌, List, [], ◌∷◌, length}
use Rattle.plain.specs.Sizes.{class_count}
use Rattle.plain.specs.Steps.{Answer, refused, queued, stepped, executed, committed, waiting, value, to_do, unconfirmed, begun, entry}
use Rattle.plain.specs.Site.{Call, offer, confirm, work, read, look, query}
use Rattle.site.specs.declared.Answer as D
use Rattle.site.specs.declared.Answer.TheVariants as a
use Rattle.text.specs.Calls as T
use Rattle.text.specs.declared.Refused.{Refused}
use Rattle.text.specs.declared.Refused.TheVariants.{NoRecord, BadText, TooShort}
use Rattle.store.specs.Store.{Store, run_size}
use Rattle.store.specs.Calls.{State}
use Rattle.promised.specs.Promised.{Promised, Begun}

-- what an answer is, then its numbers in document 01's order, then zeros; of an entry the query's place and the class that was asked for
abbrev pub told : ℕ → Answer → List ℕ
told asked (refused reason) = 0 ∷ reason ∷ 0 ∷ 0 ∷ 0 ∷ 0 ∷ []
told asked (queued id class place slot) = 1 ∷ id ∷ class ∷ place ∷ slot ∷ 0 ∷ []
told asked (stepped id done) = 2 ∷ id ∷ done ∷ 0 ∷ 0 ∷ 0 ∷ []
told asked (executed id) = 3 ∷ id ∷ 0 ∷ 0 ∷ 0 ∷ 0 ∷ []
told asked (committed id number mark slot backs) = 4 ∷ id ∷ number ∷ mark ∷ slot ∷ backs ∷ []
told asked (waiting id w put_back) = 5 ∷ id ∷ w ∷ put_back ∷ 0 ∷ 0 ∷ []
told asked (value cell) = 6 ∷ cell ∷ 0 ∷ 0 ∷ 0 ∷ 0 ∷ []
told asked (to_do w backs) = 7 ∷ w ∷ backs ∷ 0 ∷ 0 ∷ 0 ∷ []
told asked (unconfirmed backs) = 8 ∷ backs ∷ 0 ∷ 0 ∷ 0 ∷ 0 ∷ []
told asked (begun place) = 11 ∷ place ∷ 0 ∷ 0 ∷ 0 ∷ 0 ∷ []
told asked (entry place cells) = 12 ∷ place ∷ asked ∷ 0 ∷ 0 ∷ 0 ∷ []

-- the class that a call asks for work in; no other call reads an entry
abbrev pub asked : Call → ℕ
asked (work c) = c
asked (offer b) = 0
asked (confirm i n) = 0
asked (read c k) = 0
asked (look i) = 0
asked (query m) = 0

-- what stands in the array lent for an entry: its cells where one was read, else what stood there
abbrev pub shown : Answer → List ℕ → List ℕ
shown (entry place cells) old = cells
shown (refused reason) old = old
shown (queued id class place slot) old = old
shown (stepped id done) old = old
shown (executed id) old = old
shown (committed id number mark slot backs) old = old
shown (waiting id w put_back) old = old
shown (value cell) old = old
shown (to_do w backs) old = old
shown (unconfirmed backs) old = old
shown (begun place) old = old

-- fresh has its own: 9 where it started a site, or the refusal
abbrev pub told_fresh : ℕ → List ℕ
told_fresh zero = 9 ∷ 0 ∷ 0 ∷ 0 ∷ 0 ∷ 0 ∷ []
told_fresh (suc n) = told 0 (refused (suc n))

-- A HOST'S CALL: the call beneath was made, with all that is promised of it, and the numbers are those of its answer
pub record Told (x : State) (k : Call) (y : State) (numbers : List ℕ) : Type 0 where
  pub answer : Answer
  pub promised : Promised x k y answer
  pub says : numbers ≡ told (asked k) answer

-- A HOST'S WORK CALL: the same, and the array lent for an entry holds the cells of the one that was read, or what it held
pub record ToldWork (x : State) (c : ℕ) (y : State) (before after numbers : List ℕ) : Type 0 where
  pub told : Told x (work c) y numbers
  pub cells : after ≡ shown told.answer before

-- of the text form: 10 and the length of what was written; or the refusal, that of a bad text with its first bad line
abbrev pub told_text : T.Answer → List ℕ
told_text (T.wrote length) = 10 ∷ length ∷ 0 ∷ 0 ∷ 0 ∷ 0 ∷ []
told_text (T.refused number) = 0 ∷ number ∷ 0 ∷ 0 ∷ 0 ∷ 0 ∷ []
told_text (T.refused_at number line) = 0 ∷ number ∷ line ∷ 0 ∷ 0 ∷ 0 ∷ []

-- the first bad line of a text that is refused, else 0
abbrev pub bad_line_of : Refused → ℕ
bad_line_of (BadText line) = line
bad_line_of NoRecord = 0
bad_line_of TooShort = 0

-- A HOST'S TEXT: what was done of the text form answered so, and the numbers are those of its answer
pub record ToldText (Done : T.Answer → Type 0) (numbers : List ℕ) : Type 0 where
  pub answer : T.Answer
  pub done : Done answer
  pub says : numbers ≡ told_text answer

-- A HOST'S FRESH START: the start beneath was made, with all that is promised of it, and the numbers say whether it was refused
pub record ToldFresh (base wrk : List ℕ) (site : Store) (base' wrk' numbers : List ℕ) : Type 0 where
  pub reason : ℕ
  pub begun : Begun base wrk site reason base' wrk'
  pub says : numbers ≡ told_fresh reason

-- where an answer is an entry that was read, the run has the cells of the class
abbrev pub Readable : D.Answer → List ℕ → ℕ → Type 0
Readable (a.Entry place) run c = (length run ≡ run_size) × (c < class_count)
Readable (a.Refused n) run c = Unit
Readable (a.Queued id class place slot) run c = Unit
Readable (a.Stepped id done) run c = Unit
Readable (a.Executed id) run c = Unit
Readable (a.Committed id number mark slot backs) run c = Unit
Readable (a.Waiting id w back) run c = Unit
Readable (a.Value n) run c = Unit
Readable (a.ToDo w backs) run c = Unit
Readable (a.Unconfirmed backs) run c = Unit
Readable (a.Begun place) run c = Unit
