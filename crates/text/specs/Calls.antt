-- What write and read answer, and what they leave in the lent buffer. Assumes nothing.
use Rattle.std.specs.Prelude.{ℕ, ◌≤◌, ◌<◌, ◌≡◌, List, ◌++◌, length, drop, Option, Some, None, Result, Ok, Err}
use Rattle.std.proofs.Math.Option.{none, some}
use Rattle.plain.specs.Ops.{Request}
use Rattle.plain.specs.Record.{request}
use Rattle.text.specs.Text.{text_of}
use Rattle.text.specs.Lines.{FirstBad}
use Rattle.text.specs.declared.Refused.{Refused}
use Rattle.text.specs.declared.Refused.TheVariants.{NoRecord, BadText, TooShort}

-- an answer: the length of the result, or the number of a refusal, for a bad text with its first bad line
pub data Answer : Type 0 where
  wrote : (length : ℕ) → Answer
  refused : (number : ℕ) → Answer
  refused_at : (number line : ℕ) → Answer

-- the number of a refusal
abbrev pub number_of : Refused → ℕ
number_of NoRecord = 3
number_of (BadText line) = 15
number_of TooShort = 16

abbrev pub refusal_of : Refused → Answer
refusal_of NoRecord = refused (number_of NoRecord)
refusal_of (BadText line) = refused_at (number_of (BadText line)) line
refusal_of TooShort = refused (number_of TooShort)

abbrev pub answer_of : Result ℕ Refused → Answer
answer_of (Ok n) = wrote n
answer_of (Err e) = refusal_of e

-- what several calls answer that wrote n bytes, up to the first that is refused, if one is
abbrev pub answer_up_to : ℕ → Option Refused → Answer
answer_up_to n None = wrote n
answer_up_to n (Some e) = refusal_of e

-- a result is handed over: 16 exactly when the buffer is shorter than it; past the result, and on a refusal, nothing is written
pub record Handed (result before : List ℕ) (a : Answer) (after : List ℕ) : Type 0 where
  pub fits : length result ≤ length before → (a ≡ wrote (length result)) × (after ≡ result ++ drop (length result) before)
  pub short : length before < length result → (a ≡ refused 16) × (after ≡ before)

-- WRITE: the text of the record's request, or 3 where the bytes are no record
pub record Wrote (bytes before : List ℕ) (a : Answer) (after : List ℕ) : Type 0 where
  pub holds_record : (r : Request) → request bytes ≡ some r → Handed (text_of r) before a after
  pub no_record : request bytes ≡ none → (a ≡ refused 3) × (after ≡ before)

-- READ: the record of the request whose text it is, or 15 with the first bad line
pub data Took (text before : List ℕ) (a : Answer) (after : List ℕ) : Type 0 where
  took : (bytes : List ℕ) (r : Request) → request bytes ≡ some r → text ≡ text_of r → Handed bytes before a after → Took text before a after
  bad : (line : ℕ) → FirstBad text line → a ≡ refused_at 15 line → after ≡ before → Took text before a after
