-- The words of a line as they are read: the bytes of each in the definition spell it. Assumes nothing.
use Prim.Native.Nat.{ℕ}
use Prim.Native.Char.{code}
use Prim.Native.String.{String, [] as end, ◌∷◌ as ◌then◌}
use mathlib.Core.Path.{◌≡◌, refl}
use mathlib.Core.List.{List, ◌∷◌, []}
use Rattle.plain.specs.Steps.{refused, queued, stepped, executed, committed, waiting, value, to_do, unconfirmed, begun, entry}
use Rattle.line.specs.Text.{word_of}

-- the codes of a text's characters
abbrev pub ascii : String → List ℕ
ascii end = []
ascii (c then s) = code c ∷ ascii s

-- each answer's word
pub record Words : Type 0 where
  pub of_refused : (n : ℕ) → word_of (refused n) ≡ ascii "refused"
  pub of_queued : (i c p s : ℕ) → word_of (queued i c p s) ≡ ascii "queued"
  pub of_stepped : (i d : ℕ) → word_of (stepped i d) ≡ ascii "stepped"
  pub of_executed : (i : ℕ) → word_of (executed i) ≡ ascii "executed"
  pub of_committed : (i n m s b : ℕ) → word_of (committed i n m s b) ≡ ascii "committed"
  pub of_waiting : (i w b : ℕ) → word_of (waiting i w b) ≡ ascii "waiting"
  pub of_value : (x : ℕ) → word_of (value x) ≡ ascii "value"
  pub of_to_do : (w b : ℕ) → word_of (to_do w b) ≡ ascii "to-do"
  pub of_unconfirmed : (b : ℕ) → word_of (unconfirmed b) ≡ ascii "unconfirmed"
  pub of_begun : (p : ℕ) → word_of (begun p) ≡ ascii "begun"
  pub of_entry : (p : ℕ) (l : List ℕ) → word_of (entry p l) ≡ ascii "entry"

pub words : Words
words = record {
  of_refused = λ n. refl;
  of_queued = λ i c p s. refl;
  of_stepped = λ i d. refl;
  of_executed = λ i. refl;
  of_committed = λ i n m s b. refl;
  of_waiting = λ i w b. refl;
  of_value = λ x. refl;
  of_to_do = λ w b. refl;
  of_unconfirmed = λ b. refl;
  of_begun = λ p. refl;
  of_entry = λ p l. refl;
}
