-- What comes of taking what stands in the queues from what may stand there: whether all may stand, and what may stand afterwards.
-- Assumes nothing.
use Rattle.std.specs.Prelude.{ℕ, ◌<◌, ◌≡◌, Bool, false, List}
use Rattle.std.specs.Bool.{MatchBool}
use Rattle.plain.specs.Sizes.{slot_count}
use Rattle.store.specs.Checks.{TookOne, Took, TooOften, flag_of, may_stand}
use Rattle.checks.specs.declared.once.Unseen.{Unseen}

-- how often b may still stand in the queue of class c
abbrev pub may : (class : ℕ → ℕ) → Unseen → ℕ → ℕ → ℕ
may class u = may_stand (flag_of u.map.lo u.map.hi) class u.table

-- of place b in the queue of class c; an entry is of no class
abbrev pub OneTaken : (class : ℕ → ℕ) → Unseen → (c b : ℕ) → Bool → Unseen → Type 0
OneTaken class u c b taken rest = MatchBool taken (TookOne (may class u) (may class rest) c b) (may class u c b ≡ 0)

abbrev pub EntryTaken : Unseen → (c b : ℕ) → Bool → Unseen → Type 0
EntryTaken u c b taken rest = (class : ℕ → ℕ) → OneTaken class u c b taken rest

-- of the first n places
abbrev pub ClassTaken : (class : ℕ → ℕ) → Unseen → (queue : List ℕ) → (c n : ℕ) → Bool → Unseen → Type 0
ClassTaken class u queue c n taken rest = MatchBool taken (Took (may class u) (may class rest) queue c n) (TooOften (may class u) queue c n)

-- no slot is marked
abbrev pub NoneUsed : (lo hi : ℕ) → Type 0
NoneUsed lo hi = (i : ℕ) → i < slot_count → flag_of lo hi i ≡ false
