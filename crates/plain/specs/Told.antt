-- What the callers were told in a history from fresh, the LATEST FIRST, and how often a request can have been put back by it. Assumes nothing.
use Rattle.std.specs.Prelude.{ℕ, ◌+◌, Bool, true, false, cond, ◌&&◌, List, [], ◌∷◌, eqb}
use Rattle.plain.specs.Steps.{Answer, refused, queued, stepped, executed, committed, waiting, value, to_do, unconfirmed, begun, entry}
use Rattle.plain.specs.Site.{Call, call, named}
use Rattle.plain.specs.History.{after, mask_of}

-- a piece of news: the request of id i came into class c; that of id i is confirmed; a query of the classes of a mask began; none of these
pub data News : Type 0 where
  came : (i c : ℕ) → News
  confirmed : (i : ℕ) → News
  began : (mask : ℕ) → News
  other : News

-- what an answer tells, a query's together with its mask
abbrev pub news_of : ℕ → Answer → News
news_of m (queued i c p z) = came i c
news_of m (waiting i w b) = confirmed i
news_of m (committed i n d z b) = confirmed i
news_of m (begun p) = began m
news_of m (refused r) = other
news_of m (stepped i d) = other
news_of m (executed i) = other
news_of m (value x) = other
news_of m (to_do w b) = other
news_of m (unconfirmed b) = other
news_of m (entry p l) = other

unfoldable pub news : List Call → List News
news [] = []
news (k ∷ h) = news_of (mask_of k) (call (after h) k).answer ∷ news h

-- of the request that came last under the id i: its class, 0 if none came; does it wait: was it not confirmed since? did that of id j come after it?
abbrev pub class_told : ℕ → List News → ℕ
class_told i [] = 0
class_told i (came j c ∷ t) = cond (eqb i j) c (class_told i t)
class_told i (confirmed j ∷ t) = class_told i t
class_told i (began m ∷ t) = class_told i t
class_told i (other ∷ t) = class_told i t

abbrev pub waits : ℕ → List News → Bool
waits i [] = false
waits i (came j c ∷ t) = cond (eqb i j) true (waits i t)
waits i (confirmed j ∷ t) = cond (eqb i j) false (waits i t)
waits i (began m ∷ t) = waits i t
waits i (other ∷ t) = waits i t

abbrev pub came_after : ℕ → ℕ → List News → Bool
came_after i j [] = false
came_after i j (came m c ∷ t) = cond (eqb i m) false (cond (eqb j m) true (came_after i j t))
came_after i j (confirmed m ∷ t) = came_after i j t
came_after i j (began m ∷ t) = came_after i j t
came_after i j (other ∷ t) = came_after i j t

-- when j is confirmed: does it overtake i? Both wait, in one class, and j came after i
abbrev pub overtakes : ℕ → ℕ → List News → Bool
overtakes i j t = waits j t && (waits i t && (eqb (class_told j t) (class_told i t) && came_after i j t))

-- since i came: the requests of its class that came after it and were confirmed before it; and the queries that named its class and began while
-- it waited
unfoldable pub overtakers : ℕ → List News → ℕ
overtakers i [] = 0
overtakers i (came j c ∷ t) = cond (eqb i j) 0 (overtakers i t)
overtakers i (confirmed j ∷ t) = overtakers i t + cond (overtakes i j t) 1 0
overtakers i (began m ∷ t) = overtakers i t
overtakers i (other ∷ t) = overtakers i t

unfoldable pub queries_met : ℕ → List News → ℕ
queries_met i [] = 0
queries_met i (came j c ∷ t) = cond (eqb i j) 0 (queries_met i t)
queries_met i (confirmed j ∷ t) = queries_met i t
queries_met i (began m ∷ t) = queries_met i t + cond (waits i t && named m (class_told i t)) 1 0
queries_met i (other ∷ t) = queries_met i t

-- HOW UNLUCKY: the most that the request of id i can have been put back
unfoldable pub most_backs : ℕ → List Call → ℕ
most_backs i h = overtakers i (news h) + queries_met i (news h)
