-- The mission's three demands, the slot promise, the query's promise, and how unlucky a request can be, of calls that were made. Assumes nothing.
use Rattle.std.specs.Prelude.{ℕ, suc, ◌-◌, ◌<◌, ◌≤◌, ◌≡◌, ◌↔◌, ◌⊎◌, true, List, length, take}
use Rattle.plain.specs.Sizes.{slot_count}
use Rattle.plain.specs.Ops.{Request, run_all}
use Rattle.plain.specs.Record.{request_in}
use Rattle.plain.specs.Steps.{Answer, refused, queued, committed, to_do, begun, entry}
use Rattle.plain.specs.Site.{Call, work, look, named, zeros, class_of, entry_at, backs_at, tests, row, refusal}
use Rattle.plain.specs.Sound.{All}
use Rattle.plain.specs.History.{confirmations, confirmed_in, committed_in}
use Rattle.plain.specs.Told.{most_backs}
use Rattle.plain.specs.Demands.{Commits, Counted, Shows, w_of, Keeps, Frees, Gives, LowestFree, ahead, cells_after}
use Rattle.slots.specs.Meaning.{is_used, slot_at}
use Rattle.store.specs.Meaning.{cells_of}
use Rattle.store.specs.Calls.{State, RightCells, SoundState, plain_of}
use Rattle.promises.specs.Runs.{Happens, Ready, Accepted, Run, start, more, wrong, works_in}

-- the numbers of the table, but 1 and 2
abbrev pub Listed : ℕ → Type 0
Listed n = (3 ≤ n) × (n ≤ 24) × (n ≡ 13 → ⊥) × (14 < n → n < 17 → ⊥) × (18 < n → n < 24 → ⊥)

-- DEMAND 1, of a call k on x that handed back y and answered a: each refusal is given exactly when document 01's table says so, and touches nothing
pub record Demand1 (x : State) (k : Call) (y : State) (a : Answer) : Type 0 where
  -- 1 exactly when either run of cells is not 1,024 long
  pub cells : (a ≡ refused 1) ↔ (RightCells x → ⊥)
  -- else 2 exactly when the site is not sound
  pub sound : RightCells x → (a ≡ refused 2) ↔ (SoundState x → ⊥)
  -- else n, from 3 to 12 or one of 14, 17, 18 and 24, exactly when the table gives it, and where several apply the first in the table
  pub table : Ready x → (n : ℕ) → 0 < n → (a ≡ refused n) ↔ (refusal (plain_of x) k ≡ n)
  pub numbers : Ready x → (n : ℕ) → a ≡ refused n → Listed n
  pub in_order : Ready x → (n : ℕ) → a ≡ refused n → All (λ t. t.0 ≡ true → row n ≤ row t.1) (tests (plain_of x) k)
  -- no slot, no queue, no cell
  pub untouched : (n : ℕ) → a ≡ refused n → y ≡ x

-- DEMAND 2, of class c after the calls h from fresh: its committed cells are those got by running its committed requests one after another, and
-- these are the first confirmed ones of the class; they were confirmed as 1, 2, 3, ..
pub record Demand2 (h : List Call) (y : State) (c : ℕ) : Type 0 where
  pub serial : cells_of y.committed c ≡ run_all zeros (committed_in c h)
  pub first_confirmed : committed_in c h ≡ take (length (committed_in c h)) (confirmed_in c h)
  pub counted : Counted 0 (confirmations h)

-- KEPT OUT, of an offer that answered a: it was refused, for its record, because its id is queued, or because its id is kept
abbrev pub KeptOut : Answer → Type 0
KeptOut a = (a ≡ refused 3) ⊎ (a ≡ refused 4) ⊎ (a ≡ refused 14)

-- HOW UNLUCKY, of y after the calls h from fresh: a request was put back at most as often as there are requests of its class offered after it and
-- confirmed before it, plus queries that named its class and began while it waited. So the count in a used slot, the one that look answers, and the
-- one that a commit tells
pub record BackAtMost (h : List Call) (y : State) : Type 0 where
  pub in_slot : (j : ℕ) → j < slot_count → is_used (slot_at y.site.slots j) ≡ true
      → (slot_at y.site.slots j).backs ≤ most_backs (slot_at y.site.slots j).id h
  pub looked : (z : State) (a : Answer) (i b : ℕ) → Happens y (look i) z a → Shows a b → b ≤ most_backs i h
  pub told : (z : State) (k : Call) (i n mark slot b : ℕ) → Happens y k z (committed i n mark slot b) → b ≤ most_backs i h

-- What holds after x accepted work calls for class c, of the W that the confirmation of i under n answered, while x is less than W; `backs` is how
-- often the request had been put back when it was confirmed
pub record Waits (z : State) (c i n backs W x : ℕ) : Type 0 where
  -- a work call for the class is not refused
  pub works : (z' : State) (a : Answer) → Happens z (work c) z' a → Accepted a
  -- and it commits the request exactly if it is the W-th
  pub commits : suc x ≡ W → (z' : State) (a : Answer) → Happens z (work c) z' a → Commits a i n
  pub no_sooner : suc x < W → (z' : State) (a : Answer) → Happens z (work c) z' a → Commits a i n → ⊥
  -- look answers exactly what is left, and that count: no other call adds to them, so none puts the request back
  pub says : (z' : State) (a : Answer) → Happens z (look i) z' a → a ≡ to_do (W - x) backs

-- DEMAND 3, of an accepted confirmation of i under n on x, that handed back y and answered a: if W is 0 the request commits in that call;
-- otherwise after any further calls, as long as fewer than W of them were accepted work calls for its class, it waits, and has been put back as
-- often as on x
pub record Demand3 (x : State) (i n : ℕ) (y : State) (a : Answer) : Type 0 where
  pub at_once : w_of a ≡ 0 → Commits a i n
  pub later : 0 < w_of a → (h : List Call) (z : State) (r : Run y h z) → works_in (class_of (plain_of x) i) r < w_of a
      → Waits z (class_of (plain_of x) i) i n (backs_at (entry_at (plain_of x) i)) (w_of a) (works_in (class_of (plain_of x) i) r)

-- What holds after x accepted work calls for class c, of the W that the entry of the query with place p was from its reading, while x is less than W
pub record ReadsAt (z : State) (c p : ℕ) (cells : List ℕ) (W x : ℕ) : Type 0 where
  -- a work call for the class is not refused
  pub works : (z' : State) (a : Answer) → Happens z (work c) z' a → Accepted a
  -- and it reads the entry exactly if it is the W-th
  pub reads : suc x ≡ W → (z' : State) (a : Answer) → Happens z (work c) z' a → a ≡ entry p cells
  pub no_sooner : suc x < W → (z' : State) (a : Answer) (l : List ℕ) → Happens z (work c) z' a → a ≡ entry p l → ⊥

-- THE QUERY'S PROMISE, of an accepted query of mask m on x, which came from fresh by the calls h, that handed back y and answered a: the answer names the
-- lowest of the places 1 to 8 that was free; and in each class that it names, after any further calls, its entry stands until as many work calls for the
-- class were accepted as were ahead of it on x, and the next one reads it: it gives the cells got by running one after another, from zeros, the
-- requests of the class that were confirmed in h
pub record Queried (h : List Call) (x : State) (m : ℕ) (y : State) (a : Answer) : Type 0 where
  pub place : ℕ
  pub says : a ≡ begun place
  pub lowest_free : LowestFree (plain_of x) place
  pub later : (c : ℕ) → named m c ≡ true → (g : List Call) (z : State) (r : Run y g z) → works_in c r < suc (ahead (plain_of x) c)
      → ReadsAt z c place (cells_after h c) (suc (ahead (plain_of x) c)) (works_in c r)

-- in a run a request was given slot j
abbrev pub GivenIn : {x y : State} {h : List Call} → Run x h y → ℕ → Type 0
GivenIn start j = ⊥
GivenIn (more k z a r e) j = Gives a j ⊎ GivenIn r j
GivenIn (wrong base wrk k z a r n e) j = GivenIn r j

-- in a run a call freed the slot j of request q, and until then no other was given it
abbrev pub FreedIn : {x y : State} {h : List Call} → Run x h y → Request → ℕ → Type 0
FreedIn start q j = ⊥
FreedIn (more {h} {y} k z a r e) q j =
    (Frees (plain_of y) k (record { answer = a; site = plain_of z }) q j × (GivenIn r j → ⊥)) ⊎ FreedIn r q j
FreedIn (wrong base wrk k z a r n e) q j = FreedIn r q j

-- THE SLOT PROMISE, of an accepted offer of the record b that handed back y and answered a: the answer names a slot; and after any further calls the
-- request keeps that slot and no other was given it, or one of the calls freed it
pub record KeepsSlot (b : List ℕ) (y : State) (a : Answer) : Type 0 where
  pub place : ℕ
  pub slot : ℕ
  pub says : a ≡ queued (request_in b).id (request_in b).class place slot
  pub later : (h : List Call) (z : State) (r : Run y h z)
      → (Keeps (plain_of z) (request_in b) slot × (GivenIn r slot → ⊥)) ⊎ FreedIn r (request_in b) slot
