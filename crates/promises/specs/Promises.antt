-- ALL THAT IS PROMISED of the calls, in one record. Assumes nothing.
use Rattle.std.specs.Prelude.{ℕ, ◌+◌, ◌<◌, ◌≤◌, ◌≡◌, ◌↔◌, Bool, true, not, List, ◌∷◌, ◌++◌, length, take}
use Rattle.plain.specs.Sizes.{class_count, slot_count, kept_count, most_ops, most_w}
use Rattle.plain.specs.Ops.{Request}
use Rattle.plain.specs.Record.{request_in}
use Rattle.plain.specs.Queue.{count, has}
use Rattle.plain.specs.Steps.{Answer, committed, to_do, entry}
use Rattle.plain.specs.Site.{Call, offer, work, confirm, read, look, query, call, standing, is_free, is_queued}
use Rattle.plain.specs.History.{after, offers, confirmations, commits, committed_in, put_backs}
use Rattle.plain.specs.Demands.{Shares, SharesQueries, Shows, For, Counted, cells_after, w_of}
use Rattle.slots.specs.Meaning.{is_used, slot_at}
use Rattle.store.specs.Store.{Store, run_size}
use Rattle.store.specs.Meaning.{cells_of}
use Rattle.store.specs.Calls.{State, RightCells, SoundState, Started, plain_of}
use Rattle.promises.specs.Runs.{Happens, asks, Ready, Accepted, Run, FromFresh}
use Rattle.promises.specs.Demands.{Demand1, Demand2, Demand3, KeepsSlot, KeptOut, BackAtMost, Queried}

-- two sites agree in class c: in its queue, its slots' numbers and contents, and its cells
abbrev pub Agree : State → State → ℕ → Type 0
Agree x x' c = (plain_of x).class c ≡ (plain_of x').class c

-- on both a call answers alike and changes class c alike
abbrev pub Alike : State → State → ℕ → Call → Type 0
Alike x x' c k = (y y' : State) (a a' : Answer) → Happens x k y a → Happens x' k y' a' → (a ≡ a') × Agree y y' c

pub record Promises : Type 0 where
  -- DEMAND 1, of every call; fresh takes no site, and refuses with 1 alone
  pub demand_1 : {x y : State} {k : Call} {a : Answer} → Happens x k y a → Demand1 x k y a
  pub fresh_refuses : {base wrk base' wrk' : List ℕ} {t : Store} {n : ℕ} → Started base wrk t n base' wrk'
      → (n ≡ 1) ↔ ((length base ≡ run_size) × (length wrk ≡ run_size) → ⊥)
  pub fresh_untouched : {base wrk base' wrk' : List ℕ} {t : Store} {n : ℕ} → Started base wrk t n base' wrk'
      → n ≡ 1 → (base' ≡ base) × (wrk' ≡ wrk)
  -- DEMAND 2, of every run from fresh, and of two: the same requests confirmed under the same numbers and equally many commits in a class give
  -- equal committed cells there. What was offered, confirmed and committed is told by the answers, and those are the history's
  pub demand_2 : {h : List Call} {y : State} → FromFresh h y → (c : ℕ) → c < class_count → Demand2 h y c
  pub two_sites : {h h' : List Call} {y y' : State} → FromFresh h y → FromFresh h' y' → confirmations h ≡ confirmations h'
      → (c : ℕ) → c < class_count → length (committed_in c h) ≡ length (committed_in c h') → cells_of y.committed c ≡ cells_of y'.committed c
  pub answers : {h : List Call} {y z : State} {k : Call} {a : Answer} → FromFresh h y → Happens y k z a → a ≡ (call (after h) k).answer
  -- DEMAND 3, of every accepted confirmation
  pub demand_3 : {x y : State} {i n : ℕ} {a : Answer} → Happens x (confirm i n) y a → Accepted a → Demand3 x i n y a
  -- THE SLOT PROMISE, of every accepted offer; a slot is free when the site's array says so, and then alone
  pub keeps_slot : {x y : State} {b : List ℕ} {a : Answer} → Happens x (offer b) y a → Accepted a → KeepsSlot b y a
  pub slot_was_free : {x y : State} {k : Call} {a : Answer} → Happens x k y a → SoundState x → (j : ℕ) → j < slot_count
      → is_free (plain_of x) j ≡ not (is_used (slot_at x.site.slots j))
  -- KEPT IDS. From fresh, over any calls, an id that was confirmed under number n is refused by every offer until 256 more confirmations were accepted
  pub kept_out : {h : List Call} {y z : State} {b : List ℕ} {a : Answer} → FromFresh h y → Happens y (offer b) z a
      → (before behind : List (ℕ × Request)) (n : ℕ) (r : Request) → confirmations h ≡ before ++ (n, r) ∷ behind → length behind < kept_count
      → (request_in b).id ≡ r.id → KeptOut a
  -- PUT BACK. From fresh, over any calls, the count in a used slot is how many accepted confirmations and queries have put its request back since its offer,
  -- and look and a commit answer it
  pub counts_put_backs : {h : List Call} {y : State} → FromFresh h y → (j : ℕ) → j < slot_count → is_used (slot_at y.site.slots j) ≡ true
      → (slot_at y.site.slots j).backs ≡ put_backs (slot_at y.site.slots j).id h
  pub put_backs_shown : {h : List Call} {y z : State} {a : Answer} {i b : ℕ} → FromFresh h y → Happens y (look i) z a → Shows a b → b ≡ put_backs i h
  pub put_backs_committed : {h : List Call} {y z : State} {k : Call} {i n m j b : ℕ} → FromFresh h y → Happens y k z (committed i n m j b)
      → b ≡ put_backs i h
  -- HOW UNLUCKY. That count is at most the requests of its class that were offered after it and confirmed before it, plus the queries that named its
  -- class and began while it waited
  pub back_at_most : {h : List Call} {y : State} → FromFresh h y → BackAtMost h y
  -- THE QUERY'S PROMISE, of every accepted query after a run from fresh. All its entries show the class's cells after the same numbers: those up to the
  -- count of confirmations at its beginning, also where more were given since; so two sites that confirmed the same requests under these numbers show
  -- the same cells. Only a work call reads an entry. And a request confirmed before a query keeps its W
  pub queried : {h : List Call} {x y : State} {m : ℕ} {a : Answer} → FromFresh h x → Happens x (query m) y a → Accepted a → Queried h x m y a
  pub one_point : {h : List Call} {x : State} → FromFresh h x → (g : List Call)
      → (Counted 0 (confirmations (g ++ h))) × (take x.site.confirmations (confirmations (g ++ h)) ≡ confirmations h)
  pub same_point : (h h' : List Call) → confirmations h ≡ confirmations h' → (c : ℕ) → cells_after h c ≡ cells_after h' c
  pub only_work_reads : {x y : State} {k : Call} {p : ℕ} {l : List ℕ} → Happens x k y (entry p l)
      → (c : ℕ) × (k ≡ work c) × (c < class_count) × RightCells y
  pub keeps_w : {x y z z' : State} {m i v b : ℕ} {a : Answer} → Ready x → Happens x (look i) z (to_do v b) → Happens x (query m) y a
      → (a' : Answer) → Happens y (look i) z' a' → a' ≡ to_do v b
  -- SOUND SITES. A fresh site is sound, and every call leaves a sound site sound, and its cells right
  pub fresh_ready : {base wrk base' wrk' : List ℕ} {t : Store} → Started base wrk t 0 base' wrk'
      → Ready (record { site = t; committed = base'; working = wrk' })
  pub stays_sound : {x y : State} {k : Call} {a : Answer} → Happens x k y a → SoundState x → SoundState y
  pub stays_right : {x y : State} {k : Call} {a : Answer} → Happens x k y a → RightCells x → RightCells y
  -- from fresh the requests accepted so far are the commits plus the requests queued, also those alone that pass any test
  pub accepted : {h : List Call} {y : State} → FromFresh h y → (f : Request → Bool)
      → count f (offers h) ≡ count f (commits h) + standing (asks f) (plain_of y)
  -- W is at most 904, in confirm's answer and in look's
  pub w_bounded : {x y : State} {i n : ℕ} {a : Answer} → Happens x (confirm i n) y a → w_of a ≤ most_w
  pub left_bounded : {x y : State} {i w b : ℕ} → Happens x (look i) y (to_do w b) → w ≤ most_w
  -- a commit's mark is 0 or the place of an operation, 1 to 7
  pub mark_bounded : {x y : State} {k : Call} {i n m j b : ℕ} → Happens x k y (committed i n m j b) → m ≤ most_ops
  -- ONE CLASS ALONE. On sites that agree in a class, work and read for it answer alike and change it alike
  pub work_alike : {x x' : State} {c : ℕ} → Ready x → Ready x' → c < class_count → Agree x x' c → Alike x x' c (work c)
  pub read_alike : {x x' : State} {c k : ℕ} → Ready x → Ready x' → c < class_count → Agree x x' c → Alike x x' c (read c k)
  -- an offer or confirm shares five things with other classes; an id confirmed is queued in this one or nowhere
  pub offer_alike : {x x' : State} {b : List ℕ} {c : ℕ} → Ready x → Ready x' → c < class_count → Shares (plain_of x) (plain_of x') c
      → (request_in b).class ≡ c → Alike x x' c (offer b)
  pub confirm_alike : {x x' : State} {i n c : ℕ} → Ready x → Ready x' → c < class_count → Shares (plain_of x) (plain_of x') c
      → (is_queued (plain_of x) i ≡ true → has i ((plain_of x).class c).queue ≡ true) → Alike x x' c (confirm i n)
  -- a query shares three things with the other classes: the places in use, the count of confirmations, the queries begun
  pub query_alike : {x x' : State} {m c : ℕ} → Ready x → Ready x' → c < class_count → SharesQueries (plain_of x) (plain_of x') c → Alike x x' c (query m)
  -- and a call leaves the other classes as they are
  pub others_left : {x y : State} {k : Call} {a : Answer} → Happens x k y a → (c : ℕ) → c < class_count → (For (plain_of x) k c → ⊥) → Agree y x c
  -- ONE OUTCOME. Any two outcomes of a call are equal, any two of fresh, and so the ends of any two runs of the same calls
  pub one_outcome : {x y z : State} {k : Call} {a b : Answer} → Happens x k y a → Happens x k z b → (y ≡ z) × (a ≡ b)
  pub one_fresh : {base wrk base' wrk' base'' wrk'' : List ℕ} {t u : Store} {n m : ℕ} → Started base wrk t n base' wrk'
      → Started base wrk u m base'' wrk'' → (t ≡ u) × (n ≡ m) × (base' ≡ base'') × (wrk' ≡ wrk'')
  pub one_run : {x y z : State} {h : List Call} → Run x h y → Run x h z → y ≡ z
  pub one_run_from_fresh : {y z : State} {h : List Call} → FromFresh h y → FromFresh h z → y ≡ z
