-- What the mission demands of the steps, and what document 01 says besides, as statements about sites and histories. Assumes nothing.
use Rattle.std.specs.Prelude.{ℕ, suc, ◌-◌, ◌<◌, ◌≤◌, ◌≡◌, ◌⊎◌, true, false, List, [], ◌∷◌, ◌++◌, length, take}
use Rattle.std.proofs.Math.Option.{some}
use Rattle.plain.specs.Ops.{Request, run_all}
use Rattle.plain.specs.Record.{request_in}
use Rattle.plain.specs.Queue.{Entry, booking, reading, id_of, is_executed, is_confirmed, left, place_is, entry_of, first_of, up_to, confirmed_costs}
use Rattle.plain.specs.Steps.{Answer, refused, queued, stepped, executed, committed, waiting, value, to_do, unconfirmed, begun, entry}
use Rattle.plain.specs.Site.{Site, Call, Outcome, offer, work, confirm, read, look, query, zeros, call, accepts, refusal}
use Rattle.plain.specs.Site.{class_of, is_free, is_queued, is_kept, is_open, named}
use Rattle.plain.specs.Sizes.{class_count, slot_count, kept_count, query_count}
use Rattle.plain.specs.Sound.{All, OfRequest, SoundSite}
use Rattle.plain.specs.History.{after, after_from, works_from, confirmations, put_backs, confirmed_in, committed_in}
use Rattle.plain.specs.Told.{most_backs}

-- DEMAND 2, of class c after a history from fresh: its committed cells are those got by running its committed requests one after another, and
-- these are the first confirmed ones of the class in definitive order
pub record Demand2 (h : List Call) (c : ℕ) : Type 0 where
  pub serial : ((after h).class c).committed ≡ run_all zeros (committed_in c h)
  pub first_confirmed : committed_in c h ≡ take (length (committed_in c h)) (confirmed_in c h)

-- the numbers of a log of confirmations are m + 1, m + 2, ..
abbrev pub Counted : ℕ → List (ℕ × Request) → Type 0
Counted m [] = Unit
Counted m (p ∷ ps) = (p.0 ≡ suc m) × Counted (suc m) ps

-- the answer says that the request i is committed under number n
pub record Commits (a : Answer) (i n : ℕ) : Type 0 where
  pub mark : ℕ
  pub slot : ℕ
  pub backs : ℕ
  pub says : a ≡ committed i n mark slot backs

-- the W of an accepted confirmation's answer: 0 for a commit
abbrev pub w_of : Answer → ℕ
w_of (waiting i w b) = w
w_of (committed i n d s b) = 0
w_of (refused n) = 0
w_of (queued i c p s) = 0
w_of (stepped i d) = 0
w_of (executed i) = 0
w_of (value x) = 0
w_of (to_do w b) = 0
w_of (unconfirmed b) = 0
w_of (begun p) = 0
w_of (entry p l) = 0

-- What holds on a site after x accepted work calls for class c, of the W that the confirmation of i under n answered, while x is less than W;
-- `backs` is how often the request had been put back when it was confirmed
pub record Waits (s : Site) (c i n backs W x : ℕ) : Type 0 where
  -- the request is still queued there, confirmed under its number
  pub it : Entry
  pub queued : entry_of i (s.class c).queue ≡ some (booking it)
  pub number : it.number ≡ n
  -- look answers exactly what is left, and that count: no other call adds to them, so none puts the request back
  pub says : (call s (look i)).answer ≡ to_do (W - x) backs
  -- a work call for the class is not refused
  pub works : accepts s (work c) ≡ true
  -- and it commits the request exactly if it is the W-th
  pub commits : suc x ≡ W → Commits (call s (work c)).answer i n
  pub no_sooner : suc x < W → Commits (call s (work c)).answer i n → ⊥

-- DEMAND 3, of an accepted confirmation of i under n and its outcome o: if W is 0 the request commits in that call; otherwise after any further
-- calls, as long as fewer than W of them were accepted work calls for its class, it waits, and has been put back as often as before the confirmation
pub record Demand3 (c i n backs : ℕ) (o : Outcome) : Type 0 where
  pub at_once : w_of o.answer ≡ 0 → Commits o.answer i n
  pub later : 0 < w_of o.answer → (h : List Call) → works_from o.site c h < w_of o.answer
      → Waits (after_from o.site h) c i n backs (w_of o.answer) (works_from o.site c h)

-- an offer's refusal by its record or by its id
abbrev pub Turned : ℕ → Type 0
Turned reason = (reason ≡ 3) ⊎ (reason ≡ 4) ⊎ (reason ≡ 14)

-- KEPT OUT. After a history from fresh in which r was confirmed under n, and then fewer than 256 others: an offer of its id is refused, if not
-- for its record or because the id is queued, then because the id is kept
pub record KeptOut (h : List Call) : Type 0 where
  pub offers_refused : (before behind : List (ℕ × Request)) (n : ℕ) (r : Request) → confirmations h ≡ before ++ (n, r) ∷ behind
      → length behind < kept_count → (b : List ℕ) → (request_in b).id ≡ r.id → Turned (refusal (after h) (offer b))

-- an answer to look says this count of times put back
abbrev pub Shows : Answer → ℕ → Type 0
Shows a backs = ((w : ℕ) × (a ≡ to_do w backs)) ⊎ (a ≡ unconfirmed backs)

-- PUT BACK. After a history from fresh the count of each queued request is how many accepted confirmations and queries have put it back since its
-- offer, and look and a commit answer it
pub record CountedBack (h : List Call) : Type 0 where
  pub of_queued : (c : ℕ) → c < class_count → All (OfRequest (λ e. e.backs ≡ put_backs (id_of e) h)) ((after h).class c).queue
  pub of_looked : (i backs : ℕ) → Shows (call (after h) (look i)).answer backs → backs ≡ put_backs i h
  pub of_committed : (k : Call) (i n mark slot backs : ℕ) → (call (after h) k).answer ≡ committed i n mark slot backs → backs ≡ put_backs i h

-- HOW UNLUCKY. After a history from fresh a request was put back at most as often as there are requests of its class offered after it and confirmed
-- before it, plus queries that named its class and began while it waited: so the count of each queued request, and the one that look and a commit answer
pub record BackAtMost (h : List Call) : Type 0 where
  pub of_queued : (c : ℕ) → c < class_count → All (OfRequest (λ e. e.backs ≤ most_backs (id_of e) h)) ((after h).class c).queue
  pub of_looked : (i backs : ℕ) → Shows (call (after h) (look i)).answer backs → backs ≤ most_backs i h
  pub of_committed : (k : Call) (i n mark slot backs : ℕ) → (call (after h) k).answer ≡ committed i n mark slot backs → backs ≤ most_backs i h

-- a call is for class d: it is its class, or it names it
abbrev pub For : Site → Call → ℕ → Type 0
For s (offer b) d = d ≡ (request_in b).class
For s (work c) d = d ≡ c
For s (confirm i n) d = d ≡ class_of s i
For s (read c k) d = d ≡ c
For s (look i) d = d ≡ class_of s i
For s (query m) d = named m d ≡ true

-- What an offer or a confirmation in class c shares with the other classes: sites that agree in class c and in these five things
pub record Shares (s t : Site) (c : ℕ) : Type 0 where
  pub class : s.class c ≡ t.class c
  -- free slots
  pub free : (i : ℕ) → i < slot_count → is_free s i ≡ is_free t i
  -- ids in use
  pub ids : (i : ℕ) → is_queued s i ≡ is_queued t i
  -- kept ids
  pub kept : (i : ℕ) → is_kept s i ≡ is_kept t i
  -- the next number
  pub next : s.confirmations ≡ t.confirmations
  -- soundness
  pub sound : SoundSite s × SoundSite t

-- What a query shares with the classes that it does not name: sites that agree in class c and in these three things
pub record SharesQueries (s t : Site) (c : ℕ) : Type 0 where
  pub class : s.class c ≡ t.class c
  -- places in use
  pub places : (p : ℕ) → 0 < p → p ≤ query_count → is_open s p ≡ is_open t p
  -- the count of confirmations
  pub next : s.confirmations ≡ t.confirmations
  -- the queries begun
  pub queries : s.queries ≡ t.queries

-- on both sites a call answers alike and changes class c alike
pub record ActAlike (s t : Site) (c : ℕ) (k : Call) : Type 0 where
  pub answer : (call s k).answer ≡ (call t k).answer
  pub class : (call s k).site.class c ≡ (call t k).site.class c

-- A SLOT'S REQUEST. Request r keeps slot j: it is queued in it, the slot is not free, and r has not both finished its work and been confirmed
pub record Keeps (s : Site) (r : Request) (j : ℕ) : Type 0 where
  pub it : Entry
  pub class : r.class < class_count
  pub queued : entry_of r.id (s.class r.class).queue ≡ some (booking it)
  pub request : it.request ≡ r
  pub slot : it.slot ≡ j
  pub used : is_free s j ≡ false
  pub not_both : is_executed (booking it) ≡ true → is_confirmed (booking it) ≡ true → ⊥

-- the call brings the second of the two: the last operation of a request confirmed under n, or the number n of an executed one
abbrev pub BringsBoth : Call → Request → Entry → ℕ → Type 0
BringsBoth k r e n =
    ((k ≡ work r.class) × (e.number ≡ n) × (left (booking e) ≡ 1)) ⊎ ((k ≡ confirm r.id n) × (is_executed (booking e) ≡ true))

-- r, which keeps slot j, has with the call k of outcome o both finished its work and been confirmed; its commit is answered, and the slot is free
pub record Frees (s : Site) (k : Call) (o : Outcome) (r : Request) (j : ℕ) : Type 0 where
  pub kept : Keeps s r j
  pub number : ℕ
  pub confirmed : 0 < number
  pub both : BringsBoth k r kept.it number
  pub mark : ℕ
  pub says : o.answer ≡ committed r.id number mark j kept.it.backs
  pub free : is_free o.site j ≡ true

-- the answer says that a request is given slot j
pub record Gives (a : Answer) (j : ℕ) : Type 0 where
  pub id : ℕ
  pub class : ℕ
  pub place : ℕ
  pub says : a ≡ queued id class place j

-- in a history from s a request was given slot j
abbrev pub GivenIn : Site → List Call → ℕ → Type 0
GivenIn s [] j = ⊥
GivenIn s (k ∷ h) j = Gives (call (after_from s h) k).answer j ⊎ GivenIn s h j

-- in a history from s a call freed the slot j of r, and until then no other was given it
abbrev pub FreedIn : Site → List Call → Request → ℕ → Type 0
FreedIn s [] r j = ⊥
FreedIn s (k ∷ h) r j = (Frees (after_from s h) k (call (after_from s h) k) r j × (GivenIn s h j → ⊥)) ⊎ FreedIn s h r j

-- THE SLOT PROMISE, of an accepted offer of the record b and its outcome o: the answer names a slot; and after any further calls the request keeps
-- that slot and no other was given it, or one of the calls freed it
pub record SlotPromise (b : List ℕ) (o : Outcome) : Type 0 where
  pub place : ℕ
  pub slot : ℕ
  pub says : o.answer ≡ queued (request_in b).id (request_in b).class place slot
  pub later : (h : List Call) → (Keeps (after_from o.site h) (request_in b) slot × (GivenIn o.site h slot → ⊥)) ⊎ FreedIn o.site h (request_in b) slot

-- What holds on a site after x accepted work calls for class c, of the W that the entry there of the query with place p, which began when n
-- confirmations were taken, was from its reading, while x is less than W
pub record Reads (s : Site) (c p n : ℕ) (cells : List ℕ) (W x : ℕ) : Type 0 where
  -- the entry still stands in the queue
  pub stands : first_of (place_is p) (s.class c).queue ≡ some (reading p n)
  -- exactly so many work calls from its reading
  pub left_to_do : up_to (place_is p) (s.class c).queue ≡ W - x
  -- a work call for the class is not refused
  pub works : accepts s (work c) ≡ true
  -- and it reads the entry exactly if it is the W-th
  pub reads : suc x ≡ W → (call s (work c)).answer ≡ entry p cells
  pub no_sooner : suc x < W → (l : List ℕ) → (call s (work c)).answer ≡ entry p l → ⊥

-- a place of queries, 1 to 8, is free on a site, and none below it is
pub record LowestFree (s : Site) (place : ℕ) : Type 0 where
  pub from_1 : 0 < place
  pub to_8 : place ≤ query_count
  pub free : is_open s place ≡ false
  pub lowest : (p : ℕ) → 0 < p → p < place → is_open s p ≡ true

-- the work calls still to do for class c by what stands confirmed there: its confirmed requests and the entries of queries
abbrev pub ahead : Site → ℕ → ℕ
ahead s c = confirmed_costs (s.class c).queue

-- the cells of class c got by running one after another, from zeros, its requests that were confirmed in a history: those with the numbers up to its
-- count of confirmations (the laws counted and taken_before)
unfoldable pub cells_after : List Call → ℕ → List ℕ
cells_after h c = run_all zeros (confirmed_in c h)

-- THE QUERY'S PROMISE, of a query of mask m accepted after the history h from fresh, and of its outcome o: the answer names the lowest free place; and
-- in each class that it names, after any further calls, its entry stands until the work calls are accepted that were ahead of it; the next one reads
-- it, and gives the cells after the numbers taken in h
pub record QueryPromise (h : List Call) (m : ℕ) (o : Outcome) : Type 0 where
  pub place : ℕ
  pub says : o.answer ≡ begun place
  pub lowest_free : LowestFree (after h) place
  pub later : (c : ℕ) → named m c ≡ true → (g : List Call) → works_from o.site c g < suc (ahead (after h) c)
      → Reads (after_from o.site g) c place (after h).confirmations (cells_after h c) (suc (ahead (after h) c)) (works_from o.site c g)
