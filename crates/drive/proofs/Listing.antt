-- Listing goes on from event to event and from block to block, and a run from fresh with it. Assumes nothing.
use Rattle.std.proofs.Common.{min, drop_of_length-le, ◌≡◌, ℕ, suc, ◌+◌, ◌*◌, ◌%◌, ◌^◌, ◌<◌, ◌≤◌, List, [], ◌∷◌, ◌++◌, length, sym, refl, ap, ◌∙◌, subst, append_assoc, append-nil, arith, length-append}
use mathlib.Core.Option.{Option, none, some}
use Rattle.plain.specs.Steps.{refused}
use Rattle.plain.specs.Site.{Call}
use Rattle.store.specs.Calls.{State}
use Rattle.promises.specs.Runs.{FromFresh}
use Rattle.line.specs.Text.{line_of}
use Rattle.event.specs.Event.{event_size, bad_event, call_of, Listed}
use Rattle.event.proofs.Events.{no_event}
use Rattle.input.specs.Pieces.{behind}
use Rattle.input.proofs.Cutting.{no_piece, next_piece, pieces_append}
use Rattle.drive.specs.Listing.{events_of, ListsOne, Lists, done, next, asked, calls_of, Ran, RanTo}

-- SO FAR: from x the events led to y, and those that are left go on from there
pub record SoFar (x : State) (place : ℕ) (bs : List (List ℕ)) (y : State) (then : ℕ) (text : List ℕ) (rest : List (List ℕ)) : Type 0 where
  pub goes : (z : State) (more : List ℕ) → Lists y then rest z more → Lists x place bs z (text ++ more)
  pub counts : behind place (length bs) ≡ behind then (length rest)

pub nothing_yet : (x : State) (place : ℕ) (bs : List (List ℕ)) → SoFar x place bs x place [] bs
nothing_yet x place bs = record { goes = λ z more h. h; counts = refl }

module _ (x : State) (place : ℕ) (bs : List (List ℕ)) (y : State) (then : ℕ) (text : List ℕ) where
  -- one event more
  pub one_more : (b : List ℕ) (rest : List (List ℕ)) (z : State) (after : List ℕ) (p : ℕ) → p ≡ behind then 1 → ListsOne y then b z text after
      → SoFar x place bs y then text (b ∷ rest) → SoFar x place bs z p after rest
  one_more b rest z after p e one h = record {
    goes = λ w more k.
        rw (one.says, append_assoc text one.line more)
        (h.goes w (one.line ++ more) (next y then b z one.line rest w more one.listed (rw e at k)));
    counts = h.counts ∙ rw e (omega arith);
  }

  -- none is left
  pub ended : SoFar x place bs y then text [] → Lists x place bs y text
  ended h = rw (append-nil text) at (h.goes y [] (done y then))

  pub counted : then < 2 ^ 64 → SoFar x place bs y then text [] → then ≡ behind place (length bs)
  counted l h = sym (h.counts ∙ omega arith)

-- WALKING OVER AN INPUT: the events of what is left, of which b comes off
pub comes_next : (left b rest : List ℕ) (size : ℕ) → size ≡ event_size → left ≡ b ++ rest → length b ≡ min size (length left) → 0 < length left
    → events_of left ≡ b ∷ events_of rest
comes_next left b rest size s e l h =
    let m : length b ≡ min event_size (length (b ++ rest)) = rw (s, e) at l in
    ap events_of e ∙ next_piece event_size (omega arith) b rest m (rw e at h)

-- and where nothing is left
pub none_left : (left : List ℕ) → length left ≡ 0 → events_of left ≡ []
none_left left l = ap events_of (drop_of_length-le left {i = 0} (omega arith)) ∙ no_piece event_size (omega arith)

-- room for the lines: what is left of a block, two bytes of a line for each of its bytes, fits behind len; at its end a line more may stand, that of a
-- short event
pub record Room (len left : ℕ) : Type 0 where
  pub ahead : 0 < left → len + 2 * left ≤ 64800
  pub most : len ≤ 64944

pub room_on : (len then left : ℕ) (b rest : List ℕ) (size : ℕ) → size ≡ event_size → left ≡ length (b ++ rest) → length b ≡ min size left → 0 < left
    → then ≤ len + 144 → Room len left → Room then (length rest)
room_on len then left b rest size s e l h m r =
    let k : left ≡ length b + length rest = e ∙ length-append b rest in
    let i : length b ≡ min event_size left = rw s at l in
    record { ahead = λ p. omega (arith, r.ahead h); most = omega (arith, r.ahead h) }

-- FROM BLOCK TO BLOCK: events and those behind them
pub lists_append : {x y z : State} {place : ℕ} {bs cs : List (List ℕ)} {text more : List ℕ} → Lists x place bs y text
    → place < 2 ^ 64 → Lists y (behind place (length bs)) cs z more → Lists x place (bs ++ cs) z (text ++ more)
lists_append {z = z} {cs = cs} {more = more} (done x place) l k = let e : (place + 0) % 2 ^ 64 ≡ place = omega arith in rw e at k
lists_append {z = w} {cs = cs} {more = more} (next x place b y line bs z text one h) l k =
    let e : behind place (suc (length bs)) ≡ behind (behind place 1) (length bs) = omega arith in
    rw (append_assoc line text more) (next x place b y line (bs ++ cs) w (text ++ more) one (lists_append h (omega arith) (rw e at k)))

-- A RUN FROM FRESH goes on by an event: by the call that it asks for, or not at all
by_call : {X : Type 0} (o : Option Call) → (o ≡ none → X) → ((k : Call) → o ≡ some k → X) → X
by_call none f g = f refl
by_call (some k) f g = g k refl

pub one_call : (x : State) (place : ℕ) (b : List ℕ) (y : State) (line : List ℕ) (h : List Call) → Listed x place b y line → FromFresh h x
    → FromFresh (asked (call_of b) h) y
one_call x place b y line h l f =
    by_call (call_of b)
    (λ e. rw e (subst (FromFresh h) (sym (l.happened.bad e).0) f))
    (λ k e. rw e ((l.happened.is_call k e).from_fresh h f))

pub fresh_on : {x y : State} {place : ℕ} {bs : List (List ℕ)} {text : List ℕ} (h : List Call) → Lists x place bs y text → FromFresh h x
    → FromFresh (calls_of bs h) y
fresh_on h (done x place) f = f
fresh_on h (next x place b y line bs z text one k) f = fresh_on (asked (call_of b) h) k (one_call x place b y line h one f)

calls_append : (bs cs : List (List ℕ)) (h : List Call) → calls_of (bs ++ cs) h ≡ calls_of cs (calls_of bs h)
calls_append [] cs h = refl
calls_append (b ∷ bs) cs h = calls_append bs cs (asked (call_of b) h)

-- A RUN begins with nothing read, and goes on by a block behind whole events
pub begun : (x : State) → FromFresh [] x → Ran x [] x 1 []
begun x f =
    let e : events_of [] ≡ [] = no_piece event_size (omega arith) in
    record { lists = rw e (done x 1); from_fresh = rw e f; counts = rw e }

pub goes_on : (x : State) (read : List ℕ) (y : State) (place : ℕ) (text block : List ℕ) (z : State) (then : ℕ) (more : List ℕ) (k : ℕ)
    → length read ≡ event_size * k → Ran x read y place text → Lists y place (events_of block) z more → then ≡ behind place (length (events_of block))
    → Ran x (read ++ block) z then (text ++ more)
goes_on x read y place text block z then more k l r m e =
    let events = events_of read in
    let bs = events_of block in
    let s : events_of (read ++ block) ≡ events ++ bs = pieces_append event_size (omega arith) k read block l in
    record {
      lists = rw s (lists_append r.lists (omega arith) (rw r.counts at m));
      from_fresh = rw (s, calls_append events bs []) (fresh_on (calls_of events []) m r.from_fresh);
      counts = e ∙ rw (r.counts, s, length-append events bs) (omega arith);
    }

-- what was read so far is whole events, and led from x to y
pub record Whole (x y : State) (then : ℕ) : Type 0 where
  pub read : List ℕ
  pub lines : List ℕ
  pub count : ℕ
  pub whole : length read ≡ event_size * count
  pub ran : Ran x read y then lines

pub none_read : (x : State) → FromFresh [] x → Whole x x 1
none_read x f = record { read = []; lines = []; count = 0; whole = refl; ran = begun x f }

module _ (x y : State) (place : ℕ) (h : Whole x y place) (block : List ℕ) (z : State) (then : ℕ) (more : List ℕ) (m : Lists y place (events_of block) z more)
    (e : then ≡ behind place (length (events_of block))) where
  -- a block more
  block_on : Ran x (h.read ++ block) z then (h.lines ++ more)
  block_on = goes_on x h.read y place h.lines block z then more h.count h.whole h.ran m e

  pub ran_to : RanTo x z
  ran_to = (_, _, _, block_on)

  -- and that is a full one
  pub whole_on : (k : ℕ) → length block ≡ event_size * k → Whole x z then
  whole_on k l = record {
    read = h.read ++ block;
    lines = h.lines ++ more;
    count = h.count + k;
    whole = length-append h.read block ∙ omega (arith, h.whole);
    ran = block_on;
  }

-- A SHORT EVENT is refused with 13, and touches nothing; only the last of an input can be short (`input` proofs Cutting, `whole_but_last`)
pub short_is_refused : (x : State) (place : ℕ) (b : List ℕ) (y : State) (line : List ℕ) → length b < event_size → Listed x place b y line
    → (y ≡ x) × (line ≡ line_of place (refused bad_event))
short_is_refused x place b y line l h =
    let w = h.happened.bad (no_event b (λ e. omega arith)) in
    (w.0, h.says ∙ ap (line_of place) w.1)
