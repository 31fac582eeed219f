-- The answer of a plain call is a refusal exactly where the table gives a number, which is 3 or more, and then that number. Assumes nothing.
use Prim.Native.Nat.{ℕ, ◌<◌}
use native.Mathlib.Omega.{arith}
use mathlib.Core.Path.{◌≡◌, refl, sym, ap, ◌∙◌}
use mathlib.Core.Bool.{Bool, true, false}
use mathlib.Core.List.{List, [], ◌∷◌}
use borrow.Author.Tests.{eqb-false, ne_eqb}
use Rattle.plain.specs.Queue.{Item, booking, reading, is_confirmed, is_executed, id_is}
use Rattle.plain.specs.Steps.{Answer, refused, queued, stepped, executed, committed, waiting, value, to_do, unconfirmed, begun, entry}
use Rattle.plain.specs.Steps.{idle, advanced, tried, work_on, work_step, offer_step, confirm_on, confirm_step}
use Rattle.plain.specs.Site.{Site, Call, offer, work, confirm, read, look, query, call, act, accepts, refusal, tests, first}
use Rattle.plain.specs.Site.{confirmed_at, entry_at, class_of}
use Rattle.plain.specs.Sound.{All}
use Rattle.plain.proofs.Tests.{by_test, no}
use Rattle.plain.proofs.Table.{refused_same}
use Rattle.plain.proofs.Sites.{work_accepted}
use Rattle.promises.specs.Runs.{is_accepted, Accepted}
use Rattle.promises.specs.Demands.{Listed}

-- what answers tell
pub never_refused : {X : Type 0} (a : Answer) (n : ℕ) → Accepted a → a ≡ refused n → X
never_refused a n t e = no _ t (ap is_accepted e)

pub same_number : (m n : ℕ) → refused m ≡ refused n → m ≡ n
same_number m n e = cc

pub refusal_in : (a : Answer) → is_accepted a ≡ false → (n : ℕ) × (a ≡ refused n)
refusal_in (refused n) f = (n, refl)
refusal_in (queued i c p s) f = no _ refl f
refusal_in (stepped i d) f = no _ refl f
refusal_in (executed i) f = no _ refl f
refusal_in (committed i n d s b) f = no _ refl f
refusal_in (waiting i w b) f = no _ refl f
refusal_in (value x) f = no _ refl f
refusal_in (to_do w b) f = no _ refl f
refusal_in (unconfirmed b) f = no _ refl f
refusal_in (begun p) f = no _ refl f
refusal_in (entry p l) f = no _ refl f

-- an accepted call's answer is no refusal
work_answers : (q : List Item) (base w : List ℕ) → idle q ≡ false → Accepted (work_on q base w).answer
work_answers [] base w f = no _ refl f
work_answers (reading p b ∷ rest) base w f = refl
work_answers (booking e ∷ rest) base w f =
    by_test (is_executed (booking (advanced e (tried e w))))
    (λ x. by_test (is_confirmed (booking e)) (λ y. rw (x, y)) (λ y. rw (x, y)))
    (λ x. rw x)

confirm_answers : (i n : ℕ) (q : List Item) (base w : List ℕ) → Accepted (confirm_on i n q base w).answer
confirm_answers i n [] base w = refl
confirm_answers i n (reading p b ∷ rest) base w = refl
confirm_answers i n (booking x ∷ rest) base w =
    by_test (id_is i (booking x)) (λ y. by_test (is_executed (booking x)) (λ e. rw (y, e)) (λ e. rw (y, e))) (λ y. rw y)

pub accepted_answers : (s : Site) (k : Call) → accepts s k ≡ true → Accepted (call s k).answer
unfolding call act
accepted_answers s k a = rw a (go k a)
  where
    go : (k : Call) → accepts s k ≡ true → Accepted (act s k).answer
    go (offer b) a = unfold offer_step in refl
    go (work c) a = unfold work_step in (work_answers (s.class c).queue (s.class c).committed (s.class c).working (work_accepted s c a).1)
    go (confirm i n) a =
        let k = s.class (class_of s i) in unfold confirm_step in (confirm_answers i n k.queue k.committed k.working)
    go (read c k) a = refl
    go (look i) a = by_test (confirmed_at (entry_at s i)) (λ t. rw t) (λ f. rw f)
    go (query m) a = refl

-- and a refused call's is one
pub refused_answers : (s : Site) (k : Call) → accepts s k ≡ false → (call s k).answer ≡ refused (refusal s k)
refused_answers s k f = rw (refused_same s k f)

pub accepts_is : (s : Site) (k : Call) → is_accepted (call s k).answer ≡ accepts s k
accepts_is s k =
    by_test (accepts s k) (λ t. accepted_answers s k t ∙ sym t) (λ f. ap is_accepted (refused_answers s k f) ∙ sym f)

-- the number of a refusal is the table's
pub answer_number : (s : Site) (k : Call) (n : ℕ) → (call s k).answer ≡ refused n → (0 < n) × (refusal s k ≡ n)
answer_number s k n e =
    by_test (accepts s k)
    (λ t. never_refused (call s k).answer n (accepted_answers s k t) e)
    (λ f. let z : refusal s k ≡ n = same_number (refusal s k) n (sym (refused_answers s k f) ∙ e) in
    let ne : refusal s k ≡ 0 → ⊥ = eqb-false (refusal s k) 0 f in
    (omega arith, z))

pub number_answer : (s : Site) (k : Call) (n : ℕ) → 0 < n → refusal s k ≡ n → (call s k).answer ≡ refused n
number_answer s k n l e =
    refused_answers s k (ne_eqb (refusal s k) 0 (λ z. omega arith)) ∙ ap refused e

-- the table's numbers
first_listed : (ts : List (Bool × ℕ)) → All (λ t. Listed t.1) ts → 0 < first ts → Listed (first ts)
first_listed [] h = λ l. absurd (omega arith)
first_listed (t ∷ ts) h = by_test t.0 (λ y. rw y (λ l. h.0)) (λ f. rw f (first_listed ts h.1))

all_listed : (s : Site) (k : Call) → All (λ t. Listed t.1) (tests s k)
all_listed s (offer b) = omega arith
all_listed s (work c) = omega arith
all_listed s (confirm i n) = omega arith
all_listed s (read c k) = omega arith
all_listed s (look i) = omega arith
all_listed s (query m) = omega arith

pub in_table : (s : Site) (k : Call) → 0 < refusal s k → Listed (refusal s k)
unfolding refusal
in_table s k = first_listed (tests s k) (all_listed s k)
