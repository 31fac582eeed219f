-- Laws of queues: what holds of every one, tests, counts, order, and the confirmed part, after an offer, a removal and a move. Assumes nothing.
use Prim.Native.Nat.{ℕ, ◌+◌, ◌≤◌}
use native.Mathlib.Omega.{arith}
use mathlib.Core.Path.{◌≡◌, refl, sym, ap, ◌∙◌, subst}
use mathlib.Core.Logic.{inl, inr}
use mathlib.Core.Bool.{Bool, true, false, cond}
use mathlib.Core.Option.{some}
use mathlib.Core.List.{List, [], ◌∷◌, ◌++◌, append_assoc}
use lib.ListN.{length}
use borrow.Author.Tests.{eqb-true}
use Rattle.plain.specs.Ops.{Request}
use Rattle.plain.specs.Queue.{Entry, Item, booking, reading, id_of, id_is, is_reading, is_confirmed, line, asks, asked, any, count, first_of, drop_of}
use Rattle.plain.specs.Queue.{confirmed_part, before_waiting}
use Rattle.plain.specs.Site.{confirmed_at}
use Rattle.plain.specs.Sound.{All, OfRequest, Waiting, Follows, InOrder, Belongs, Untouched, Working}
use Rattle.plain.proofs.Tests.{by_test, no, or_left, or_right}
use Rattle.plain.proofs.Items.{request_of_lem, follows_confirmed, waiting_unconfirmed, follows_line, follows_weaken, at_head}

-- WHAT HOLDS OF EVERY ONE
pub all_append : (P : Item → Type 0) (q : List Item) (x : Item) → P x → All P q → All P (q ++ (x ∷ []))
all_append P [] x p h = (p, tt)
all_append P (y ∷ q) x p h = (h.0, all_append P q x p h.1)

pub all_drop : (P : Item → Type 0) (f : Item → Bool) (q : List Item) → All P q → All P (drop_of f q)
all_drop P f [] h = tt
all_drop P f (x ∷ q) h = by_test (f x) (λ t. rw t h.1) (λ g. rw g (h.0, all_drop P f q h.1))

pub all_before : (P : Item → Type 0) (x : Item) (q : List Item) → P x → All P q → All P (before_waiting x q)
all_before P x [] p h = (p, tt)
all_before P x (y ∷ q) p h =
    by_test (is_confirmed y) (λ t. rw t (h.0, all_before P x q p h.1)) (λ f. rw f (p, h))

pub all_first : (P : Item → Type 0) (f : Item → Bool) (q : List Item) (x : Item) → first_of f q ≡ some x → All P q → P x
all_first P f [] x s h = let z : ◌≡◌ {A = ℕ} 0 1 = cc in absurd (omega arith)
all_first P f (y ∷ q) x s h =
    by_test (f y)
    (λ t. subst P (cc (rw t at s)) h.0)
    (λ g. all_first P f q x (rw g at s) h.1)

pub all_map : {A : Type 0} (P Q : A → Type 0) → ((x : A) → P x → Q x) → (q : List A) → All P q → All Q q
all_map P Q f [] h = tt
all_map P Q f (x ∷ q) h = (f x h.0, all_map P Q f q h.1)

-- two facts of every request of a queue, a third
pub all_requests : (P Q R : Entry → Type 0) → ((e : Entry) → P e → Q e → R e) → (q : List Item) → All (OfRequest P) q → All (OfRequest Q) q → All (OfRequest R) q
all_requests P Q R f [] h g = tt
all_requests P Q R f (booking e ∷ q) h g = (f e h.0 g.0, all_requests P Q R f q h.1 g.1)
all_requests P Q R f (reading p b ∷ q) h g = (tt, all_requests P Q R f q h.1 g.1)

pub each_request : (P : Item → Type 0) (R : Entry → Type 0) → ((e : Entry) → P (booking e) → R e) → (q : List Item) → All P q → All (OfRequest R) q
each_request P R f [] h = tt
each_request P R f (booking e ∷ q) h = (f e h.0, each_request P R f q h.1)
each_request P R f (reading p b ∷ q) h = (tt, each_request P R f q h.1)

-- the requests of two queues
pub asked_append : (p q : List Item) → asked (p ++ q) ≡ asked p ++ asked q
asked_append [] q = refl
asked_append (x ∷ p) q =
    ap (λ (l : List Request). asks x ++ l) (asked_append p q) ∙ sym (append_assoc (asks x) (asked p) (asked q))

-- a queue's requests and its entries of queries
pub asked_length : (q : List Item) → length (asked q) + count is_reading q ≡ length q
asked_length [] = refl
asked_length (booking e ∷ q) = let r = asked_length q in omega arith
asked_length (reading p b ∷ q) = let r = asked_length q in omega arith

-- TESTS. The first that passes, if one does
pub find : (f : Item → Bool) (q : List Item) → any f q ≡ true → (x : Item) × (first_of f q ≡ some x)
find f [] h = let z : ◌≡◌ {A = ℕ} 0 1 = cc in absurd (omega arith)
find f (x ∷ q) h =
    by_test (f x)
    (λ t. (x, rw t))
    (λ g. let r = find f q (rw g at h) in (r.0, rw g r.1))

pub first_passes : (f : Item → Bool) (q : List Item) (x : Item) → first_of f q ≡ some x → f x ≡ true
first_passes f [] x s = let z : ◌≡◌ {A = ℕ} 0 1 = cc in absurd (omega arith)
first_passes f (y ∷ q) x s =
    by_test (f y)
    (λ t. let p : y ≡ x = cc (rw t at s) in rw (← p) t)
    (λ g. first_passes f q x (rw g at s))

-- the request under an id
pub found_request : (i : ℕ) (q : List Item) (x : Item) → first_of (id_is i) q ≡ some x → (e : Entry) × (first_of (id_is i) q ≡ some (booking e)) × (x ≡ booking e)
found_request i q x s = let r = request_of_lem i x (first_passes (id_is i) q x s) in (r.0, s ∙ ap some r.1, r.1)

pub find_request : (i : ℕ) (q : List Item) → any (id_is i) q ≡ true → (e : Entry) × (first_of (id_is i) q ≡ some (booking e)) × (id_of e ≡ i)
find_request i q h =
    let x = find (id_is i) q h in
    let e = found_request i q x.0 x.1 in
    (e.0, e.1, eqb-true (id_of e.0) i (first_passes (id_is i) q (booking e.0) e.1))

pub none_passes : (f : Item → Bool) (q : List Item) → any f q ≡ false → All (λ x. f x ≡ false) q
none_passes f [] u = tt
none_passes f (x ∷ q) u = (or_left (f x) (any f q) u, none_passes f q (or_right (f x) (any f q) u))

pub first_any : (f g : Item → Bool) (q : List Item) (x : Item) → first_of f q ≡ some x → g x ≡ true → any g q ≡ true
first_any f g q x s h =
    by_test (any g q) (λ t. t) (λ u. no _ h (all_first (λ y. g y ≡ false) f q x s (none_passes g q u)))

-- the first that passes, with one more behind, with one before the waiting, and without the first that passes another test
pub first_append : (f : Item → Bool) (q : List Item) (x y : Item) → first_of f q ≡ some x → first_of f (q ++ (y ∷ [])) ≡ some x
first_append f [] x y s = let z : ◌≡◌ {A = ℕ} 0 1 = cc in absurd (omega arith)
first_append f (z ∷ q) x y s = by_test (f z) (λ t. rw t (rw t at s)) (λ g. rw g (first_append f q x y (rw g at s)))

pub first_last : (f : Item → Bool) (q : List Item) (x : Item) → any f q ≡ false → f x ≡ true → first_of f (q ++ (x ∷ [])) ≡ some x
first_last f [] x n p = rw p
first_last f (y ∷ q) x n p = rw (or_left (f y) (any f q) n) (first_last f q x (or_right (f y) (any f q) n) p)

pub first_put : (f : Item → Bool) (x : Item) (q : List Item) → f x ≡ true → any f q ≡ false → first_of f (before_waiting x q) ≡ some x
first_put f x [] p n = rw p
first_put f x (y ∷ q) p n =
    by_test (is_confirmed y)
    (λ t. rw (t, or_left (f y) (any f q) n) (first_put f x q p (or_right (f y) (any f q) n)))
    (λ g. rw (g, p))

pub first_before : (f : Item → Bool) (x : Item) (q : List Item) → f x ≡ false → first_of f (before_waiting x q) ≡ first_of f q
first_before f x [] n = rw n
first_before f x (y ∷ q) n =
    by_test (is_confirmed y) (λ t. rw t (ap (cond (f y) (some y)) (first_before f x q n))) (λ g. rw (g, n))

pub first_drop : (f g : Item → Bool) (q : List Item) (x : Item) → first_of g q ≡ some x → f x ≡ false → first_of f (drop_of g q) ≡ first_of f q
first_drop f g [] x s n = refl
first_drop f g (y ∷ q) x s n =
    by_test (g y)
    (λ t. let p : y ≡ x = cc (rw t at s) in rw (t, p, n))
    (λ u. rw u (ap (cond (f y) (some y)) (first_drop f g q x (rw u at s) n)))

-- COUNTS
abbrev pub one : (Item → Bool) → Item → ℕ
one f x = cond (f x) 1 0

pub one_same : (f : Item → Bool) (x y : Item) → f x ≡ f y → one f x ≡ one f y
one_same f x y e = rw e

pub one_le : (f : Item → Bool) (x : Item) → one f x ≤ 1
one_le f x = by_test (f x) (λ t. rw t (omega arith)) (λ g. rw g (omega arith))

pub count_append : (f : Item → Bool) (q : List Item) (x : Item) → count f (q ++ (x ∷ [])) ≡ count f q + one f x
count_append f [] x = omega arith
count_append f (y ∷ q) x = let r = count_append f q x in omega arith

pub count_before : (f : Item → Bool) (x : Item) (q : List Item) → count f (before_waiting x q) ≡ one f x + count f q
count_before f x [] = refl
count_before f x (y ∷ q) =
    by_test (is_confirmed y) (λ t. let r = count_before f x q in rw t (omega arith)) (λ g. rw g)

pub count_drop : (f g : Item → Bool) (q : List Item) (x : Item) → first_of g q ≡ some x → count f (drop_of g q) + one f x ≡ count f q
count_drop f g [] x s = let z : ◌≡◌ {A = ℕ} 0 1 = cc in absurd (omega arith)
count_drop f g (y ∷ q) x s =
    by_test (g y)
    (λ t. let p : y ≡ x = cc (rw t at s) in rw (t, p) (omega arith))
    (λ u. let r = count_drop f g q x (rw u at s) in rw u (omega arith))

pub count_some : (f : Item → Bool) (q : List Item) → any f q ≡ true → 1 ≤ count f q
count_some f [] h = let z : ◌≡◌ {A = ℕ} 0 1 = cc in absurd (omega arith)
count_some f (x ∷ q) h =
    by_test (f x) (λ t. rw t (omega arith)) (λ g. let r = count_some f q (rw g at h) in rw g (omega arith))

pub count_none : (f : Item → Bool) (q : List Item) → All (λ x. f x ≡ false) q → count f q ≡ 0
count_none f [] h = refl
count_none f (x ∷ q) h = let r = count_none f q h.1 in rw h.0 (omega arith)

pub count_confirmed : (q : List Item) → count is_confirmed q ≡ length (confirmed_part q)
count_confirmed [] = refl
count_confirmed (x ∷ q) =
    let r = count_confirmed q in by_test (is_confirmed x) (λ t. rw t (omega arith)) (λ f. rw f (omega arith))

-- ORDER
pub waiting_order : (m top : ℕ) (q : List Item) → All Waiting q → InOrder m top q
waiting_order m top [] h = tt
waiting_order m top (x ∷ q) h = inr h

pub order_append : (m top : ℕ) (q : List Item) (x : Item) → Waiting x → InOrder m top q → InOrder m top (q ++ (x ∷ []))
order_append m top [] x z h = inr (z, tt)
order_append m top (y ∷ q) x z (inl h) = inl (h.0, h.1, order_append (line y) top q x z h.2)
order_append m top (y ∷ q) x z (inr h) = inr (h.0, all_append Waiting q x z h.1)

pub order_weaken : (m m' top : ℕ) (q : List Item) → m' ≤ m → InOrder m top q → InOrder m' top q
order_weaken m m' top [] l h = tt
order_weaken m m' top (x ∷ q) l (inl h) = inl (follows_weaken m m' x l h.0, h.1, h.2)
order_weaken m m' top (x ∷ q) l (inr h) = inr h

pub order_tail : (m top : ℕ) (x : Item) (q : List Item) → InOrder m top (x ∷ q) → InOrder m top q
order_tail m top x q (inl h) = order_weaken (line x) m top q (follows_line m x h.0) h.2
order_tail m top x q (inr h) = waiting_order m top q h.1

pub order_drop : (m top : ℕ) (f : Item → Bool) (q : List Item) → InOrder m top q → InOrder m top (drop_of f q)
order_drop m top f [] h = tt
order_drop m top f (x ∷ q) (inl h) =
    by_test (f x)
    (λ t. rw t (order_tail m top x q (inl h)))
    (λ g. rw g (inl (h.0, h.1, order_drop (line x) top f q h.2)))
order_drop m top f (x ∷ q) (inr h) =
    by_test (f x)
    (λ t. rw t (waiting_order m top q h.1))
    (λ g. rw g (inr (h.0, all_drop Waiting f q h.1)))

pub order_raise : (m top top' : ℕ) (q : List Item) → top ≤ top' → InOrder m top q → InOrder m top' q
order_raise m top top' [] l h = tt
order_raise m top top' (x ∷ q) l (inl h) = inl (h.0, omega arith, order_raise (line x) top top' q l h.2)
order_raise m top top' (x ∷ q) l (inr h) = inr h

-- x, which may follow all that is there, before the first waiting one
pub order_before : (m top n : ℕ) (x : Item) (q : List Item) → Follows top x → line x ≤ n → m ≤ top → top ≤ n → InOrder m top q
    → InOrder m n (before_waiting x q)
order_before m top n x [] f e l t h = inl (follows_weaken top m x l f, e, tt)
order_before m top n x (y ∷ q) f e l t (inl h) =
    rw (follows_confirmed m y h.0) (inl (h.0, omega arith, order_before (line y) top n x q f e h.1 t h.2))
order_before m top n x (y ∷ q) f e l t (inr h) =
    rw (waiting_unconfirmed y h.0) (inl (follows_weaken top m x l f, e, inr h))

-- behind a waiting one all wait
pub waits_all : (m top : ℕ) (x : Item) (q : List Item) → InOrder m top (x ∷ q) → is_confirmed x ≡ false → All Waiting q
waits_all m top x q (inl h) f = no _ (follows_confirmed m x h.0) f
waits_all m top x q (inr h) f = h.1

pub waits_head : (m top : ℕ) (x : Item) (q : List Item) → InOrder m top (x ∷ q) → is_confirmed x ≡ false → Waiting x
waits_head m top x q (inl h) f = no _ (follows_confirmed m x h.0) f
waits_head m top x q (inr h) f = h.0

-- THE CONFIRMED PART
pub none_confirmed : (q : List Item) → All Waiting q → confirmed_part q ≡ []
none_confirmed [] h = refl
none_confirmed (x ∷ q) h = rw (waiting_unconfirmed x h.0) (none_confirmed q h.1)

pub part_append : (q : List Item) (x : Item) → Waiting x → confirmed_part (q ++ (x ∷ [])) ≡ confirmed_part q
part_append [] x z = rw (waiting_unconfirmed x z)
part_append (y ∷ q) x z = rw (part_append q x z)

pub part_drop : (f : Item → Bool) (q : List Item) → confirmed_at (first_of f q) ≡ false → confirmed_part (drop_of f q) ≡ confirmed_part q
part_drop f [] h = refl
part_drop f (x ∷ q) h =
    by_test (f x)
    (λ t. rw (t, (rw t at h)))
    (λ g. rw (g, part_drop f q (rw g at h)))

pub part_before : (m top : ℕ) (x : Item) (q : List Item) → is_confirmed x ≡ true → InOrder m top q
    → confirmed_part (before_waiting x q) ≡ confirmed_part q ++ (x ∷ [])
part_before m top x [] l h = rw l
part_before m top x (y ∷ q) l (inl h) =
    rw (follows_confirmed m y h.0, follows_confirmed m y h.0, part_before (line y) top x q l h.2)
part_before m top x (y ∷ q) l (inr h) =
    rw (waiting_unconfirmed y h.0, waiting_unconfirmed y h.0, l, none_confirmed q h.1)

-- THE HEAD of what is left when the cells are the committed ones
pub next_head : (c : ℕ) (q : List Item) (base : List ℕ) → All Untouched q → All (Belongs c) q → Working q base base
next_head c [] base u b = refl
next_head c (x ∷ q) base u b = (at_head c x base u.0 b.0, u.1)
