-- Every call on a sound site keeps 64 cells of 32 bits in each class, committed and working. Assumes nothing.
use Prim.Native.Nat.{ℕ, zero, suc, ◌+◌, ◌-◌, ◌%◌, ◌<◌}
use native.Mathlib.Omega.{arith}
use mathlib.Core.Path.{◌≡◌, refl, ◌∙◌}
use mathlib.Core.Bool.{true}
use mathlib.Core.Option.{Option, none, some}
use mathlib.Core.List.{List, [], ◌∷◌, map}
use lib.Dec.{ltb, leb, eqb}
use lib.ListN.{get_or, set, length-set}
use borrow.Author.Tests.{ltb-true}
use Rattle.plain.specs.Sizes.{word}
use Rattle.plain.specs.Ops.{Op, put, add, need, move, carry, cell, reported, leaves, op_rules, op_ok}
use Rattle.plain.specs.Record.{request_in}
use Rattle.plain.specs.Queue.{Entry, Item, booking, reading, ops_of, is_executed, is_confirmed, id_is}
use Rattle.plain.specs.Steps.{Class, tried, advanced, work_on, work_step, offer_step, confirm_on, confirm_step, query_on, query_step}
use Rattle.plain.specs.Site.{Site, Call, offer, work, confirm, read, look, query, call, act, accepts, fresh, class_of, in_class, begins, named, free_place}
use Rattle.plain.specs.Steps.{Did}
use Rattle.plain.specs.Sound.{All, Belongs, SoundSite, Sized, SizedSite}
use Rattle.plain.proofs.Tests.{by_test, all_true}
use Rattle.plain.proofs.Items.{is_valid}
use Rattle.plain.proofs.Sites.{work_accepted}

-- what holds of every one of a list, at a place and after a store
all_at : {A : Type 0} (P : A → Type 0) (l : List A) (k : ℕ) (d : A) → P d → All P l → P (get_or l k d)
all_at P [] k d p h = p
all_at P (x ∷ l) zero d p h = h.0
all_at P (x ∷ l) (suc k) d p h = all_at P l k d p h.1

all_set : (P : ℕ → Type 0) (l : List ℕ) (k a : ℕ) → P a → All P l → All P (set l k a)
all_set P [] k a p h = tt
all_set P (x ∷ l) zero a p h = (p, h.1)
all_set P (x ∷ l) (suc k) a p h = (h.0, all_set P l k a p h.1)

stored : (l : List ℕ) (k a : ℕ) → a < word → Sized l → Sized (set l k a)
stored l k a p h = (length-set l k a ∙ h.0, all_set (λ x. x < word) l k a p h.1)

small : (l : List ℕ) (k : ℕ) → Sized l → cell l k < word
small l k h = all_at (λ x. x < word) l k 0 (omega arith) h.1

-- an operation's cells, where it does not decline
abbrev SizedIf : Option (List ℕ) → Type 0
SizedIf none = Unit
SizedIf (some l) = Sized l

carry_sized : (o : Op) (l : List ℕ) → op_ok o ≡ true → Sized l → SizedIf (carry o l)
unfolding carry op_ok
carry_sized (put k a) l v h = stored l k a (ltb-true _ _ (all_true (op_rules (put k a)) v).1.0) h
carry_sized (add k a) l v h = stored l k ((cell l k + a) % word) (omega arith) h
carry_sized (need k a) l v h = by_test (leb a (cell l k)) (λ t. rw t h) (λ f. rw f tt)
carry_sized (move k j a) l v h =
    by_test (leb a (cell l k))
    (λ t. by_test (ltb (cell l j + a) word)
    (λ u. rw (t, u) (stored (set l k (cell l k - a)) j (cell l j + a) (ltb-true _ _ u) (stored l k (cell l k - a) (omega (arith, small l k h)) h)))
    (λ f. rw (t, f) tt))
    (λ f. rw f tt)

-- the head's next operation
next_ok : (os : List Op) (k : ℕ) → All (λ b. b ≡ true) (map op_ok os) → op_ok (get_or os k (put 0 0)) ≡ true
next_ok [] k h = unfold op_ok in refl
next_ok (o ∷ os) zero h = h.0
next_ok (o ∷ os) (suc k) h = next_ok os k h.1

tried_sized : (c : ℕ) (e : Entry) (base w : List ℕ) → Belongs c (booking e) → Sized base → Sized w → Sized (leaves (tried e w) base)
tried_sized c e base w b p q =
    by_test (eqb e.mark 0)
    (λ t. rw t (go (carry o w) (carry_sized o w (next_ok (ops_of e) e.done (is_valid e.request b.valid).ops) q)))
    (λ f. rw f p)
  where
    o : Op
    o = get_or (ops_of e) e.done (put 0 0)

    go : (m : Option (List ℕ)) → SizedIf m → Sized (leaves (reported (suc e.done) m) base)
    go none h = p
    go (some l) h = h

-- a class's cells
abbrev SizedClass : Class → Type 0
SizedClass k = Sized k.committed × Sized k.working

work_sized : (c : ℕ) (k : Class) → All (Belongs c) k.queue → SizedClass k → SizedClass (work_step k).class
unfolding work_step
work_sized c k b h = go k.queue b
  where
    go : (q : List Item) → All (Belongs c) q → SizedClass (work_on q k.committed k.working).class
    go [] b = h
    go (reading p n ∷ rest) b = h
    go (booking e ∷ rest) b =
        let t = tried_sized c e k.committed k.working b.0 h.0 h.1 in
        by_test (is_executed (booking (advanced e (tried e k.working))))
        (λ x. by_test (is_confirmed (booking e)) (λ y. rw (x, y) (t, t)) (λ y. rw (x, y) (h.0, t)))
        (λ x. rw x (h.0, t))

confirm_sized : (i n : ℕ) (k : Class) → SizedClass k → SizedClass (confirm_step i n k).class
unfolding confirm_step
confirm_sized i n k h = go k.queue
  where
    go : (q : List Item) → SizedClass (confirm_on i n q k.committed k.working).class
    go [] = h
    go (x ∷ rest) =
        by_test (id_is i x)
        (λ y. by_test (is_executed x) (λ e. rw (y, e) (h.1, h.1)) (λ e. rw (y, e) h))
        (λ y. by_test (is_confirmed x) (λ t. rw (y, t) h) (λ t. rw (y, t) (h.0, h.0)))

query_sized : (p b : ℕ) (k : Class) → SizedClass k → SizedClass (query_step p b k)
unfolding query_step
query_sized p b k h = go k.queue
  where
    go : (q : List Item) → SizedClass (query_on (reading p b) q k.committed k.working)
    go [] = h
    go (x ∷ rest) = by_test (is_confirmed x) (λ t. rw t h) (λ t. rw t (h.0, h.0))

-- the site's
sized_of : (s : Site) → ((c : ℕ) → SizedClass (s.class c)) → SizedSite s
sized_of s h = record { committed = λ c. (h c).0; working = λ c. (h c).1 }

one_sized : (s : Site) (c : ℕ) (new : Option ℕ) (d : Did) → SizedSite s → SizedClass d.class → SizedSite (in_class s c new d).site
one_sized s c new d z h =
    sized_of (in_class s c new d).site (λ e. by_test (eqb e c) (λ t. rw t h) (λ f. rw f (z.committed e, z.working e)))

pub call_sized : (s : Site) (k : Call) → SoundSite s → SizedSite s → SizedSite (call s k).site
unfolding call act offer_step
call_sized s k w z = by_test (accepts s k) (λ t. rw t (go k t)) (λ f. rw f z)
  where
    at : (c : ℕ) → SizedClass (s.class c)
    at c = (z.committed c, z.working c)

    go : (k : Call) → accepts s k ≡ true → SizedSite (act s k).site
    go (offer b) a = one_sized s (request_in b).class none (offer_step (request_in b) _ (s.class (request_in b).class)) z (at (request_in b).class)
    go (work c) a =
        one_sized s c none (work_step (s.class c)) z (work_sized c (s.class c) (w.each c (work_accepted s c a).0).belong (at c))
    go (confirm i n) a =
        one_sized s (class_of s i) (some i) (confirm_step i n (s.class (class_of s i))) z (confirm_sized i n (s.class (class_of s i)) (at (class_of s i)))
    go (read c k) a = z
    go (look i) a = z
    go (query m) a =
        sized_of (begins s m) (λ c. by_test (named m c) (λ t. rw t (query_sized (free_place s) s.confirmations (s.class c) (at c))) (λ f. rw f (at c)))

pub fresh_sized : SizedSite fresh
unfolding fresh
fresh_sized = sized_of fresh (λ c. (zeros_sized, zeros_sized))
  where
    zeros_sized : Sized (fresh.class 0).committed
    zeros_sized = (refl, all_zero 64)
      where
        all_zero : (n : ℕ) → All (λ x. x < word) (lib.ListN.replicate n 0)
        all_zero zero = tt
        all_zero (suc n) = (omega arith, all_zero n)
