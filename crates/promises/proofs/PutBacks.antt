-- From fresh the count in a used slot is how many accepted confirmations and queries put its request back since its offer, look and a commit answer it,
-- and it has its bound. Assumes nothing.
use Prim.Native.Nat.{ℕ, ◌<◌, ◌≤◌}
use mathlib.Core.Path.{◌≡◌, sym, ap, subst}
use mathlib.Core.Logic.{◌⊎◌, inl, inr}
use mathlib.Core.Bool.{true}
use mathlib.Core.List.{List}
use Rattle.plain.specs.Queue.{id_of}
use Rattle.plain.specs.Steps.{Class, Answer, committed}
use Rattle.plain.specs.Site.{Call, look}
use Rattle.plain.specs.Sound.{All, OfRequest}
use Rattle.plain.specs.History.{after, put_backs}
use Rattle.plain.specs.Told.{most_backs}
use Rattle.plain.specs.Demands.{Shows}
use Rattle.plain.proofs.Tests.{no}
use Rattle.plain.proofs.PutBacks.{counted_back}
use Rattle.plain.proofs.Unlucky as U
use Rattle.slots.specs.Meaning.{slot_free, is_used, slot_at}
use Rattle.slots.specs.Rules.{Holds}
use Rattle.store.specs.Meaning.{queue_of, plain, plain_class}
use Rattle.store.specs.Calls.{State}
use Rattle.store.proofs.Meant.{held_queued}
use Rattle.promises.specs.Runs.{Happens, FromFresh}
use Rattle.promises.specs.Demands.{BackAtMost}
use Rattle.promises.proofs.Kept.{answers}
use Rattle.promises.proofs.Stands.{stands_fresh}

-- the run's queues are the history's
queue_there : {h : List Call} {y : State} → FromFresh h y → (c : ℕ) → c < 16 → ((after h).class c).queue ≡ queue_of y.site c
unfolding plain plain_class after
queue_there f c l = sym (ap (λ (k : Class). k.queue) ((stands_fresh f).same.class c l))

-- what holds of each queued request holds of each used slot
of_used : {h : List Call} {y : State} → FromFresh h y → (P : ℕ → ℕ → Type 0) → ((c : ℕ) → c < 16 → All (OfRequest (λ e. P (id_of e) e.backs)) ((after h).class c).queue)
    → (j : ℕ) → j < 128 → is_used (slot_at y.site.slots j) ≡ true → P (slot_at y.site.slots j).id (slot_at y.site.slots j).backs
of_used {h} {y} f P all j l u = go ((stands_fresh f).sound.laid.free_or_valid j l)
  where
    there : (c : ℕ) → c < 16 → All (OfRequest (λ e. P (id_of e) e.backs)) (queue_of y.site c)
    there c m = subst (All (OfRequest (λ e. P (id_of e) e.backs))) (queue_there f c m) (all c m)

    go : (slot_at y.site.slots j ≡ slot_free) ⊎ Holds (slot_at y.site.slots j) → P (slot_at y.site.slots j).id (slot_at y.site.slots j).backs
    go (inl e) = no _ u (ap is_used e)
    go (inr v) = held_queued y.site (stands_fresh f).sound.laid (OfRequest (λ e. P (id_of e) e.backs)) there j l v

pub counts_put_backs : {h : List Call} {y : State} → FromFresh h y → (j : ℕ) → j < 128 → is_used (slot_at y.site.slots j) ≡ true
    → (slot_at y.site.slots j).backs ≡ put_backs (slot_at y.site.slots j).id h
counts_put_backs {h} f = of_used f (λ i b. b ≡ put_backs i h) (counted_back h).of_queued

pub put_backs_shown : {h : List Call} {y z : State} {a : Answer} {i b : ℕ} → FromFresh h y → Happens y (look i) z a → Shows a b → b ≡ put_backs i h
put_backs_shown {h} {i = i} {b = b} f e s = (counted_back h).of_looked i b (subst (λ (a : Answer). Shows a b) (answers f e) s)

pub put_backs_committed : {h : List Call} {y z : State} {k : Call} {i n m j b : ℕ} → FromFresh h y → Happens y k z (committed i n m j b)
    → b ≡ put_backs i h
put_backs_committed {h} {k = k} {i = i} {n = n} {m = m} {j = j} {b = b} f e = (counted_back h).of_committed k i n m j b (sym (answers f e))

-- and how unlucky a request can be
pub back_at_most : {h : List Call} {y : State} → FromFresh h y → BackAtMost h y
back_at_most {h} f = record {
  in_slot = of_used f (λ i b. b ≤ most_backs i h) (U.back_at_most h).of_queued;
  looked = λ z a i b e s. (U.back_at_most h).of_looked i b (subst (λ (a : Answer). Shows a b) (answers f e) s);
  told = λ z k i n m j b e. (U.back_at_most h).of_committed k i n m j b (sym (answers f e));
}
