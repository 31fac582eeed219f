-- What is known of a request that may be confirmed: where it stands, that it may commit, and that it may move. Assumes nothing.
use Prim.Native.Nat.{ℕ, ◌+◌, ◌*◌, ◌<◌, ◌≤◌}
use native.Mathlib.Omega.{arith}
use mathlib.Core.Path.{◌≡◌, refl, ap, subst, sym, ◌∙◌}
use mathlib.Core.Logic.{◌⊎◌, inl, inr}
use mathlib.Core.List.{List}
use lib.ListN.{get_or, set}
use Rattle.plain.specs.Sizes.{most_ops, most_w}
use Rattle.plain.specs.Steps as K
use Rattle.plain.specs.Site as S
use Rattle.slots.specs.Meaning.{slot_at}
use Rattle.store.specs.Store.{Store, Shaped}
use Rattle.store.specs.Meaning.{len_of}
use Rattle.store.specs.Calls.{State, Did}
use Rattle.store.specs.Steps.{head_slot, numbered_store, sum_with, with_sums, PlaceOf, FirstWaiting, Backable, Commitable, CommitDone, PutBack, Forward}
use Rattle.store.proofs.Confirming.{class_here, held, stands_once, queue_some, may_be_put_back, may_commit, committed_now}
use Rattle.store.proofs.Confirmed.{Movable, forward, Goes, itself, behind_confirmed, head_put_back}
use Rattle.store.proofs.Counting.{countable}
use Rattle.store.proofs.Ending.{sum_bounded}
use Rattle.store.proofs.Work.{laid_sums, work_left}
use Rattle.site.specs.Held.{InQueue, Confirmable, HeadDone}

-- a step forward goes by no sum
resummed : (a t : Store) (z : List ℕ) (c i n from to : ℕ) → Forward a c i n from to t → Forward (with_sums a z) c i n from to (with_sums t z)
resummed a t z c i n from to d = record {
  slots = d.slots;
  queue = d.queue;
  lens = d.lens;
  map = d.map;
  confirmations = d.confirmations;
  commits = d.commits;
  kept = d.kept;
  queries = d.queries;
  begun = d.begun;
  sums = refl;
}

module _ (x : State) (w : Shaped x.site) (i : ℕ) (f : Confirmable x i) where
  abbrev c : ℕ
  c = (slot_at x.site.slots i).class

  abbrev id : ℕ
  id = (slot_at x.site.slots i).id

  abbrev n : ℕ
  n = x.site.confirmations + 1

  pub small_class : c < 16
  small_class = (class_here x w f.right f.sound id n f.more refl i f.small refl f.used).1

  -- the sum of its class is small, and so is the count of its operations; no more of them are done
  pub small_sum : (get_or x.site.sums c 0 ≤ most_w) × ((slot_at x.site.slots i).count ≤ most_ops)
  small_sum = (
    sum_bounded x w f.right f.sound c small_class,
    (held x w f.right f.sound id n f.more refl i f.small refl f.used f.waits).count,
  )

  pub done_within : (from : ℕ) → PlaceOf x.site c i from → (slot_at x.site.slots i).done ≤ (slot_at x.site.slots i).count
  done_within from p =
      subst (λ (j : ℕ). j < 128 → (slot_at x.site.slots j).done ≤ (slot_at x.site.slots j).count) p.is
      ((countable x w f.right f.sound c small_class).within from p.within) f.small

  pub some_queued : 0 < len_of x.site c
  some_queued = queue_some x w f.right f.sound id n f.more refl i f.small refl f.used f.waits

  pub in_queue : InQueue x.site c i
  in_queue = record {
    laid = f.sound.laid;
    class = small_class;
    stands = omega (arith, stands_once x w f.right f.sound id n f.more refl i f.small refl f.used f.waits);
  }

  -- where all wait, the head is a request that waits
  pub head_waits : (to : ℕ) → FirstWaiting x.site c to → to ≡ 0
      → (head_slot x.site c < 128) × ((slot_at x.site.slots (head_slot x.site c)).number ≡ 0)
  head_waits to q z =
      let a : 136 * c + to ≡ 136 * c = omega arith in
      rw a at (q.waits (omega (arith, some_queued)))

  pub may_back : x.site.begun ≤ 4294967295 → head_slot x.site c < 128 → Backable x.site x.committed x.working c
  may_back b m = may_be_put_back x w f.right f.sound id n (omega (arith, f.more)) (omega arith) c small_class some_queued m

  pub movable : (from to : ℕ) → PlaceOf x.site c i from → FirstWaiting x.site c to → Movable x id n i from to
  movable from to p q = record {
    more = f.more;
    next = refl;
    small = f.small;
    is = refl;
    positive = f.used;
    waits = f.waits;
    place = p;
    first = q;
  }

  -- the executed head, as the number is stored and as the commit leaves the site
  module _ (h : HeadDone x.site i) (s₁ : Store) (e : s₁ ≡ numbered_store x.site i n) where
    pub commits : Commitable s₁ x.committed x.working c
    commits = subst (λ (z : Store). Commitable z x.committed x.working c) (sym e)
        (may_commit x w f.right f.sound id n f.more refl i f.small refl f.used f.waits h.0)

    pub committed : (t : Store) (base' : List ℕ) → CommitDone s₁ x.committed x.working c t base'
        → Did x (S.confirm id n) (record { site = t; committed = base'; working = x.working }) (K.committed id n (slot_at x.site.slots i).mark i (slot_at x.site.slots i).backs)
    committed t base' d =
        committed_now x w f.right f.sound id n f.more refl i f.small refl f.used f.waits h.0 h.1 t base'
        (subst (λ (z : Store). CommitDone z x.committed x.working c t base') e d)

  -- the request moves: another head, which waits, is put back; or the head stays
  module _ (from to : ℕ) (p : PlaceOf x.site c i from) (q : FirstWaiting x.site c to) where
    abbrev hd : ℕ
    hd = head_slot x.site (slot_at x.site.slots i).class

    abbrev pub Gone : Store → List ℕ → ℕ → Type 0
    Gone t wrk' back = Goes x w f.right f.sound (slot_at x.site.slots i).id (x.site.confirmations + 1) i from to (movable from to p q) t wrk' back

    -- from where it stands to where it comes to stand, in its class's queue
    pub within : (i < 128) × (c < 16) × (to ≤ from) × (from < 136)
    within = (
      f.small,
      small_class,
      forward x w f.right f.sound id n i from to (movable from to p q),
      omega (arith, p.within, f.sound.laid.not_longer_than_136 c small_class),
    )

    put_back_gone : (hd ≡ i → ⊥) → to ≡ 0 → (a : Store) (wrk' : List ℕ) → PutBack x.site x.committed x.working c a wrk'
        → (t : Store) → Forward a c i (a.confirmations + 1) from to t → Gone t wrk' (slot_at x.site.slots hd).id
    put_back_gone ne z a wrk' b t d =
        head_put_back x w f.right f.sound id n i from to (movable from to p q) ne (head_waits to q z).0 (head_waits to q z).1 a wrk' b t
        (subst (λ (m : ℕ). Forward a c i (m + 1) from to t) (ap (λ (z : Store). z.confirmations) b.is) d)

    stayed_gone : (HeadDone x.site i → ⊥) → (hd ≡ i) ⊎ ((hd ≡ i → ⊥) × (to ≡ 0 → ⊥))
        → (t : Store) → Forward x.site c i n from to t → Gone t x.working 0
    stayed_gone not_done (inl e) t d =
        itself x w f.right f.sound id n i from to (movable from to p q) t d e
        (subst (λ (j : ℕ). (slot_at x.site.slots j).done < (slot_at x.site.slots j).count) e
        (work_left x w f.right f.sound c small_class some_queued (rw e f.small) (λ z. not_done (e, subst (λ (j : ℕ). (slot_at x.site.slots j).done ≡ (slot_at x.site.slots j).count) e z))))
    stayed_gone not_done (inr k) t d =
        behind_confirmed x w f.right f.sound id n i from to (movable from to p q) t d k.0
        (let z : 136 * c + 0 ≡ 136 * c = omega arith in rw z at (q.before 0 (omega (arith, k.1))))

    -- where the sum of the class, W, is stored before it moves
    module _ (W : ℕ) (is : W ≡ sum_with x.site c i) where
      abbrev s₁ : Store
      s₁ = with_sums x.site (set x.site.sums c W)

      told : (t : Store) (wrk' : List ℕ) (back : ℕ) → t.sums ≡ s₁.sums → Gone (with_sums t x.site.sums) wrk' back
          → Did x (S.confirm id n) (record { site = t; committed = x.committed; working = wrk' }) (K.waiting id W back)
      told t wrk' back e g =
          subst (λ (z : List ℕ). Did x (S.confirm id n) (record { site = with_sums t z; committed = x.committed; working = wrk' }) (K.waiting id W back)) (sym e)
          (g.answers W is)

      pub sum_may_back : Backable x.site x.committed x.working c → Backable s₁ x.committed x.working c
      sum_may_back b = record {
        laid = laid_sums x.site s₁.sums b.laid;
        class = b.class;
        some = b.some;
        cells = b.cells;
        request = b.request;
        fits = b.fits;
      }

      pub put_back_did : (hd ≡ i → ⊥) → to ≡ 0 → (a : Store) (wrk' : List ℕ) → PutBack s₁ x.committed x.working c a wrk'
          → (t : Store) → Forward a c i (a.confirmations + 1) from to t
          → Did x (S.confirm id n) (record { site = t; committed = x.committed; working = wrk' }) (K.waiting id W (slot_at x.site.slots hd).id)
      put_back_did ne z a wrk' b t d =
          told t wrk' _ (d.sums ∙ ap (λ (z : Store). z.sums) b.is)
          (put_back_gone ne z (with_sums a x.site.sums) wrk'
          (record { is = ap (λ (z : Store). with_sums z x.site.sums) b.is; cells = b.cells; own = b.own; others = b.others })
          (with_sums t x.site.sums) (resummed a t x.site.sums c i (a.confirmations + 1) from to d))

      pub stayed_did : (HeadDone x.site i → ⊥) → (hd ≡ i) ⊎ ((hd ≡ i → ⊥) × (to ≡ 0 → ⊥)) → (t : Store) → Forward s₁ c i n from to t
          → Did x (S.confirm id n) (record { site = t; committed = x.committed; working = x.working }) (K.waiting id W 0)
      stayed_did not_done k t d =
          told t x.working 0 d.sums (stayed_gone not_done k (with_sums t x.site.sums) (resummed s₁ t x.site.sums c i n from to d))
