-- A class's cells, as they are lent to the checks. Assumes nothing.
use Prim.Native.Nat.{ℕ, ◌+◌, ◌*◌, ◌-◌, ◌<◌, ◌≤◌}
use native.Mathlib.Omega.{arith}
use mathlib.Core.Path.{◌≡◌, sym, subst, ◌∙◌}
use mathlib.Core.Bool.{Bool}
use mathlib.Core.List.{List}
use lib.ListN.{length, take, drop, set, replicate, length-drop, length-set, length-replicate, get_or-replicate}
use lib.Seq.{length-take-le, get_or-set_same, get_or-set_other}
use borrow.Author.Count.{below_none, below_more}
use lib.Dec.{eqb, ltb}
use borrow.Author.Tests.{eqb-true, eqb-false, eq-eqb, ne_eqb, ltb-true, ltb-false, lt-ltb, le-ltb}
use Rattle.plain.specs.Decides.{Decides}
use Rattle.plain.proofs.Tests.{by_test}
use Rattle.plain.proofs.Deciding.{decides_as}
use Rattle.plain.specs.Queue.{Item}
use Rattle.plain.specs.Sound.{AtHead}
use Rattle.slots.specs.Meaning.{slot_at}
use Rattle.slots.specs.Steps.{HeadOk}
use Rattle.slots.specs.declared.Slot.{Slot}
use Rattle.store.proofs.Places.{empty, headed, head_holds}
use Rattle.store.specs.Checks.{CellsAt, CellsOk, HeadCells, Heads, HeadsHold, head_of, nth}
use Rattle.store.specs.Meaning.{cells_of, item_at, len_of, queue_of}
use Rattle.store.specs.Sound.{Cells, Once, Short, SlotsOk}
use Rattle.store.specs.Store.{Shaped, Store}

-- class c's part of a run, from a to b
abbrev pub lent : List ℕ → ℕ → List ℕ
lent run c = take (64 * c + 64 - 64 * c) (drop (64 * c) run)

pub lent_is : (run : List ℕ) (c : ℕ) → lent run c ≡ cells_of run c
lent_is run c = let e : 64 * c + 64 - 64 * c ≡ 64 = omega arith in rw e

pub lent_long : (run : List ℕ) (c : ℕ) → length run ≡ 1024 → c < 16 → length (lent run c) ≡ 64
lent_long run c n l = rw lent_is (length-take-le 64 (drop (64 * c) run) (omega (arith, length-drop (64 * c) run)))

-- the heads of the first c classes, in a list that has 128 for the others
pub record HeadsTo (queue lens heads : List ℕ) (c : ℕ) : Type 0 where
  pub long : length heads ≡ 16
  pub found : (k : ℕ) → k < c → nth heads k ≡ head_of queue lens k
  pub rest : (k : ℕ) → k < 16 → c ≤ k → nth heads k ≡ 128

module _ (queue lens : List ℕ) where
  pub heads_none : HeadsTo queue lens (replicate 16 128) 0
  heads_none = record { long = length-replicate {A = ℕ} 16 128; found = below_none _; rest = λ k l _. get_or-replicate 16 k 128 0 l }

  module _ (heads : List ℕ) (c : ℕ) (l : c < 16) (h : HeadsTo queue lens heads c) where
    pub heads_past : nth lens c ≡ 0 → HeadsTo queue lens heads (c + 1)
    heads_past z = record {
      long = h.long;
      found = below_more (λ k. nth heads k ≡ head_of queue lens k) c h.found (rw (eq-eqb (nth lens c) 0 z) (h.rest c l (omega arith)));
      rest = λ k m n. h.rest k m (omega arith);
    }

    pub heads_more : (nth lens c ≡ 0 → ⊥) → HeadsTo queue lens (set heads c (nth queue (136 * c))) (c + 1)
    heads_more n = record {
      long = length-set heads c (nth queue (136 * c)) ∙ h.long;
      found = below_more (λ k. nth (set heads c (nth queue (136 * c))) k ≡ head_of queue lens k) c
          (λ k m. get_or-set_other heads c k (nth queue (136 * c)) 0 (λ e. omega arith) ∙ h.found k m)
          (rw (ne_eqb (nth lens c) 0 n) (get_or-set_same heads c (nth queue (136 * c)) 0 (omega (arith, h.long))));
      rest = λ k m o. get_or-set_other heads c k (nth queue (136 * c)) 0 (λ e. omega arith) ∙ h.rest k m (omega arith);
    }

-- the rule of one class, as the check decides it: where no slot is its head, and where one is
module _ (slots : List Slot) (head c : ℕ) (base wrk : List ℕ) (b : Bool) where
  pub at_empty : 128 ≤ head → Decides b (lent wrk c ≡ lent base c) → Decides b (CellsAt slots head (cells_of base c) (cells_of wrk c))
  at_empty e d =
      decides_as (λ h. record { empty = λ _. h; headed = λ n. absurd (omega arith) }) (λ h. h.empty e) (rw (lent_is wrk c, lent_is base c) at d)

  pub at_head : head < 128 → HeadOk b (slot_at slots head) (lent base c) (lent wrk c) → Decides b (CellsAt slots head (cells_of base c) (cells_of wrk c))
  at_head n d =
      decides_as (λ h. record { empty = λ e. absurd (omega arith); headed = λ _. h }) (λ h. h.headed n) (rw (lent_is wrk c, lent_is base c) at (d head))

module _ (s : Store) (w : Shaped s) (ok : SlotsOk s) (short : Short s.lens) (once : Once s) (heads : List ℕ) (h : Heads s.queue s.lens heads) where
  none_there : (c : ℕ) → c < 16 → len_of s c ≡ 0 → nth heads c ≡ 128
  none_there c l z = h c l ∙ rw (eq-eqb (len_of s c) 0 z)

  one_there : (c : ℕ) → c < 16 → 0 < len_of s c → nth heads c ≡ nth s.queue (136 * c)
  one_there c l k = h c l ∙ rw (ne_eqb (len_of s c) 0 (λ e. omega arith))

  -- a slot that stands as head holds a valid record
  pub heads_hold : HeadsHold s.slots heads
  heads_hold c l n = by_test (eqb (len_of s c) 0)
      (λ t. let e = none_there c l (eqb-true (len_of s c) 0 t) in absurd (omega arith))
      (λ f. let ne = eqb-false (len_of s c) 0 f in
      let k : 0 < len_of s c = omega arith in
      let e = one_there c l k in
      rw e (head_holds s w short ok once c l k (omega arith)))

  module _ (base wrk : List ℕ) where
    abbrev By : ℕ → Type 0
    By c = CellsAt s.slots (nth heads c) (cells_of base c) (cells_of wrk c)

    abbrev Of : ℕ → Type 0
    Of c = Cells (queue_of s c) (cells_of base c) (cells_of wrk c)

    -- what an item asks of the cells as head, by its place
    headed_is : (b : ℕ) (v w : List ℕ) → CellsAt s.slots b v w → AtHead (item_at s.slots s.queries b) v w
    headed_is b v w r = by_test (ltb b 128) (λ t. rw t (r.headed (ltb-true b 128 t))) (λ f. rw f (r.empty (ltb-false b 128 f)))

    headed_of : (b : ℕ) (v w : List ℕ) → AtHead (item_at s.slots s.queries b) v w → CellsAt s.slots b v w
    headed_of b v w r = record {
      empty = λ k. rw (le-ltb b 128 k) at r;
      headed = λ k. rw (lt-ltb b 128 k) at r;
    }

    of_head : (c : ℕ) → c < 16 → By c → Of c
    of_head c l r = by_test (eqb (len_of s c) 0)
        (λ t. let z = eqb-true (len_of s c) 0 t in let e = none_there c l z in rw (empty s w short c l z) (r.empty (omega arith)))
        (λ f. let ne = eqb-false (len_of s c) 0 f in
        let k : 0 < len_of s c = omega arith in
        let e = one_there c l k in
        subst (λ (q : List Item). Cells q (cells_of base c) (cells_of wrk c)) (sym (headed s w short c l k))
        (headed_is (nth s.queue (136 * c)) (cells_of base c) (cells_of wrk c) (rw e at r)))

    by_head : (c : ℕ) → c < 16 → Of c → By c
    by_head c l r = by_test (eqb (len_of s c) 0)
        (λ t. let z = eqb-true (len_of s c) 0 t in
        let e = none_there c l z in
        record { empty = λ _. rw (empty s w short c l z) at r; headed = λ n. absurd (omega arith) })
        (λ f. let ne = eqb-false (len_of s c) 0 f in
        let k : 0 < len_of s c = omega arith in
        let e = one_there c l k in
        rw e (headed_of (nth s.queue (136 * c)) (cells_of base c) (cells_of wrk c)
        (subst (λ (q : List Item). Cells q (cells_of base c) (cells_of wrk c)) (headed s w short c l k) r)))

    -- the rule by heads is the rule by queues
    pub cells_is : {b : Bool} → Decides b (HeadCells s.slots heads base wrk) → Decides b (CellsOk s base wrk)
    cells_is = decides_as (λ r c l. of_head c l (r c l)) (λ r c l. by_head c l (r c l))
