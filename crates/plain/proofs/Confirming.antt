-- What a confirmation does in its class: the request is committed at once or moves behind the confirmed ones, and the class stays sound. Assumes nothing.
use Prim.Native.Nat.{ℕ, ◌<◌, ◌≤◌}
use native.Mathlib.Omega.{arith}
use mathlib.Core.Path.{◌≡◌, refl, ap, ◌∙◌}
use mathlib.Core.Logic.{◌⊎◌, inl, inr}
use mathlib.Core.Bool.{Bool, true, false}
use mathlib.Core.Option.{some}
use mathlib.Core.List.{List, [], ◌∷◌, ◌++◌}
use Rattle.plain.specs.Ops.{run_all}
use Rattle.plain.specs.Queue.{Item, reading, is_executed, id_is, is_confirmed, backs_of, line, asks}
use Rattle.plain.specs.Queue.{first_of, drop_of, has, entry_of, without, owed, confirmed_part, before_waiting}
use Rattle.plain.specs.Steps.{Class, class_with, Did, committed, waiting}
use Rattle.plain.specs.Steps.{numbered, put_back, backed, back_cells, back_id}
use Rattle.plain.specs.Steps.{moved, confirm_on, confirm_step, query_on, query_step}
use Rattle.plain.specs.Site.{confirmed_at}
use Rattle.plain.specs.Sound.{All, Waiting, Follows, InOrder, Placed, Belongs, Untouched, Working, SoundClass}
use Rattle.plain.proofs.Tests.{by_test, no}
use Rattle.plain.proofs.Items.{follows_confirmed, waiting_unconfirmed, Lasting, back_test, Numbered, is_numbered, is_back}
use Rattle.plain.proofs.Items.{at_head, executed_cells}
use Rattle.plain.proofs.Queues.{all_drop, all_before, all_first, find, first_passes, one_same}
use Rattle.plain.proofs.Queues.{count_before, count_drop, waiting_order, order_drop}
use Rattle.plain.proofs.Queues.{order_before, waits_all, waits_head, none_confirmed, part_drop, part_before}
use Rattle.plain.proofs.Steps.{raise, ended, Turnover, nothing, that}

-- A waiting head is put back
backed_test : (f : Item → Bool) → Lasting f → (x : Item) → f (backed x) ≡ f x
backed_test f l x = by_test (is_confirmed x) (λ t. rw t) (λ g. rw g (back_test f l x))

backed_part : (m top : ℕ) (x : Item) (rest : List Item) → InOrder m top (x ∷ rest) → confirmed_part (backed x ∷ rest) ≡ confirmed_part (x ∷ rest)
backed_part m top x rest o =
    by_test (is_confirmed x)
    (λ t. rw (t, t))
    (λ f. rw (f, waiting_unconfirmed (put_back x) (is_back x (waits_head m top x rest o f)).waits))

abbrev Ready : Item → List ℕ → List ℕ → Type 0
Ready x base w = (is_confirmed x ≡ true) ⊎ (Untouched x × (w ≡ base))

settled : (c top : ℕ) (x : Item) (rest : List Item) (base w : List ℕ) → SoundClass c top (class_with (x ∷ rest) base w)
    → SoundClass c top (class_with (backed x ∷ rest) base (back_cells x base w)) × Ready (backed x) base (back_cells x base w)
settled c top x rest base w s =
    by_test (is_confirmed x)
    (λ t. rw t (s, inl t))
    (λ f. let b = is_back x (waits_head 0 top x rest s.order f) in
    rw f (
      record {
        belong = (b.belongs c s.belong.0, s.belong.1);
        order = inr (b.waits, waits_all 0 top x rest s.order f);
        working = (at_head c (put_back x) base b.untouched (b.belongs c s.belong.0), s.working.1);
      },
      inr (b.untouched, refl),
    ))

-- y enters before the waiting
entered : (c top n : ℕ) (y x : Item) (rest : List Item) (base w : List ℕ) → SoundClass c top (class_with (x ∷ rest) base w) → Ready x base w
    → Untouched y → Belongs c y → Follows top y → line y ≤ n → top ≤ n
    → SoundClass c n (class_with (before_waiting y (x ∷ rest)) base w) × (confirmed_part (before_waiting y (x ∷ rest)) ≡ confirmed_part (x ∷ rest) ++ (y ∷ []))
entered c top n y x rest base w s r u b f at t = (
  record {
    belong = all_before (Belongs c) y (x ∷ rest) b s.belong;
    order = order_before 0 top n y (x ∷ rest) f at (omega arith) t s.order;
    working = by_test (is_confirmed x)
        (λ t. rw t (s.working.0, all_before Untouched y rest u s.working.1))
        (λ z. go z r);
  },
  part_before 0 top y (x ∷ rest) (follows_confirmed top y f) s.order,
)
  where
    go : is_confirmed x ≡ false → Ready x base w → Working (before_waiting y (x ∷ rest)) base w
    go z (inl t) = no _ t z
    go z (inr h) = rw (z, h.1) (at_head c y base u b, (h.0, s.working.1))

-- CONFIRM, on a class's confirmed part: the request x is committed at once, or stands as y at the end of that part
pub data Confirms (i n : ℕ) (k : Class) (d : Did) : Type 0 where
  at_once : (x : Item) (b sl bk : ℕ) → entry_of i k.queue ≡ some x → confirmed_part k.queue ≡ []
      → confirmed_part d.class.queue ≡ [] → d.class.committed ≡ run_all k.committed (asks x) → d.answer ≡ committed i n b sl bk
      → Turnover k d.class (that x) nothing → Confirms i n k d
  later : (x y : Item) (back : ℕ) → entry_of i k.queue ≡ some x → Numbered i n x y → y ≡ numbered n x
      → confirmed_part d.class.queue ≡ confirmed_part k.queue ++ (y ∷ [])
      → d.class.committed ≡ k.committed → d.answer ≡ waiting i (owed i d.class.queue) back
      → Turnover k d.class (that x) (that y) → Confirms i n k d

-- the confirmed request's new place
before_all : (x : Item) (q : List Item) → All Waiting q → before_waiting x q ≡ x ∷ q
before_all x [] h = refl
before_all x (y ∷ q) h = rw (waiting_unconfirmed y h.0)

pub moved_is : (i n : ℕ) (q : List Item) (x : Item) → entry_of i q ≡ some x → moved i n q ≡ before_waiting (numbered n x) (without i q)
moved_is i n q x h = rw (h, moved)

module _ (c top i n : ℕ) (x : Item) (rest : List Item) (base w : List ℕ) (s : SoundClass c top (class_with (x ∷ rest) base w))
    (h : has i (x ∷ rest) ≡ true) (u : confirmed_at (entry_of i (x ∷ rest)) ≡ false) (t : top < n) where
  Result : Type 0
  Result = SoundClass c n (confirm_on i n (x ∷ rest) base w).class × Confirms i n (class_with (x ∷ rest) base w) (confirm_on i n (x ∷ rest) base w)

  -- the request is the head
  is_head : id_is i x ≡ true → Result
  unfolding Result
  is_head y =
      by_test (is_executed x)
      (λ e. let z = m.ends in
      rw (y, e) (
        raise c top n (class_with rest w w) (omega arith) (ended c top x rest base w w s),
        at_once x z.0 z.1 (backs_of (numbered n x)) is part (none_confirmed rest all) (executed_cells x base w e s.working.0) (z.2 w) (λ f l. omega arith),
      ))
      (λ e. rw (y, e, moves) (
        record {
          belong = (m.belongs c s.belong.0, s.belong.1);
          order = inl (m.follows 0 (omega arith), omega (arith, m.line_is), waiting_order (line (numbered n x)) n rest all);
          working = (m.head base w e s.working.0, s.working.1);
        },
        later x (numbered n x) 0 is m refl (rw (follows_confirmed 0 (numbered n x) (m.follows 0 (omega arith)), none_confirmed rest all, f))
            refl refl (λ f l. omega arith),
      ))
    where
      f : is_confirmed x ≡ false
      f = rw y at u

      all : All Waiting rest
      all = waits_all 0 top x rest s.order f

      is : entry_of i (x ∷ rest) ≡ some x
      is = rw y

      m : Numbered i n x (numbered n x)
      m = is_numbered i n x y

      part : confirmed_part (x ∷ rest) ≡ []
      part = rw f (none_confirmed rest all)

      moves : moved i n (x ∷ rest) ≡ numbered n x ∷ rest
      moves = moved_is i n (x ∷ rest) x is ∙ rw (y, before_all (numbered n x) rest all)

  -- another is the head
  not_head : id_is i x ≡ false → Result
  unfolding Result
  not_head y =
      rw (y, moves) (
        r.0,
        later z (numbered n z) (back_id x) (rw y found) m refl
            (r.1 ∙ rw (part_drop_rest, backed_part 0 top x rest s.order)) refl refl turnover,
      )
    where
      x' : Item
      x' = backed x

      y' : id_is i x' ≡ false
      y' = backed_test (id_is i) (record { work = λ e t. refl; back = λ e. refl }) x ∙ y

      z : Item
      z = (find (id_is i) rest (rw y at h)).0

      found : first_of (id_is i) rest ≡ some z
      found = (find (id_is i) rest (rw y at h)).1

      m : Numbered i n z (numbered n z)
      m = is_numbered i n z (first_passes (id_is i) rest z found)

      is : entry_of i (x' ∷ rest) ≡ some z
      is = rw y' found

      moves : moved i n (x' ∷ rest) ≡ before_waiting (numbered n z) (x' ∷ drop_of (id_is i) rest)
      moves = moved_is i n (x' ∷ rest) z is ∙ rw y'

      q : SoundClass c top (class_with (x' ∷ rest) base (back_cells x base w)) × Ready x' base (back_cells x base w)
      q = settled c top x rest base w s

      dropped : SoundClass c top (class_with (x' ∷ drop_of (id_is i) rest) base (back_cells x base w))
      dropped = record {
        belong = (q.0.belong.0, all_drop (Belongs c) (id_is i) rest q.0.belong.1);
        order = rw y' at (order_drop 0 top (id_is i) (x' ∷ rest) q.0.order);
        working = (q.0.working.0, all_drop Untouched (id_is i) rest q.0.working.1);
      }

      r : SoundClass c n (class_with (before_waiting (numbered n z) (x' ∷ drop_of (id_is i) rest)) base (back_cells x base w))
          × (confirmed_part (before_waiting (numbered n z) (x' ∷ drop_of (id_is i) rest)) ≡ confirmed_part (x' ∷ drop_of (id_is i) rest) ++ (numbered n z ∷ []))
      r = entered c top n (numbered n z) x' (drop_of (id_is i) rest) base (back_cells x base w) dropped q.1
          (m.untouched (all_first Untouched (id_is i) rest z found s.working.1))
          (m.belongs c (all_first (Belongs c) (id_is i) rest z found s.belong.1))
          (m.follows top t) (omega (arith, m.line_is)) (omega arith)

      part_drop_rest : confirmed_part (x' ∷ drop_of (id_is i) rest) ≡ confirmed_part (x' ∷ rest)
      part_drop_rest = rw (part_drop (id_is i) rest (rw found (rw (y, found) at u)))

      turnover : Turnover (class_with (x ∷ rest) base w) (class_with (before_waiting (numbered n z) (x' ∷ drop_of (id_is i) rest)) base (back_cells x base w))
          (that z) (that (numbered n z))
      turnover f l =
          omega (
            arith,
            count_before f (numbered n z) (x' ∷ drop_of (id_is i) rest),
            count_drop f (id_is i) rest z found,
            one_same f x' x (backed_test f l x),
          )

pub confirm_step_lem : (c top i n : ℕ) (k : Class) → SoundClass c top k → has i k.queue ≡ true → confirmed_at (entry_of i k.queue) ≡ false → top < n
    → SoundClass c n (confirm_step i n k).class × Confirms i n k (confirm_step i n k)
unfolding confirm_step Result
confirm_step_lem c top i n k s h u t = go k.queue s h u
  where
    go : (q : List Item) → SoundClass c top (class_with q k.committed k.working) → has i q ≡ true → confirmed_at (entry_of i q) ≡ false
        → SoundClass c n (confirm_on i n q k.committed k.working).class
        × Confirms i n (class_with q k.committed k.working) (confirm_on i n q k.committed k.working)
    go [] s h u = let z : ◌≡◌ {A = ℕ} 0 1 = cc in absurd (omega arith)
    go (x ∷ rest) s h u =
        by_test (id_is i x)
        (is_head c top i n x rest k.committed k.working s h u t)
        (not_head c top i n x rest k.committed k.working s h u t)

-- QUERY, on a class: its entry y stands at the end of the confirmed part
pub record Joins (y : Item) (c top : ℕ) (k k' : Class) : Type 0 where
  pub sound : SoundClass c top k'
  pub part : confirmed_part k'.queue ≡ confirmed_part k.queue ++ (y ∷ [])
  pub cells : k'.committed ≡ k.committed
  pub turnover : Turnover k k' nothing (that y)

pub query_step_lem : (c top p : ℕ) (k : Class) → Placed p → SoundClass c top k → Joins (reading p top) c top k (query_step p top k)
unfolding query_step
query_step_lem c top p k l s = go k.queue s
  where
    y : Item
    y = reading p top

    go : (q : List Item) → SoundClass c top (class_with q k.committed k.working)
        → Joins y c top (class_with q k.committed k.working) (query_on y q k.committed k.working)
    go [] s = record {
      sound = record { belong = (l, tt); order = inl (omega arith, omega arith, tt); working = (s.working, tt) };
      part = refl;
      cells = refl;
      turnover = λ f h. omega arith;
    }
    go (x ∷ rest) s =
        let b = settled c top x rest k.committed k.working s in
        let r = entered c top top y (backed x) rest k.committed (back_cells x k.committed k.working) b.0 b.1 tt l
        (omega arith) (omega arith) (omega arith) in
        record {
          sound = r.0;
          part = r.1 ∙ ap (λ (q : List Item). q ++ (y ∷ [])) (backed_part 0 top x rest s.order);
          cells = refl;
          turnover = λ f h. omega (arith, count_before f y (backed x ∷ rest), one_same f (backed x) x (backed_test f h x));
        }
