-- What stands in a confirmed part and how many work calls it is from its end; each work call of its class brings it nearer by 1. Assumes nothing.
use Prim.Native.Nat.{ℕ, suc, ◌+◌, ◌<◌}
use native.Mathlib.Omega.{arith}
use mathlib.Core.Path.{◌≡◌, refl, sym, ap, ◌∙◌}
use mathlib.Core.Logic.{◌⊎◌, inl, inr}
use mathlib.Core.Bool.{Bool, true, false}
use mathlib.Core.Option.{some}
use mathlib.Core.List.{List, [], ◌∷◌, ◌++◌, append_assoc}
use borrow.Author.Tests.{lt-leb, ltb-true}
use Rattle.plain.specs.Ops.{Request, run_all}
use Rattle.plain.specs.Queue.{Item, booking, reading, is_confirmed, backs_of, line, left, asks, asked, any, first_of, up_to, confirmed_part, costs}
use Rattle.plain.specs.Steps.{Class, Did, Answer, ending, idle}
use Rattle.plain.specs.Site.{confirmed_at}
use Rattle.plain.specs.Sound.{All, Untouched, Belongs, InOrder, AtHead, Working, SoundClass}
use Rattle.plain.proofs.Tests.{by_test, no, or_left, or_right}
use Rattle.plain.proofs.Items.{follows_confirmed, waiting_unconfirmed, is_valid, Lasting}
use Rattle.plain.proofs.Queues.{none_confirmed}
use Rattle.plain.proofs.Steps.{Silent, Works, unconcerned, one_done, last_done}
use Rattle.plain.proofs.Confirming.{Confirms, at_once, later}
use Rattle.plain.proofs.Demand2.{run_append}

-- The first of the confirmed part that passes f stands in line at n, was put back so often, finds these cells when its turn comes, and its end is
-- w work calls away
pub record Due (k : Class) (f : Item → Bool) (n backs : ℕ) (cells : List ℕ) (w : ℕ) : Type 0 where
  pub before : List Item
  pub it : Item
  pub behind : List Item
  pub is : confirmed_part k.queue ≡ before ++ it ∷ behind
  pub first_one : any f before ≡ false
  pub passes : f it ≡ true
  pub at : line it ≡ n
  pub back_is : backs_of it ≡ backs
  pub finds : run_all k.committed (asked before) ≡ cells
  pub w_is : costs before + left it ≡ w

-- An answer that says its end, and one that says nothing of it
pub record Ends (f : Item → Bool) (n : ℕ) (cells : List ℕ) (a : Answer) : Type 0 where
  pub it : Item
  pub passes : f it ≡ true
  pub at : line it ≡ n
  pub says : a ≡ ending it (run_all cells (asks it))

abbrev pub Others : (Item → Bool) → Answer → Type 0
Others f a = Silent a ⊎ ((x : Item) × (v : List ℕ) × (f x ≡ false) × (a ≡ ending x v))

-- what stands in a confirmed part takes a work call or more
left_untouched : (c : ℕ) (x : Item) → Belongs c x → Untouched x → 0 < left x
left_untouched c (reading p n) b u = omega arith
left_untouched c (booking e) b u = let v = is_valid e.request b.valid in omega arith

left_head : (x : Item) (base w : List ℕ) → is_confirmed x ≡ true → AtHead x base w → 0 < left x
left_head (reading p n) base w t h = omega arith
left_head (booking e) base w t h = let l = h.unfinished (ltb-true 0 e.number t) in omega arith

busy_head : (x : Item) (q : List Item) (base w : List ℕ) → is_confirmed x ≡ true → AtHead x base w → idle (x ∷ q) ≡ false
busy_head (reading p n) q base w t h = refl
busy_head (booking e) q base w t h = lt-leb _ _ (h.unfinished (ltb-true 0 e.number t))

nowhere : {X : Type 0} (a : List Item) (y : Item) (b : List Item) → a ++ y ∷ b ≡ [] → X
nowhere [] y b e = let o : ◌≡◌ {A = ℕ} 0 1 = cc in absurd (omega arith)
nowhere (x ∷ a) y b e = let o : ◌≡◌ {A = ℕ} 0 1 = cc in absurd (omega arith)

-- found in the queue as in its confirmed part, and as far away
pub part_first : (f : Item → Bool) (m top : ℕ) (q a : List Item) (x : Item) (b : List Item) → InOrder m top q
    → confirmed_part q ≡ a ++ x ∷ b → any f a ≡ false → f x ≡ true
    → (first_of f q ≡ some x) × (up_to f q ≡ costs a + left x) × (is_confirmed x ≡ true)
part_first f m top [] a x b o h n p = nowhere a x b (sym h)
part_first f m top (y ∷ q) a x b (inr o) h n p =
    nowhere a x b (sym h ∙ rw (waiting_unconfirmed y o.0) (none_confirmed q o.1))
part_first f m top (y ∷ q) [] x b (inl o) h n p =
    let k : y ∷ confirmed_part q ≡ x ∷ b = rw (follows_confirmed m y o.0) at h in
    let e : y ≡ x = cc in
    (rw (e, p), rw (e, p) (omega arith), rw (← e) (follows_confirmed m y o.0))
part_first f m top (y ∷ q) (z ∷ a) x b (inl o) h n p =
    let k : y ∷ confirmed_part q ≡ z ∷ (a ++ x ∷ b) = rw (follows_confirmed m y o.0) at h in
    let e : y ≡ z = cc in
    let r = part_first f (line y) top q a x b o.2 (cc) (or_right (f z) (any f a) n) p in
    let fz : f z ≡ false = or_left (f z) (any f a) n in
    (rw (e, fz) r.0, rw (e, fz) (omega (arith, r.1)), r.2)

-- the first of a queue to pass waits: none of the confirmed part does
pub not_there : (f : Item → Bool) (m top : ℕ) (q : List Item) → InOrder m top q → confirmed_at (first_of f q) ≡ false
    → any f (confirmed_part q) ≡ false
not_there f m top [] o h = refl
not_there f m top (y ∷ q) (inr o) h = rw (waiting_unconfirmed y o.0, none_confirmed q o.1)
not_there f m top (y ∷ q) (inl o) h =
    by_test (f y)
    (λ t. no _ (follows_confirmed m y o.0) (rw t at h))
    (λ g. rw (follows_confirmed m y o.0, g) (not_there f (line y) top q o.2 (rw g at h)))

module _ (f : Item → Bool) (n backs : ℕ) (cells : List ℕ) where
  -- its end is a work call or more away
  pub due_positive : (c top : ℕ) (k : Class) (w : ℕ) → SoundClass c top k → Due k f n backs cells w → 0 < w
  due_positive c top k w s u = omega (arith, go k.queue s.belong s.working u.before u.is)
    where
      first : (y : Item) (q : List Item) → 0 < left y → (a : List Item) → y ∷ confirmed_part q ≡ a ++ u.it ∷ u.behind → 0 < costs a + left u.it
      first y q l [] e = let p : y ≡ u.it = cc in omega (arith, ap left p)
      first y q l (z ∷ a) e = let p : y ≡ z = cc in omega (arith, ap left p)

      rest : (q : List Item) → All (Belongs c) q → All Untouched q → (a : List Item) → confirmed_part q ≡ a ++ u.it ∷ u.behind → 0 < costs a + left u.it
      rest [] b v a h = nowhere a u.it u.behind (sym h)
      rest (y ∷ q) b v a h =
          by_test (is_confirmed y) (λ t. first y q (left_untouched c y b.0 v.0) a (rw t at h)) (λ g. rest q b.1 v.1 a (rw g at h))

      go : (q : List Item) → All (Belongs c) q → Working q k.committed k.working → (a : List Item) → confirmed_part q ≡ a ++ u.it ∷ u.behind
          → 0 < costs a + left u.it
      go [] b w a h = nowhere a u.it u.behind (sym h)
      go (y ∷ q) b w a h =
          by_test (is_confirmed y) (λ t. first y q (left_head y _ _ t w.0) a (rw t at h)) (λ g. rest q b.1 w.1 a (rw g at h))

  -- the class can work
  pub ready : (c top : ℕ) (k : Class) (w : ℕ) → SoundClass c top k → Due k f n backs cells w → idle k.queue ≡ false
  ready c top k w s u = go k.queue s.order s.working u.is
    where
      go : (q : List Item) → InOrder 0 top q → Working q k.committed k.working → confirmed_part q ≡ u.before ++ u.it ∷ u.behind → idle q ≡ false
      go [] o w h = nowhere u.before u.it u.behind (sym h)
      go (x ∷ q) (inl o) w h = busy_head x q _ _ (follows_confirmed 0 x o.0) w.0
      go (x ∷ q) (inr o) w h =
          nowhere u.before u.it u.behind (sym h ∙ rw (waiting_unconfirmed x o.0) (none_confirmed q o.1))

  -- more behind it, or nothing, leaves it
  pub more_behind : (k k' : Class) (w : ℕ) (more : List Item) → confirmed_part k'.queue ≡ confirmed_part k.queue ++ more
      → k'.committed ≡ k.committed → Due k f n backs cells w → Due k' f n backs cells w
  more_behind k k' w more e b u = record {
    before = u.before;
    it = u.it;
    behind = u.behind ++ more;
    is = e ∙ rw (u.is, append_assoc);
    first_one = u.first_one;
    passes = u.passes;
    at = u.at;
    back_is = u.back_is;
    finds = rw b u.finds;
    w_is = u.w_is;
  }

  pub same_part : (k k' : Class) (w : ℕ) → confirmed_part k'.queue ≡ confirmed_part k.queue → k'.committed ≡ k.committed
      → Due k f n backs cells w → Due k' f n backs cells w
  same_part k k' w e b u = record {
    before = u.before;
    it = u.it;
    behind = u.behind;
    is = e ∙ u.is;
    first_one = u.first_one;
    passes = u.passes;
    at = u.at;
    back_is = u.back_is;
    finds = rw b u.finds;
    w_is = u.w_is;
  }

  pub confirm_due : (j m w : ℕ) (k : Class) (d : Did) → Confirms j m k d → Due k f n backs cells w → Due d.class f n backs cells w
  confirm_due j m w k d (at_once x b sl bk en p p' r a t) u = nowhere u.before u.it u.behind (sym u.is ∙ p)
  confirm_due j m w k d (later x y back en r e p c a t) u = more_behind k d.class w (y ∷ []) p c u

-- what an accepted work call makes of it: nearer by 1, and the answer speaks of others; or at 1 its end
abbrev pub Nearer : Class → (Item → Bool) → ℕ → ℕ → List ℕ → ℕ → Answer → Type 0
Nearer k f n backs cells w a = (Due k f n backs cells w × Others f a) ⊎ ((w ≡ 0) × Ends f n cells a)

module _ (f : Item → Bool) (lasts : Lasting f) (n backs : ℕ) (cells : List ℕ) where
  pub work_due : (w : ℕ) (k : Class) (d : Did) → Works k d → Due k f n backs cells (suc w) → Nearer d.class f n backs cells w d.answer
  unfolding run_all
  work_due w k d h u = go h u.before u.is u.first_one u.finds u.w_is
    where
      go : Works k d → (a : List Item) → confirmed_part k.queue ≡ a ++ u.it ∷ u.behind → any f a ≡ false
          → run_all k.committed (asked a) ≡ cells → costs a + left u.it ≡ suc w → Nearer d.class f n backs cells w d.answer
      go (unconcerned p p' c z t) a is nf fd v = nowhere a u.it u.behind (sym is ∙ p)
      go (one_done x y rest p p' al l c z t) [] is nf fd v =
          let s : x ∷ rest ≡ u.it ∷ u.behind = sym p ∙ is in
          let hd : x ≡ u.it = cc in
          inl (
            record {
              before = [];
              it = y;
              behind = rest;
              is = p';
              first_one = refl;
              passes = al.tests f lasts ∙ ap f hd ∙ u.passes;
              at = al.line_same ∙ ap line hd ∙ u.at;
              back_is = al.backs_same ∙ rw hd u.back_is;
              finds = c ∙ fd;
              w_is = omega (arith, ap left hd);
            },
            inl z,
          )
      go (one_done x y rest p p' al l c z t) (b ∷ a) is nf fd v =
          let s : x ∷ rest ≡ b ∷ (a ++ u.it ∷ u.behind) = sym p ∙ is in
          let hd : b ≡ x = cc in
          let tl : rest ≡ a ++ u.it ∷ u.behind = cc in
          inl (
            record {
              before = y ∷ a;
              it = u.it;
              behind = u.behind;
              is = p' ∙ rw tl;
              first_one = rw (al.tests f lasts, ← hd) nf;
              passes = u.passes;
              at = u.at;
              back_is = u.back_is;
              finds = ap (λ (b : List ℕ). run_all b (asks y ++ asked a)) c
                  ∙ ap (λ (rs : List Request). run_all k.committed (rs ++ asked a)) (al.asks_same ∙ sym (ap asks hd))
                  ∙ fd;
              w_is = omega (arith, ap left hd);
            },
            inl z,
          )
      go (last_done x y rest p p' al en l r z t) [] is nf fd v =
          let s : x ∷ rest ≡ u.it ∷ u.behind = sym p ∙ is in
          let hd : x ≡ u.it = cc in
          inr (
            omega (arith, ap left hd),
            record {
              it = y;
              passes = al.tests f lasts ∙ ap f hd ∙ u.passes;
              at = al.line_same ∙ ap line hd ∙ u.at;
              says = z ∙ ap (ending y) (r ∙ ap (λ (rs : List Request). run_all k.committed rs) (sym al.asks_same) ∙ ap (λ (b : List ℕ). run_all b (asks y)) fd);
            },
          )
      go (last_done x y rest p p' al en l r z t) (b ∷ a) is nf fd v =
          let s : x ∷ rest ≡ b ∷ (a ++ u.it ∷ u.behind) = sym p ∙ is in
          let hd : b ≡ x = cc in
          let tl : rest ≡ a ++ u.it ∷ u.behind = cc in
          inl (
            record {
              before = a;
              it = u.it;
              behind = u.behind;
              is = p' ∙ tl;
              first_one = or_right (f b) (any f a) nf;
              passes = u.passes;
              at = u.at;
              back_is = u.back_is;
              finds = ap (λ (b : List ℕ). run_all b (asked a)) (r ∙ ap (λ (i : Item). run_all k.committed (asks i)) (sym hd))
                  ∙ sym (run_append k.committed (asks b) (asked a))
                  ∙ fd;
              w_is = omega (arith, ap left hd);
            },
            inr (y, d.class.committed, al.tests f lasts ∙ sym (ap f hd) ∙ or_left (f b) (any f a) nf, z),
          )
