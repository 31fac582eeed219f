-- The work calls that the confirmed part of a class takes, which a site keeps with each class: how each step changes them, that they are the W of a
-- request that ends that part, and their bound. Assumes nothing.
use Prim.Native.Nat.{ℕ, suc, ◌+◌, ◌<◌, ◌≤◌}
use native.Mathlib.Omega.{arith}
use mathlib.Core.Path.{◌≡◌, refl, sym, ap, ◌∙◌}
use mathlib.Core.Logic.{inl, inr}
use mathlib.Core.Bool.{Bool, true, false, cond}
use mathlib.Core.Option.{some}
use mathlib.Core.List.{List, [], ◌∷◌, ◌++◌}
use Rattle.plain.specs.Sizes.{most_w}
use Rattle.plain.specs.Record.{request_in}
use Rattle.plain.specs.Queue.{Item, booking, reading, id_is, is_confirmed, line, left, any, count, up_to, entry_of, owed, confirmed_part, costs, confirmed_costs}
use Rattle.plain.specs.Steps.{Class, Did, waiting, numbered, work_step, offer_step, confirm_step, query_step}
use Rattle.plain.specs.Site.{Site, offer, work, confirm, query, accepts, standing, class_of, slot_free, free_place, confirmed_at, commit_of}
use Rattle.plain.specs.Sound.{All, Waiting, InOrder, SoundClass, SoundSite}
use Rattle.plain.proofs.Tests.{by_test, no}
use Rattle.plain.proofs.Sums.{sum_term}
use Rattle.plain.proofs.Items.{follows_confirmed, waiting_unconfirmed}
use Rattle.plain.proofs.Queues.{none_confirmed, waits_all, count_some}
use Rattle.plain.proofs.Steps.{Works, unconcerned, one_done, last_done}
use Rattle.plain.proofs.Confirming.{Confirms, at_once, later}
use Rattle.plain.proofs.Sites.{confirm_accepted, work_accepted}
use Rattle.plain.proofs.Accepted.{work_both, offer_both, confirm_both, query_both}
use Rattle.plain.proofs.Due.{part_first, not_there}
use Rattle.plain.proofs.Bounds.{up_to_bounded}

-- one after another: how a walk over the queue adds them up
pub costs_more : (x : Item) (q : List Item) → confirmed_costs (x ∷ q) ≡ cond (is_confirmed x) (left x) 0 + confirmed_costs q
unfolding confirmed_costs
costs_more x q = by_test (is_confirmed x) (λ t. rw t) (λ f. rw f (omega arith))

costs_append : (p : List Item) (x : Item) → costs (p ++ (x ∷ [])) ≡ costs p + left x
costs_append [] x = omega arith
costs_append (y ∷ p) x = let r = costs_append p x in omega arith

-- THEY ARE W. Of the first that passes f and ends the confirmed part
ends_part : (f : Item → Bool) (m top : ℕ) (q before : List Item) (x : Item) → InOrder m top q → confirmed_part q ≡ before ++ (x ∷ []) → any f before ≡ false
    → f x ≡ true → up_to f q ≡ confirmed_costs q
unfolding confirmed_costs
ends_part f m top q before x o is n p = (part_first f m top q before x [] o is n p).1 ∙ sym (costs_append before x) ∙ sym (ap costs is)

-- what passes a test that one of a queue passes at most, and stands at the end of its confirmed part, is the first there that passes
part_count : (f : Item → Bool) (q : List Item) → count f (confirmed_part q) ≤ count f q
part_count f [] = omega arith
part_count f (x ∷ q) = let r = part_count f q in by_test (is_confirmed x) (λ t. rw t (omega arith)) (λ g. rw g (omega arith))

before_none : (f : Item → Bool) (before : List Item) (x : Item) → f x ≡ true → count f (before ++ (x ∷ [])) ≤ 1 → any f before ≡ false
before_none f before x t u = by_test (any f before) (λ y. absurd (omega (arith, count_some f before y, more before))) (λ g. g)
  where
    more : (before : List Item) → count f before + 1 ≡ count f (before ++ (x ∷ []))
    more [] = rw t
    more (y ∷ q) = let r = more q in omega arith

-- the W of a request that ends the confirmed part of its class
pub w_is_kept : (s : Site) → SoundSite s → (c : ℕ) → c < 16 → (i : ℕ) (before : List Item) (x : Item)
    → confirmed_part (s.class c).queue ≡ before ++ (x ∷ []) → id_is i x ≡ true → owed i (s.class c).queue ≡ confirmed_costs (s.class c).queue
unfolding standing
w_is_kept s w c l i before x is t =
    ends_part (id_is i) 0 s.confirmations (s.class c).queue before x (w.each c l).order is
    (before_none (id_is i) before x t (omega (
      arith,
      part_count (id_is i) (s.class c).queue,
      ap (count (id_is i)) is,
      w.ids i,
      sum_term (λ c. count (id_is i) (s.class c).queue) 16 c l,
    ))) t

-- by its place: what stands behind it is nothing, or waits
abbrev pub NextWaits : List Item → Type 0
NextWaits [] = Unit
NextWaits (x ∷ q) = is_confirmed x ≡ false

pub part_ends : (m top : ℕ) (before : List Item) (x : Item) (behind : List Item) → InOrder m top (before ++ x ∷ behind) → is_confirmed x ≡ true
    → NextWaits behind → confirmed_part (before ++ x ∷ behind) ≡ before ++ (x ∷ [])
part_ends m top [] x behind (inr o) t h = no _ t (waiting_unconfirmed x o.0)
part_ends m top [] x [] (inl o) t h = rw t
part_ends m top [] x (y ∷ behind) (inl o) t h =
    rw (t, h, none_confirmed behind (waits_all (line x) top y behind o.2 h))
part_ends m top (y ∷ before) x behind (inl o) t h =
    rw (follows_confirmed m y o.0) (ap (λ (l : List Item). y ∷ l) (part_ends (line y) top before x behind o.2 t h))
part_ends m top (y ∷ before) x behind (inr o) t h = no _ t (waiting_unconfirmed x (last before o.1))
  where
    last : (before : List Item) → All Waiting (before ++ x ∷ behind) → Waiting x
    last [] h = h.0
    last (z ∷ before) h = last before h.1

-- WORK: one less where the head is confirmed or an entry; where it waits the confirmed part is empty, before and after
abbrev pub head_confirmed : List Item → Bool
head_confirmed [] = false
head_confirmed (x ∷ q) = is_confirmed x

head_part : (m top : ℕ) (q : List Item) → InOrder m top q → head_confirmed q ≡ false → confirmed_part q ≡ []
head_part m top [] o f = refl
head_part m top (x ∷ q) o f = rw f (none_confirmed q (waits_all m top x q o f))

pub record WorkCosts (k k' : Class) : Type 0 where
  pub less : head_confirmed k.queue ≡ true → confirmed_costs k.queue ≡ suc (confirmed_costs k'.queue)
  pub none_before : head_confirmed k.queue ≡ false → confirmed_costs k.queue ≡ 0
  pub none_after : head_confirmed k.queue ≡ false → confirmed_costs k'.queue ≡ 0

work_costs : (c top : ℕ) (k : Class) (d : Did) → SoundClass c top k → Works k d → WorkCosts k d.class
unfolding confirmed_costs
work_costs c top k d s (unconcerned p p' b z t) = record {
  less = λ h. absurd (head_there k.queue p h);
  none_before = λ f. ap costs p;
  none_after = λ f. ap costs p';
}
  where
    head_there : (q : List Item) → confirmed_part q ≡ [] → head_confirmed q ≡ true → ⊥
    head_there [] p h = no _ h refl
    head_there (x ∷ q) p h = let z : ◌≡◌ {A = List Item} (x ∷ confirmed_part q) [] = rw h at p in let o : ◌≡◌ {A = ℕ} 0 1 = cc in omega arith
work_costs c top k d s (one_done x y rest p p' al l b z t) = record {
  less = λ h. omega (arith, ap costs p, ap costs p');
  none_before = λ f. let z : ◌≡◌ {A = ℕ} 0 1 = cc (sym (head_part 0 top k.queue s.order f) ∙ p) in absurd (omega arith);
  none_after = λ f. let z : ◌≡◌ {A = ℕ} 0 1 = cc (sym (head_part 0 top k.queue s.order f) ∙ p) in absurd (omega arith);
}
work_costs c top k d s (last_done x y rest p p' al en l r z t) = record {
  less = λ h. omega (arith, ap costs p, ap costs p');
  none_before = λ f. let z : ◌≡◌ {A = ℕ} 0 1 = cc (sym (head_part 0 top k.queue s.order f) ∙ p) in absurd (omega arith);
  none_after = λ f. let z : ◌≡◌ {A = ℕ} 0 1 = cc (sym (head_part 0 top k.queue s.order f) ∙ p) in absurd (omega arith);
}

-- CONFIRM: a commit leaves them 0; else the request x brings what it still takes, and the answered W is their sum
pub data ConfirmCosts (i : ℕ) (k : Class) (d : Did) : Type 0 where
  commits : confirmed_costs k.queue ≡ 0 → confirmed_costs d.class.queue ≡ 0 → commit_of d.answer ≡ some i → ConfirmCosts i k d
  waits : (x : Item) (back : ℕ) → entry_of i k.queue ≡ some x → confirmed_costs d.class.queue ≡ confirmed_costs k.queue + left x
      → d.answer ≡ waiting i (confirmed_costs d.class.queue) back → ConfirmCosts i k d

-- a number leaves what is still to do
left_numbered : (n : ℕ) (x : Item) → left (numbered n x) ≡ left x
left_numbered n (booking e) = refl
left_numbered n (reading p b) = refl

confirm_costs : (c top i n : ℕ) (k : Class) (d : Did) → SoundClass c top k → SoundClass c n d.class → confirmed_at (entry_of i k.queue) ≡ false
    → Confirms i n k d → ConfirmCosts i k d
unfolding confirmed_costs
confirm_costs c top i n k d s s' f (at_once x b sl bk en p p' r a t) = commits (ap costs p) (ap costs p') (ap commit_of a)
confirm_costs c top i n k d s s' f (later x y back en m e p z a t) =
    let none_yet = not_there (id_is i) 0 top k.queue s.order f in
    let r = part_first (id_is i) 0 n d.class.queue (confirmed_part k.queue) y [] s'.order p none_yet m.id in
    let sum : costs (confirmed_part d.class.queue) ≡ costs (confirmed_part k.queue) + left y = ap costs p ∙ costs_append (confirmed_part k.queue) y in
    waits x back en (omega (arith, sum, ap left e, left_numbered n x)) (a ∙ ap (λ (w : ℕ). waiting i w back) (r.1 ∙ sym sum))

-- ON A SITE: what an accepted call does to them in its class; a refused one and the other classes stay (the law others_left)
module _ (s : Site) (w : SoundSite s) where
  pub offer_kept : (b : List ℕ) → accepts s (offer b) ≡ true
      → confirmed_costs (offer_step (request_in b) (slot_free s) (s.class (request_in b).class)).class.queue ≡ confirmed_costs (s.class (request_in b).class).queue
  unfolding confirmed_costs
  offer_kept b a = ap costs (offer_both s w b a).part

  pub work_kept : (c : ℕ) → accepts s (work c) ≡ true → WorkCosts (s.class c) (work_step (s.class c)).class
  work_kept c a =
      work_costs c s.confirmations (s.class c) (work_step (s.class c)) (w.each c (work_accepted s c a).0) (work_both s w c a).1

  pub confirm_kept : (i n : ℕ) → accepts s (confirm i n) ≡ true → ConfirmCosts i (s.class (class_of s i)) (confirm_step i n (s.class (class_of s i)))
  confirm_kept i n a =
      let f = confirm_accepted s i n a in
      let b = confirm_both s w i n a in
      confirm_costs (class_of s i) s.confirmations i n (s.class (class_of s i)) (confirm_step i n (s.class (class_of s i))) (w.each (class_of s i) f.known)
      b.0 f.waits b.1

  pub query_kept : (m c : ℕ) → accepts s (query m) ≡ true → c < 16
      → confirmed_costs (query_step (free_place s) s.confirmations (s.class c)).queue ≡ confirmed_costs (s.class c).queue + 1
  unfolding confirmed_costs
  query_kept m c a l =
      ap costs (query_both s w m c a l).part ∙ costs_append (confirmed_part (s.class c).queue) (reading (free_place s) s.confirmations)

  -- THEIR BOUND: that of W
  pub kept_bounded : (c : ℕ) → c < 16 → confirmed_costs (s.class c).queue ≤ most_w
  unfolding confirmed_costs
  kept_bounded c l = omega (arith, up_to_bounded s w c l (λ x. false), part_costs (s.class c).queue)
    where
      part_costs : (q : List Item) → costs (confirmed_part q) ≤ up_to (λ x. false) q
      part_costs [] = omega arith
      part_costs (x ∷ q) = let r = part_costs q in by_test (is_confirmed x) (λ t. rw t (omega arith)) (λ f. rw f (omega arith))
