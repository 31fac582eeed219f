-- The sums that stand with the classes, after a plain call: what the arrays have to hold. Assumes nothing.
use Prim.Native.Nat.{ℕ, ◌+◌, ◌-◌}
use native.Mathlib.Omega.{arith}
use mathlib.Core.Path.{◌≡◌, refl, sym, ap, ◌∙◌}
use mathlib.Core.Bool.{true, cond}
use mathlib.Core.List.{List}
use mathlib.Core.Option.{Option, none, some}
use lib.Dec.{eqb}
use borrow.Author.Tests.{eqb-true, eq-eqb}
use Rattle.plain.specs.Record.{request_in}
use Rattle.plain.specs.Queue.{Item, left, entry_of, confirmed_costs}
use Rattle.plain.specs.Steps.{Did, committed, waiting, offer_step, work_step, confirm_step}
use Rattle.plain.specs.Site.{Site, offer, work, confirm, call, act, accepts, class_of, slot_free, in_class, commit_of}
use Rattle.plain.specs.Sound.{SoundSite}
use Rattle.plain.proofs.Tests.{by_test}
use Rattle.plain.proofs.Costs.{head_confirmed, offer_kept, work_kept, ConfirmCosts, commits, waits, confirm_kept}

-- a step in one class
step_sum : (s : Site) (c : ℕ) (new : Option ℕ) (d : Did) (n : ℕ) → confirmed_costs d.class.queue ≡ n
    → (e : ℕ) → confirmed_costs ((in_class s c new d).site.class e).queue ≡ cond (eqb e c) n (confirmed_costs (s.class e).queue)
step_sum s c new d n h e = by_test (eqb e c) (λ t. rw t h) (λ f. rw f)

module _ (s : Site) (w : SoundSite s) where
  -- an offer leaves them
  pub offer_sum : (b : List ℕ) → accepts s (offer b) ≡ true → (e : ℕ) → confirmed_costs ((call s (offer b)).site.class e).queue ≡ confirmed_costs (s.class e).queue
  unfolding call act
  offer_sum b a e =
      rw a (step_sum s (request_in b).class none (offer_step (request_in b) (slot_free s) (s.class (request_in b).class)) _ (offer_kept s w b a) e ∙ same)
    where
      same : cond (eqb e (request_in b).class) (confirmed_costs (s.class (request_in b).class).queue) (confirmed_costs (s.class e).queue) ≡ confirmed_costs (s.class e).queue
      same = by_test (eqb e (request_in b).class) (λ t. rw (eqb-true e (request_in b).class t, eq-eqb (request_in b).class (request_in b).class refl)) (λ f. rw f)

  -- a work call takes one off where the head is confirmed or an entry
  pub work_sum : (c : ℕ) → accepts s (work c) ≡ true → (e : ℕ)
      → confirmed_costs ((call s (work c)).site.class e).queue ≡ cond (eqb e c) (confirmed_costs (s.class c).queue - cond (head_confirmed (s.class c).queue) 1 0) (confirmed_costs (s.class e).queue)
  unfolding call act
  work_sum c a e = rw a (step_sum s c none (work_step (s.class c)) _ less e)
    where
      less : confirmed_costs (work_step (s.class c)).class.queue ≡ confirmed_costs (s.class c).queue - cond (head_confirmed (s.class c).queue) 1 0
      less =
          let k = work_kept s w c a in
          by_test (head_confirmed (s.class c).queue)
          (λ t. rw t (omega (arith, k.less t)))
          (λ f. rw f (omega (arith, k.none_before f, k.none_after f)))

  -- a confirmation that commits leaves them; one that does not brings its class to the W that it answers
  pub commit_sum : (i n : ℕ) → accepts s (confirm i n) ≡ true → (j m d sl b : ℕ) → (call s (confirm i n)).answer ≡ committed j m d sl b
      → (e : ℕ) → confirmed_costs ((call s (confirm i n)).site.class e).queue ≡ confirmed_costs (s.class e).queue
  unfolding call act
  commit_sum i n a j m d sl b says e =
      rw a (step_sum s (class_of s i) (some i) (confirm_step i n (s.class (class_of s i))) _ (same (confirm_kept s w i n a) (rw a at says)) e ∙ itself)
    where
      c : ℕ
      c = class_of s i

      same : ConfirmCosts i (s.class c) (confirm_step i n (s.class c)) → (confirm_step i n (s.class c)).answer ≡ committed j m d sl b
          → confirmed_costs (confirm_step i n (s.class c)).class.queue ≡ confirmed_costs (s.class c).queue
      same (commits x y z) u = y ∙ sym x
      same (waits y back en su an) z = let o : ◌≡◌ {A = ℕ} 0 1 = cc (sym an ∙ z) in absurd (omega arith)

      itself : cond (eqb e c) (confirmed_costs (s.class c).queue) (confirmed_costs (s.class e).queue) ≡ confirmed_costs (s.class e).queue
      itself = by_test (eqb e c) (λ t. rw (eqb-true e c t, eq-eqb c c refl)) (λ f. rw f)

  pub wait_sum : (i n : ℕ) → accepts s (confirm i n) ≡ true → (j v b : ℕ) → (call s (confirm i n)).answer ≡ waiting j v b
      → (e : ℕ) → confirmed_costs ((call s (confirm i n)).site.class e).queue ≡ cond (eqb e (class_of s i)) v (confirmed_costs (s.class e).queue)
  unfolding call act
  wait_sum i n a j v b says e =
      rw a (step_sum s (class_of s i) (some i) (confirm_step i n (s.class (class_of s i))) v (same (confirm_kept s w i n a) (rw a at says)) e)
    where
      c : ℕ
      c = class_of s i

      same : ConfirmCosts i (s.class c) (confirm_step i n (s.class c)) → (confirm_step i n (s.class c)).answer ≡ waiting j v b
          → confirmed_costs (confirm_step i n (s.class c)).class.queue ≡ v
      same (waits y back en su an) z = let o = sym an ∙ z in cc
      same (commits x y z) u = let o : none ≡ some i = sym (ap commit_of u) ∙ z in let r : ◌≡◌ {A = ℕ} 0 1 = cc in absurd (omega arith)

  -- that W is what the class's confirmed part takes before, and what the request still takes
  pub wait_left : (i n : ℕ) → accepts s (confirm i n) ≡ true → (j v b : ℕ) → (call s (confirm i n)).answer ≡ waiting j v b
      → (x : Item) → entry_of i (s.class (class_of s i)).queue ≡ some x → v ≡ confirmed_costs (s.class (class_of s i)).queue + left x
  unfolding call act
  wait_left i n a j v b says x is = same (confirm_kept s w i n a) (rw a at says)
    where
      c : ℕ
      c = class_of s i

      same : ConfirmCosts i (s.class c) (confirm_step i n (s.class c)) → (confirm_step i n (s.class c)).answer ≡ waiting j v b → v ≡ confirmed_costs (s.class c).queue + left x
      same (waits y back en su an) z = let o = sym an ∙ z in let e : y ≡ x = cc in let m : v ≡ confirmed_costs (confirm_step i n (s.class c)).class.queue = cc in m ∙ su ∙ rw e
      same (commits x y z) u = let o : none ≡ some i = sym (ap commit_of u) ∙ z in let r : ◌≡◌ {A = ℕ} 0 1 = cc in absurd (omega arith)
