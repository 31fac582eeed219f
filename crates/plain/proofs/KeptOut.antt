-- An id that was confirmed under a number is refused by every offer until 256 more confirmations were accepted. Assumes nothing.
use Prim.Native.Nat.{ℕ, suc, ◌+◌, ◌≤◌}
use native.Mathlib.Omega.{arith}
use mathlib.Core.Path.{◌≡◌, refl, sym, ap, ◌∙◌, subst}
use mathlib.Core.Logic.{inl, inr}
use mathlib.Core.Bool.{true}
use mathlib.Core.List.{List, [], ◌∷◌, ◌++◌}
use lib.ListN.{length, length-append}
use borrow.Author.Tests.{eq-eqb, ne_eqb}
use Rattle.plain.specs.Ops.{Request}
use Rattle.plain.specs.Record.{request, request_in}
use Rattle.plain.specs.Site.{Site, Call, offer, work, confirm, read, look, query, call, act, accepts, refusal, missing}
use Rattle.plain.specs.Site.{class_of, is_queued, is_kept}
use Rattle.plain.specs.Sound.{All}
use Rattle.plain.specs.History.{after, confirmed_by, confirmations}
use Rattle.plain.specs.Demands.{Counted, Turned, KeptOut}
use Rattle.plain.proofs.Tests.{by_test}
use Rattle.plain.proofs.Queues.{find_request}
use Rattle.plain.proofs.Sites.{class_found, Confirmable, confirm_accepted}
use Rattle.plain.proofs.Recent.{under_kept}
use Rattle.plain.proofs.Logs.{counted}

-- a log's ids are the site's, by number
abbrev Told : Site → List (ℕ × Request) → Type 0
Told s log = All (λ p. (p.0 ≤ s.confirmations) × (s.kept p.0 ≡ p.1.id)) log

both : (P : ℕ × Request → Type 0) (p q : List (ℕ × Request)) → All P p → All P q → All P (p ++ q)
both P [] q a b = b
both P (x ∷ p) q a b = (a.0, both P p q a.1 b)

-- what a call confirms it keeps, and it leaves what was kept before
module _ (s : Site) where
  -- a number that was given stays with its id
  stays : (k : Call) (n : ℕ) → n ≤ s.confirmations → (n ≤ (call s k).site.confirmations) × ((call s k).site.kept n ≡ s.kept n)
  unfolding call act
  stays k n l = by_test (accepts s k) (λ t. rw t (go k)) (λ f. rw f (l, refl))
    where
      go : (k : Call) → (n ≤ (act s k).site.confirmations) × ((act s k).site.kept n ≡ s.kept n)
      go (offer b) = (omega arith, refl)
      go (work c) = (omega arith, refl)
      go (confirm i m) = (omega arith, rw (ne_eqb n (suc s.confirmations) (λ e. omega arith)))
      go (read c k) = (l, refl)
      go (look i) = (l, refl)
      go (query m) = (l, refl)

  older : (k : Call) (log : List (ℕ × Request)) → Told s log → Told (call s k).site log
  older k [] t = tt
  older k (p ∷ log) t = let y = stays k p.0 t.0.0 in ((y.0, y.1 ∙ t.0.1), older k log t.1)

  newest : (k : Call) → Told (call s k).site (confirmed_by s k)
  unfolding confirmed_by call act
  newest (offer b) = tt
  newest (work c) = tt
  newest (read c k) = tt
  newest (look i) = tt
  newest (query m) = tt
  newest (confirm i n) =
      by_test (accepts s (confirm i n))
      (λ t. let f : Confirmable s i n = confirm_accepted s i n t in
      let x = find_request i (s.class (class_of s i)).queue (class_found s i f.known) in
      rw (t, x.1) ((omega (arith, f.next), rw (eq-eqb n (suc s.confirmations) (omega (arith, f.next))) (sym x.2)), tt))
      (λ f. rw f tt)

told : (h : List Call) → Told (after h) (confirmations h)
unfolding after confirmations
told [] = tt
told (k ∷ h) = both _ (confirmations h) (confirmed_by (after h) k) (older (after h) k (confirmations h) (told h)) (newest (after h) k)

-- one of a log, with those before it
at : (P : ℕ × Request → Type 0) (before behind : List (ℕ × Request)) (x : ℕ × Request) → All P (before ++ x ∷ behind) → P x
at P [] behind x h = h.0
at P (y ∷ before) behind x h = at P before behind x h.1

number_at : (m : ℕ) (before behind : List (ℕ × Request)) (n : ℕ) (r : Request) → Counted m (before ++ (n, r) ∷ behind) → n ≡ suc (m + length before)
number_at m [] behind n r h = h.0 ∙ omega arith
number_at m (y ∷ before) behind n r h = number_at (suc m) before behind n r h.1 ∙ omega arith

-- an offer of a kept id
turned : (s : Site) (b : List ℕ) → is_kept s (request_in b).id ≡ true → Turned (refusal s (offer b))
unfolding refusal
turned s b k =
    by_test (missing (request b))
    (λ t. rw t (inl refl))
    (λ f. by_test (is_queued s (request_in b).id) (λ t. rw (f, t) (inr (inl refl))) (λ g. rw (f, g, k) (inr (inr refl))))

pub kept_out : (h : List Call) → KeptOut h
kept_out h = record {
  offers_refused = λ before behind n r log few b same.
      let c = counted h in
      let t = at _ before behind (n, r) (subst (Told (after h)) log (told h)) in
      let is = number_at 0 before behind n r (subst (Counted 0) log c.0) in
      let size : (after h).confirmations ≡ length before + suc (length behind) = c.1 ∙ ap length log ∙ length-append before ((n, r) ∷ behind) in
      turned (after h) b (under_kept (after h) (request_in b).id n
      (record { given = omega arith; within = t.0; last = omega arith }) (t.1 ∙ sym same));
}
