-- Demand 2: from a fresh site, the committed cells of a class are those got by running its committed requests one after another, and these are
-- the first confirmed ones of that class in definitive order; and its two-site sentence. Assumes nothing.
use Prim.Native.Nat.{ℕ, ◌≤◌}
use native.Mathlib.Omega.{arith}
use mathlib.Core.Path.{◌≡◌, refl, sym, ap, ◌∙◌}
use mathlib.Core.List.{List, [], ◌∷◌, ◌++◌, append-nil, append_assoc}
use lib.Dec.{eqb}
use lib.ListN.{length, take, length-append}
use lib.Seq.{take-append_seam, take-append-le}
use Rattle.plain.specs.Ops.{Request, run_request, run_all}
use Rattle.plain.specs.Queue.{asked, confirmed_part}
use Rattle.plain.specs.Site.{Call, fresh, zeros, call}
use Rattle.plain.specs.Sound.{SoundSite}
use Rattle.plain.specs.History.{after, confirmed_by, committed_by, confirmations, commits, of_class, requests}
use Rattle.plain.specs.History.{confirmed_in, committed_in}
use Rattle.plain.specs.Demands.{Demand2}
use Rattle.plain.proofs.Tests.{by_test}
use Rattle.plain.proofs.Kept.{fresh_sound, call_sound}
use Rattle.plain.proofs.Moves.{call_moves}

-- LOGS
pub run_append : (l : List ℕ) (p q : List Request) → run_all l (p ++ q) ≡ run_all (run_all l p) q
unfolding run_all
run_append l [] q = refl
run_append l (r ∷ p) q = run_append (run_request l r) p q

pub class_append : (c : ℕ) (p q : List Request) → of_class c (p ++ q) ≡ of_class c p ++ of_class c q
class_append c [] q = refl
class_append c (r ∷ p) q =
    by_test (eqb r.class c) (λ t. rw (t, class_append c p q)) (λ f. rw (f, class_append c p q))

pub requests_append : (p q : List (ℕ × Request)) → requests (p ++ q) ≡ requests p ++ requests q
requests_append [] q = refl
requests_append (x ∷ p) q = rw (requests_append p q)

pub after_sound : (h : List Call) → SoundSite (after h)
unfolding after
after_sound [] = fresh_sound
after_sound (k ∷ h) = call_sound (after h) k (after_sound h)

pub confirmed_more : (c : ℕ) (k : Call) (h : List Call) → confirmed_in c (k ∷ h) ≡ confirmed_in c h ++ of_class c (requests (confirmed_by (after h) k))
unfolding confirmed_in confirmations
confirmed_more c k h = rw (requests_append (confirmations h) (confirmed_by (after h) k), class_append)

pub committed_more : (c : ℕ) (k : Call) (h : List Call) → committed_in c (k ∷ h) ≡ committed_in c h ++ of_class c (committed_by (after h) (call (after h) k).answer)
unfolding committed_in commits
committed_more c k h = class_append c (commits h) _

-- the confirmed requests of a class are those committed and then those queued
pub in_line : (h : List Call) (c : ℕ) → confirmed_in c h ≡ committed_in c h ++ asked (confirmed_part ((after h).class c).queue)
unfolding after
in_line [] c = unfold confirmed_in committed_in confirmations commits fresh in refl
in_line (k ∷ h) c =
    let m = call_moves (after h) (after_sound h) k c in
    rw (confirmed_more c k h, committed_more c k h, in_line h c, append_assoc, append_assoc) (ap (λ (l : List Request). committed_in c h ++ l) m.log)

-- DEMAND 2
pub cells_are_the_serial_run : (h : List Call) (c : ℕ) → ((after h).class c).committed ≡ run_all zeros (committed_in c h)
unfolding after
cells_are_the_serial_run [] c = unfold committed_in commits fresh run_all in refl
cells_are_the_serial_run (k ∷ h) c =
    let m = call_moves (after h) (after_sound h) k c in
    m.cells ∙ rw (committed_more c k h, run_append, cells_are_the_serial_run h c)

pub first_confirmed : (h : List Call) (c : ℕ) → committed_in c h ≡ take (length (committed_in c h)) (confirmed_in c h)
first_confirmed h c = rw (in_line h c) (sym (take-append_seam (committed_in c h) _))

pub demand_2 : (h : List Call) (c : ℕ) → Demand2 h c
demand_2 h c = record { serial = cells_are_the_serial_run h c; first_confirmed = first_confirmed h c }

-- Two histories of which one confirmed what the other did, and maybe more, with equally many commits in a class, hold equal committed cells there
pub same_cells_ahead : (h h' : List Call) (more : List (ℕ × Request)) (c : ℕ) → confirmations h' ≡ confirmations h ++ more
    → length (committed_in c h) ≡ length (committed_in c h') → ((after h).class c).committed ≡ ((after h').class c).committed
same_cells_ahead h h' more c p l = cells_are_the_serial_run h c ∙ ap (run_all zeros) same ∙ sym (cells_are_the_serial_run h' c)
  where
    longer : confirmed_in c h' ≡ confirmed_in c h ++ of_class c (requests more)
    longer = unfold confirmed_in in (rw (p, requests_append, class_append))

    fits : length (committed_in c h) ≤ length (confirmed_in c h)
    fits = omega (arith, ap length (in_line h c) ∙ length-append (committed_in c h) _)

    same : committed_in c h ≡ committed_in c h'
    same =
        first_confirmed h c
        ∙ sym (first_confirmed h' c ∙ rw (← l, longer) (take-append-le (length (committed_in c h)) (confirmed_in c h) _ fits))

-- the mission's sentence: the same requests confirmed under the same numbers
pub same_cells : (h h' : List Call) (c : ℕ) → confirmations h ≡ confirmations h' → length (committed_in c h) ≡ length (committed_in c h')
    → ((after h).class c).committed ≡ ((after h').class c).committed
same_cells h h' c p l = same_cells_ahead h h' [] c (sym p ∙ sym (append-nil _)) l
