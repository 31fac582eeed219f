-- Whatever stands in a confirmed part has its turn: each accepted work call of its class brings its end nearer by 1, and no other call moves it.
-- Assumes nothing.
use Prim.Native.Nat.{ℕ, suc, ◌+◌, ◌-◌, ◌<◌}
use native.Mathlib.Omega.{arith}
use mathlib.Core.Path.{◌≡◌, refl, sym, subst}
use mathlib.Core.Option.{Option, none, some}
use mathlib.Core.Logic.{◌⊎◌, inl, inr}
use mathlib.Core.Bool.{Bool, true, false, cond, ◌&&◌}
use mathlib.Core.List.{List, [], ◌∷◌}
use lib.Dec.{eqb}
use borrow.Author.Tests.{eqb-true, eq-eqb, lt-leb}
use Rattle.plain.specs.Record.{request_in}
use Rattle.plain.specs.Queue.{Item, reading}
use Rattle.plain.specs.Steps.{Did, work_step, offer_step, confirm_step}
use Rattle.plain.specs.Site.{Site, Call, offer, work, confirm, read, look, query, call, act, accepts, refusal, class_of, in_class}
use Rattle.plain.specs.Site.{slot_free, free_place, named}
use Rattle.plain.specs.Sound.{SoundSite}
use Rattle.plain.specs.History.{after_from, is_work, works_from}
use Rattle.plain.proofs.Tests.{by_test, no}
use Rattle.plain.proofs.Items.{Lasting}
use Rattle.plain.proofs.Accepted.{work_both, confirm_both, offer_both, query_both}
use Rattle.plain.proofs.Kept.{call_sound}
use Rattle.plain.proofs.Due.{Due, Ends, Others, Nearer, due_positive, ready, same_part, more_behind, confirm_due, work_due}

-- ON A SITE
module _ (f : Item → Bool) (n backs : ℕ) (cells : List ℕ) (s : Site) (w : SoundSite s) (c v : ℕ) (l : c < 16) (u : Due (s.class c) f n backs cells v) where
  -- the work call for the class is not refused
  can_work : accepts s (work c) ≡ true
  unfolding refusal
  can_work = rw (lt-leb 16 c l, ready f n backs cells c s.confirmations (s.class c) v (w.each c l) u)

  -- a call that is no accepted work call for the class leaves it
  others_class : (d : ℕ) (new : Option ℕ) (x : Did) → (d ≡ c → Due x.class f n backs cells v) → Due ((in_class s d new x).site.class c) f n backs cells v
  others_class d new x g =
      by_test (eqb c d)
      (λ t. rw t (g (sym (eqb-true c d t))))
      (λ t. rw t u)

  keeps_act : (k : Call) → is_work c k ≡ false → accepts s k ≡ true → Due ((act s k).site.class c) f n backs cells v
  unfolding act offer_step
  keeps_act (offer b) z a =
      let d = (request_in b).class in
      others_class d none (offer_step (request_in b) (slot_free s) (s.class d))
      (λ p. same_part f n backs cells (s.class d) _ v (offer_both s w b a).part refl (rw p u))
  keeps_act (work d) z a = others_class d none (work_step (s.class d)) (λ p. no _ (eq-eqb d c p) z)
  keeps_act (confirm j m) z a =
      others_class (class_of s j) (some j) (confirm_step j m (s.class (class_of s j)))
      (λ p. confirm_due f n backs cells j m v (s.class (class_of s j)) _ (confirm_both s w j m a).1 (rw p u))
  keeps_act (read d k) z a = u
  keeps_act (look j) z a = u
  keeps_act (query m) z a =
      by_test (named m c)
      (λ t. let j = query_both s w m c a l in
      rw t (more_behind f n backs cells (s.class c) _ v (reading (free_place s) s.confirmations ∷ []) j.part j.cells u))
      (λ g. rw g u)

  keeps : (k : Call) → (is_work c k && accepts s k) ≡ false → Due ((call s k).site.class c) f n backs cells v
  unfolding call
  keeps k z =
      by_test (accepts s k)
      (λ t. rw t (keeps_act k (by_test (is_work c k) (λ y. no true refl (rw (y, t) at z)) (λ g. g)) t))
      (λ g. rw g u)

-- an accepted work call for the class
module _ (f : Item → Bool) (lasts : Lasting f) (n backs : ℕ) (cells : List ℕ) (s : Site) (w : SoundSite s) (c v : ℕ) (l : c < 16) (u : Due (s.class c) f n backs cells (suc v)) where
  counts_work : accepts s (work c) ≡ true → Nearer ((call s (work c)).site.class c) f n backs cells v (call s (work c)).answer
  unfolding call act
  counts_work a = rw (a, eq-eqb c c refl) (work_due f lasts n backs cells v (s.class c) (work_step (s.class c)) (work_both s w c a).1 u)

  counts : (k : Call) → (is_work c k && accepts s k) ≡ true → Nearer ((call s k).site.class c) f n backs cells v (call s k).answer
  counts (work d) z =
      by_test (eqb d c)
      (λ t. let p : d ≡ c = eqb-true d c t in rw p (counts_work (rw p at (rw t at z))))
      (λ g. no false (rw g at z) refl)
  counts (offer b) z = no _ z refl
  counts (confirm j m) z = no _ z refl
  counts (read d k) z = no _ z refl
  counts (look j) z = no _ z refl
  counts (query m) z = no _ z refl

-- HISTORIES
pub from_sound : (s : Site) → SoundSite s → (h : List Call) → SoundSite (after_from s h)
from_sound s w [] = w
from_sound s w (k ∷ h) = call_sound (after_from s h) k (from_sound s w h)

-- one call more: its share of the count of work calls
abbrev share : Site → ℕ → Call → ℕ
share s c k = cond (is_work c k && accepts s k) 1 0

down : {X Y Z : Type 0} {v : ℕ} → (X × Y) ⊎ ((v ≡ 0) × Z) → 0 < v → X
down (inl x) b = x.0
down (inr y) b = absurd (omega arith)

module _ (f : Item → Bool) (lasts : Lasting f) (n backs : ℕ) (cells : List ℕ) where
  due_step : (s : Site) → SoundSite s → (c W x : ℕ) → c < 16 → (k : Call) → x + share s c k < W → Due (s.class c) f n backs cells (W - x)
      → Due ((call s k).site.class c) f n backs cells (W - (x + share s c k))
  due_step s w c W x l k m u =
      by_test (is_work c k && accepts s k)
      (λ t. let m' : x + 1 < W = rw t at m in
      let e : W - x ≡ suc (W - (x + 1)) = omega arith in
      rw t (down (counts f lasts n backs cells s w c (W - (x + 1)) l (rw e at u) k t) (omega arith)))
      (λ g. let e : x + 0 ≡ x = omega arith in
      rw (g, e) (keeps f n backs cells s w c (W - x) l u k g))

  due_after : (s : Site) → SoundSite s → (c W : ℕ) → c < 16 → Due (s.class c) f n backs cells W → (h : List Call) → works_from s c h < W
      → Due ((after_from s h).class c) f n backs cells (W - works_from s c h)
  unfolding works_from
  due_after s w c W l u [] m = subst (λ (x : ℕ). Due (s.class c) f n backs cells x) (omega arith) u
  due_after s w c W l u (k ∷ h) m =
      due_step (after_from s h) (from_sound s w h) c W (works_from s c h) l k m (due_after s w c W l u h (omega arith))

-- What holds on a site while x of the W work calls have been accepted
pub record Turn (f : Item → Bool) (n backs : ℕ) (cells : List ℕ) (s : Site) (c W x : ℕ) : Type 0 where
  -- it stands in the queue as before, W - x work calls from its end
  pub due : Due (s.class c) f n backs cells (W - x)
  -- a work call is not refused
  pub works : accepts s (work c) ≡ true
  -- if it is the W-th it is the end, and if not its answer speaks of others
  pub ends : suc x ≡ W → Ends f n cells (call s (work c)).answer
  pub others : suc x < W → Others f (call s (work c)).answer

-- ITS TURN COMES: as long as fewer than W work calls for its class were accepted it waits, and the W-th ends it
pub turn : (f : Item → Bool) → Lasting f → (n backs : ℕ) (cells : List ℕ) (s : Site) → SoundSite s → (c W : ℕ) → c < 16 → Due (s.class c) f n backs cells W
    → (h : List Call) → works_from s c h < W → Turn f n backs cells (after_from s h) c W (works_from s c h)
turn f lasts n backs cells s w c W l u h m = at (after_from s h) (from_sound s w h) (works_from s c h) m (due_after f lasts n backs cells s w c W l u h m)
  where
    at : (s : Site) → SoundSite s → (x : ℕ) → x < W → Due (s.class c) f n backs cells (W - x) → Turn f n backs cells s c W x
    at s w x m u = record { due = u; works = can; ends = λ e. end (near 0 (omega arith)); others = λ e. other (near (W - suc x) (omega arith)) e }
      where
        can : accepts s (work c) ≡ true
        can = can_work f n backs cells s w c (W - x) l u

        near : (v : ℕ) → W - x ≡ suc v → Nearer ((call s (work c)).site.class c) f n backs cells v (call s (work c)).answer × (W ≡ x + suc v)
        near v e = (counts_work f lasts n backs cells s w c v l (rw e at u) can, omega arith)

        end : Nearer ((call s (work c)).site.class c) f n backs cells 0 (call s (work c)).answer × (W ≡ x + 1) → Ends f n cells (call s (work c)).answer
        end y = elim y.0 [ inl z ↦ absurd (omega (arith, due_positive f n backs cells c _ _ 0 ((call_sound s (work c) w).each c l) z.0)) | inr z ↦ z.1 ]

        other : Nearer ((call s (work c)).site.class c) f n backs cells (W - suc x) (call s (work c)).answer × (W ≡ x + suc (W - suc x))
            → suc x < W → Others f (call s (work c)).answer
        other y lt = elim y.0 [ inl z ↦ z.1 | inr z ↦ absurd (omega arith) ]
