-- Two outcomes that a call's promise allows are equal; a plain site's soundness goes over to one that is the same. Assumes nothing.
use Prim.Native.Nat.{ℕ, ◌<◌}
use native.Mathlib.Omega.{arith}
use mathlib.Core.Path.{◌≡◌, refl, sym, ap, ◌∙◌}
use mathlib.Core.Logic.{◌⊎◌, inl, inr}
use mathlib.Core.Bool.{Bool}
use lib.Dec.{eqb}
use lib.ListN.{length, get_or}
use borrow.Author.Tests.{eqb-true, eqb-false}
use Rattle.plain.specs.Steps as K
use Rattle.plain.specs.Site as S
use Rattle.plain.proofs.Kept.{call_sound}
use Rattle.plain.proofs.Tests.{by_test}
use Rattle.plain.specs.Queue.{number_is}
use Rattle.plain.specs.Sound.{SoundSite, strange}
use Rattle.store.proofs.Canonical.{canonical, canonical_cells}
use Rattle.store.proofs.Decided.{sound_decided}
use Rattle.store.proofs.Meant.{to_plain, from_plain}
use Rattle.plain.proofs.Sums.{sum_same}
use Rattle.plain.specs.Queue.{Item, id_is, slot_is, reading_is, has_number, count, confirmed_costs}
use Rattle.store.specs.Calls.{Called, Did, Refused, RightCells, SoundState, State, plain_of}
use Rattle.store.specs.Meaning.{Same, plain, plain_class}
use Rattle.store.specs.Sound.{Laid, SumsOk}
use Rattle.store.specs.Store.{Shaped}

pub same_sym : {a b : S.Site} → Same a b → Same b a
same_sym e = record { class = λ c l. sym (e.class c l); confirmations = sym e.confirmations; commits = sym e.commits; queries = sym e.queries; kept = λ n r. sym (e.kept n (rw e.confirmations r)) }

pub same_trans : {a b c : S.Site} → Same a b → Same b c → Same a c
same_trans e f = record { class = λ c l. e.class c l ∙ f.class c l; confirmations = e.confirmations ∙ f.confirmations; commits = e.commits ∙ f.commits; queries = e.queries ∙ f.queries; kept = λ n r. e.kept n r ∙ f.kept n (rw (← e.confirmations) r) }

-- in the one as many requests pass a test as in the other
pub same_standing : (a b : S.Site) → Same a b → (f : Item → Bool) → S.standing f a ≡ S.standing f b
unfolding S.standing
same_standing a b e f = sum_same (λ c. count f (a.class c).queue) (λ c. count f (b.class c).queue) 16 (λ c l. ap (λ (k : K.Class). count f k.queue) (e.class c l))

pub same_sound : (a b : S.Site) → Same a b → SoundSite b → SoundSite a
same_sound a b e h = record {
  each = λ c l. rw (e.class c l, e.confirmations) (h.each c l);
  slots = λ j. rw (same_standing a b e (slot_is j)) (h.slots j);
  ids = λ j. rw (same_standing a b e (id_is j)) (h.ids j);
  numbers = λ j. rw (same_standing a b e (number_is j)) (h.numbers j);
  entries = λ c l p. rw (e.class c l) (h.entries c l p);
  agree = λ p m n x y. h.agree p m n (omega (arith, same_standing a b e (reading_is p m))) (omega (arith, same_standing a b e (reading_is p n)));
  tally = omega (arith, e.confirmations, e.commits, h.tally, same_standing a b e has_number);
  backs = λ c l. rw (e.class c l, e.confirmations, e.queries) (h.backs c l);
  kept_not_zero = λ n r. rw (e.kept n r) (h.kept_not_zero n (there r));
  kept_differ = λ m n r q z. h.kept_differ m n (there r) (there q) (sym (e.kept m r) ∙ z ∙ e.kept n q);
  kept_queued = λ n r. rw (e.kept n r, same_standing a b e (strange n (b.kept n))) (h.kept_queued n (there r));
}
  where
    there : {n : ℕ} → S.Recent a.confirmations n → S.Recent b.confirmations n
    there r = rw (← e.confirmations) r

-- the sums that stand with the classes are right if they are those of the plain classes
pub sums_of : (y : State) (b : S.Site) → Same (plain_of y) b → ((c : ℕ) → c < 16 → get_or y.site.sums c 0 ≡ confirmed_costs (b.class c).queue) → SumsOk y.site
unfolding plain plain_class
sums_of y b e h c l = h c l ∙ sym (ap (λ (k : K.Class). confirmed_costs k.queue) (e.class c l))

-- a call that leaves the slots and places laid out, and does what the plain call does, leaves the site sound
pub sound_kept : (x y : State) (k : S.Call) → Shaped x.site → length y.site.slots ≡ 128 → length y.site.queries ≡ 8 → SoundState x → Laid y.site
    → Same (plain_of y) (S.call (plain_of x) k).site
    → ((c : ℕ) → c < 16 → get_or y.site.sums c 0 ≡ confirmed_costs ((S.call (plain_of x) k).site.class c).queue) → SoundState y
sound_kept x y k v n n' q h e sums =
    from_plain y.site n n' h y.committed y.working (sums_of y (S.call (plain_of x) k).site e sums)
    (same_sound (plain_of y) (S.call (plain_of x) k).site e (call_sound (plain_of x) k (to_plain x.site v.slots v.queries q.laid x.committed x.working q)))

-- any two outcomes of a call are equal
module _ (x : State) (k : S.Call) (y z : State) (a b : K.Answer) (u : Shaped x.site) (v : Shaped y.site) (w : Shaped z.site) where
  one_did : Did x k y a → Did x k z b → (y ≡ z) × (a ≡ b)
  one_did p q =
      let e = same_trans p.site (same_sym q.site) in
      let s = canonical y.site z.site y.committed y.working z.committed z.working v w p.sound.laid q.sound.laid e p.sound.sums_right q.sound.sums_right in
      let c = canonical_cells y.site z.site y.committed y.working z.committed z.working v w p.sound.laid q.sound.laid e
      p.cells.0 p.cells.1 q.cells.0 q.cells.1 in
      ((λ i. record { site = s i; committed = c.0 i; working = c.1 i }), p.answer ∙ sym q.answer)

  one_refused : (n : ℕ) → Refused n x y a → Refused n x z b → (y ≡ z) × (a ≡ b)
  one_refused n p q = (p.untouched ∙ sym q.untouched, p.answer ∙ sym q.answer)

  pub one_outcome : Called x k y a → Called x k z b → (y ≡ z) × (a ≡ b)
  one_outcome p q =
      by_test (eqb (length x.committed) 1024)
      (λ t. by_test (eqb (length x.working) 1024)
      (λ u. right (eqb-true _ _ t, eqb-true _ _ u))
      (λ f. wrong (λ r. eqb-false (length x.working) 1024 f r.1)))
      (λ f. wrong (λ r. eqb-false (length x.committed) 1024 f r.0))
    where
      wrong : (RightCells x → ⊥) → (y ≡ z) × (a ≡ b)
      wrong n = one_refused 1 (p.wrong_cells n) (q.wrong_cells n)

      right : RightCells x → (y ≡ z) × (a ≡ b)
      right r = go (sound_decided x.site u x.committed x.working)
        where
          go : SoundState x ⊎ (SoundState x → ⊥) → (y ≡ z) × (a ≡ b)
          go (inl s) = one_did (p.did r s) (q.did r s)
          go (inr n) = one_refused 2 (p.unsound r n) (q.unsound r n)

-- the three ways to keep the promise
module _ (x : State) (k : S.Call) where
  pub called_wrong : (RightCells x → ⊥) → Called x k x (K.refused 1)
  called_wrong n = record {
    wrong_cells = λ m. record { untouched = refl; answer = refl };
    unsound = λ r. absurd (n r);
    did = λ r. absurd (n r);
  }

  pub called_unsound : RightCells x → (SoundState x → ⊥) → Called x k x (K.refused 2)
  called_unsound r n = record {
    wrong_cells = λ m. absurd (m r);
    unsound = λ r m. record { untouched = refl; answer = refl };
    did = λ r s. absurd (n s);
  }

  pub called_did : (y : State) (a : K.Answer) → RightCells x → SoundState x → Did x k y a → Called x k y a
  called_did y a r s d = record {
    wrong_cells = λ m. absurd (m r);
    unsound = λ r n. absurd (n s);
    did = λ r s. d;
  }
