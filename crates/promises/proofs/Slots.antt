-- The slot promise: from its offer on a request keeps its slot, until the call with which it has both finished its work and been confirmed frees it.
-- Assumes nothing.
use Prim.Native.Nat.{ℕ, ◌+◌, ◌<◌}
use mathlib.Core.Path.{◌≡◌, sym, ap, ◌∙◌, subst}
use mathlib.Core.Logic.{◌⊎◌, inl, inr}
use mathlib.Core.Bool.{true, not}
use mathlib.Core.List.{List}
use lib.ListN.{length}
use Rattle.plain.specs.Ops.{Request}
use Rattle.plain.specs.Record.{request_in}
use Rattle.plain.specs.Queue.{slot_is, entry_of}
use Rattle.plain.specs.Steps.{Class, Answer}
use Rattle.plain.specs.Site as P
use Rattle.plain.specs.Site.{Call, Outcome, offer, call, accepts, is_free, slot_free}
use Rattle.plain.specs.Sound.{SoundSite}
use Rattle.plain.specs.Demands.{Keeps, Frees, Gives}
use Rattle.plain.proofs.SlotKept.{offered_keeps, keeps_or_frees, none_given}
use Rattle.slots.specs.Meaning.{is_used, slot_at}
use Rattle.store.specs.Meaning.{Same}
use Rattle.store.specs.Calls.{State, SoundState, Did, plain_of}
use Rattle.store.proofs.Asked.{free_test}
use Rattle.store.proofs.Offered.{same_refl}
use Rattle.store.proofs.Promise.{same_standing}
use Rattle.promises.specs.Runs.{Happens, Ready, is_accepted, Accepted, Run, start, more, wrong}
use Rattle.promises.specs.Demands.{GivenIn, FreedIn, KeepsSlot}
use Rattle.promises.proofs.Answers.{accepts_is}
use Rattle.promises.proofs.Stands.{acted, plain_sound, left, Stands, stands}

-- what is free on a site is free on one that is the same, and what is kept is kept
same_free : {s t : P.Site} → Same s t → (j : ℕ) → is_free s j ≡ is_free t j
unfolding is_free
same_free {s} {t} e j = rw (same_standing s t e (slot_is j))

same_keeps : {s t : P.Site} {q : Request} {j : ℕ} → Same s t → Keeps t q j → Keeps s q j
same_keeps {s} {t} {q} {j} e u = record {
  it = u.it;
  class = u.class;
  queued = ap (λ (k : Class). entry_of q.id k.queue) (e.class q.class u.class) ∙ u.queued;
  request = u.request;
  slot = u.slot;
  used = same_free e j ∙ u.used;
  not_both = u.not_both;
}

same_frees : {s t : P.Site} {k : Call} {o : Outcome} {a : Answer} {q : Request} {j : ℕ} → a ≡ o.answer → Same t o.site → Frees s k o q j
    → Frees s k (record { answer = a; site = t }) q j
same_frees {j = j} p e f = record {
  kept = f.kept;
  number = f.number;
  confirmed = f.confirmed;
  both = f.both;
  mark = f.mark;
  says = p ∙ f.says;
  free = same_free e j ∙ f.free;
}

module _ {x : State} (g : Ready x) (q : Request) (j : ℕ) where
  abbrev After : {h : List Call} {y : State} → Run x h y → Type 0
  After {h} {y} r = (Keeps (plain_of y) q j × (GivenIn r j → ⊥)) ⊎ FreedIn r q j

  -- one call, on a site where the slot is kept
  one_more : {h : List Call} {y z : State} {k : Call} {a : Answer} (r : Run x h y) (e : Happens y k z a) → Keeps (plain_of y) q j
      → (GivenIn r j → ⊥) → After (more k z a r e)
  one_more {h} {y} {z} {k} {a} r e u n = go (keeps_or_frees s w q j u k)
    where
      i : Stands (plain_of x) h y
      i = stands g (same_refl (plain_of x)) r

      s : P.Site
      s = plain_of y

      w : SoundSite s
      w = plain_sound e.before i.sound

      d : Did y k z a
      d = e.called.did i.cells i.sound

      not_given : Gives a j ⊎ GivenIn r j → ⊥
      not_given (inl v) = none_given s w q j u k (subst (λ (b : Answer). Gives b j) d.answer v)
      not_given (inr v) = n v

      go : Keeps (call s k).site q j ⊎ Frees s k (call s k) q j → After (more k z a r e)
      go (inl v) = inl (same_keeps d.site v, not_given)
      go (inr f) = inr (inl (same_frees d.answer d.site f, n))

  kept_run : Keeps (plain_of x) q j → {h : List Call} {y : State} (r : Run x h y) → After r
  kept_run u start = inl (u, (λ v. v))
  kept_run u (more k z a r e) = elim (kept_run u r) [ inl v ↦ one_more r e v.0 v.1 | inr f ↦ inr (inr f) ]
  kept_run u (wrong base wrk k z a r n e) =
      elim (kept_run u r) [ inl v ↦ inl (subst (λ (t : State). Keeps (plain_of t) q j) (sym (left base wrk n e)) v.0, v.1) | inr f ↦ inr f ]

pub keeps_slot : {x y : State} {b : List ℕ} {a : Answer} → Happens x (offer b) y a → Accepted a → KeepsSlot b y a
keeps_slot {x} {y} {b} {a} e t =
    let g = acted e t in
    let d : Did x (offer b) y a = e.called.did g.0 g.1 in
    let accepted : accepts (plain_of x) (offer b) ≡ true = sym (accepts_is (plain_of x) (offer b)) ∙ ap is_accepted (sym d.answer) ∙ t in
    let o = offered_keeps (plain_of x) (plain_sound e.before g.1) b accepted in
    record {
      place = length ((plain_of x).class (request_in b).class).queue + 1;
      slot = slot_free (plain_of x);
      says = d.answer ∙ o.0;
      later = λ h z r. kept_run (d.cells, d.sound) (request_in b) (slot_free (plain_of x)) (same_keeps d.site o.1) r;
    }

pub slot_was_free : {x y : State} {k : Call} {a : Answer} → Happens x k y a → SoundState x → (j : ℕ) → j < 128
    → is_free (plain_of x) j ≡ not (is_used (slot_at x.site.slots j))
slot_was_free {x} e s j l = free_test x.site e.before s.laid x.committed x.working j l
