-- An event of each kind asks for its call, and what the call did is what the event did. Assumes nothing.
use Prim.Native.Nat.{ℕ, ◌-◌}
use native.Mathlib.Omega.{arith}
use mathlib.Core.Path.{◌≡◌, refl, sym, subst, ◌∙◌}
use mathlib.Core.Option.{none, some, none-ne-some, some-injective}
use mathlib.Core.List.{List, []}
use lib.ListN.{length, take, drop, length-drop}
use lib.Seq.{take_all}
use borrow.Author.Tests.{eq-eqb, ne_eqb}
use Rattle.plain.specs.Record.{byte, number}
use Rattle.plain.specs.Steps.{Answer, refused}
use Rattle.plain.specs.Site.{Call, offer, confirm, work, read}
use Rattle.site.specs.declared.Answer as D
use Rattle.site.specs.declared.Answer.TheVariants as v
use Rattle.site.specs.Held.{answer_of}
use Rattle.store.specs.Calls.{State}
use Rattle.promises.proofs.Promises.{promises}
use Rattle.promised.specs.Promised.{Promised}
use Rattle.line.specs.Text.{line_of}
use Rattle.event.specs.Event.{event_size, bad_event, call_of_kind, call_of, Happened}

-- THE CALL OF THE BYTES
module _ (b : List ℕ) where
  pub no_event : (length b ≡ event_size → ⊥) → call_of b ≡ none
  unfolding call_of
  no_event n = rw (ne_eqb (length b) event_size n)

  pub by_kind : (kind : ℕ) → length b ≡ event_size → byte b 0 ≡ kind → call_of b ≡ call_of_kind kind b
  unfolding call_of
  by_kind kind l e = rw (eq-eqb (length b) event_size l, e)

  pub no_kind : length b ≡ event_size → (byte b 0 ≡ 1 → ⊥) → (byte b 0 ≡ 2 → ⊥) → (byte b 0 ≡ 3 → ⊥) → (byte b 0 ≡ 4 → ⊥)
      → call_of b ≡ none
  no_kind l n₁ n₂ n₃ n₄ =
      by_kind (byte b 0) l refl
      ∙ rw (ne_eqb (byte b 0) 1 n₁, ne_eqb (byte b 0) 2 n₂, ne_eqb (byte b 0) 3 n₃, ne_eqb (byte b 0) 4 n₄)

  -- the record lent on is what stands behind the first eight bytes
  pub offers : length b ≡ event_size → byte b 0 ≡ 1 → call_of b ≡ some (offer (take (length b - 8) (drop 8 b)))
  offers l e = rw (take_all (length b - 8) (drop 8 b) (omega (arith, length-drop 8 b))) (by_kind 1 l e)

  pub confirms : (id n : ℕ) → length b ≡ event_size → byte b 0 ≡ 2 → id ≡ number b 8 → n ≡ number b 4 → call_of b ≡ some (confirm id n)
  confirms id n l e i j = rw (i, j) (by_kind 2 l e)

-- the cells of an entry say nothing of any other answer, and only a work call reads an entry
pub any_cells : (x : State) (k : Call) (y : State) (a : D.Answer) (cells : List ℕ) → ((c : ℕ) → k ≡ work c → ⊥) → Promised x k y (answer_of a [])
    → Promised x k y (answer_of a cells)
any_cells x k y (v.Entry place) cells n p = let r = promises.only_work_reads p.happens in absurd (n r.0 r.1)
any_cells x k y (v.Refused m) cells n p = p
any_cells x k y (v.Queued id class place slot) cells n p = p
any_cells x k y (v.Stepped id done) cells n p = p
any_cells x k y (v.Executed id) cells n p = p
any_cells x k y (v.Committed id number mark slot backs) cells n p = p
any_cells x k y (v.Waiting id w back) cells n p = p
any_cells x k y (v.Value m) cells n p = p
any_cells x k y (v.ToDo w backs) cells n p = p
any_cells x k y (v.Unconfirmed backs) cells n p = p
any_cells x k y (v.Begun place) cells n p = p

pub offers_no_work : (b : List ℕ) (c : ℕ) → offer b ≡ work c → ⊥
offers_no_work b c z = let o : ◌≡◌ {A = ℕ} 0 1 = cc in omega arith

pub confirms_no_work : (i n c : ℕ) → confirm i n ≡ work c → ⊥
confirms_no_work i n c z = let o : ◌≡◌ {A = ℕ} 0 1 = cc in omega arith

pub reads_no_work : (d k c : ℕ) → read d k ≡ work c → ⊥
reads_no_work d k c z = let o : ◌≡◌ {A = ℕ} 0 1 = cc in omega arith

-- nor of the line
pub same_line : (place : ℕ) (a : D.Answer) (cells : List ℕ) → line_of place (answer_of a []) ≡ line_of place (answer_of a cells)
same_line place (v.Entry p) cells = refl
same_line place (v.Refused m) cells = refl
same_line place (v.Queued id class p slot) cells = refl
same_line place (v.Stepped id done) cells = refl
same_line place (v.Executed id) cells = refl
same_line place (v.Committed id number mark slot backs) cells = refl
same_line place (v.Waiting id w back) cells = refl
same_line place (v.Value m) cells = refl
same_line place (v.ToDo w backs) cells = refl
same_line place (v.Unconfirmed backs) cells = refl
same_line place (v.Begun p) cells = refl

-- WHAT THE EVENT DID: the call, or nothing
pub made : (x : State) (b : List ℕ) (y : State) (a : Answer) (k : Call) → call_of b ≡ some k → Promised x k y a → Happened x b y a
made x b y a k e h = record {
  is_call = λ j q. subst (λ (i : Call). Promised x i y a) (some-injective k j (sym e ∙ q)) h;
  bad = λ q. absurd (none-ne-some k (sym q ∙ e));
}

pub not_made : (x : State) (b : List ℕ) → call_of b ≡ none → Happened x b x (refused bad_event)
not_made x b e = record {
  is_call = λ k q. absurd (none-ne-some k (sym e ∙ q));
  bad = λ q. (refl, refl);
}
