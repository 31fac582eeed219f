-- THE LAWS OF THE TEXT FORM: what write and read answer is determined, each undoes the other, and nothing else is read. Assumes nothing.
use Prim.Native.Nat.{ℕ, ◌<◌, ◌≤◌}
use native.Mathlib.Omega.{arith}
use mathlib.Core.Path.{◌≡◌, refl, sym, ap, ◌∙◌, subst}
use mathlib.Core.Bool.{true}
use mathlib.Core.Option.{Option, none, some, none-ne-some, some-injective}
use mathlib.Core.List.{List, ◌++◌}
use lib.Dec.{ltb}
use lib.ListN.{length, take, drop}
use lib.Seq.{take-append_seam}
use borrow.Author.Tests.{ltb-true, ltb-false}
use Rattle.plain.specs.Sizes.{record_size}
use Rattle.plain.specs.Ops.{Request, valid}
use Rattle.plain.specs.Record.{record_rules, is_record, request_in, request}
use Rattle.plain.proofs.Tests.{by_test, all_true}
use Rattle.text.specs.Text.{text_of}
use Rattle.text.specs.Lines.{line_behind, FirstBad}
use Rattle.text.specs.Calls.{Answer, wrote, refused, refused_at, Handed, Wrote, Took, took, bad}
use Rattle.text.proofs.OneText.{one_request, at_most_168}
use Rattle.text.proofs.Encoding.{one_record, sixty_four}

-- by what a request comes to
by_request : {X : Type 0} (o : Option Request) → (o ≡ none → X) → ((r : Request) → o ≡ some r → X) → X
by_request none f g = f refl
by_request (some r) f g = g r refl

-- the request of a record is valid
pub valid_request : (b : List ℕ) (r : Request) → request b ≡ some r → valid r ≡ true
unfolding request is_record
valid_request b r e =
    by_test (is_record b)
    (λ y.
    let q : request_in b ≡ r = some-injective (request_in b) r (rw y at e) in
    rw q at (all_true (record_rules b) y).1.1.1.1.0)
    (λ n. absurd (none-ne-some r (rw n at e)))

-- WHAT IS HANDED OVER
same_handed : (t before : List ℕ) (a a' : Answer) (after after' : List ℕ) → Handed t before a after → Handed t before a' after'
    → (a ≡ a') × (after ≡ after')
same_handed t before a a' after after' h k =
    by_test (ltb (length before) (length t))
    (λ y.
    let l = ltb-true (length before) (length t) y in
    ((h.short l).0 ∙ sym (k.short l).0, (h.short l).1 ∙ sym (k.short l).1))
    (λ n.
    let l = ltb-false (length before) (length t) n in
    ((h.fits l).0 ∙ sym (k.fits l).0, (h.fits l).1 ∙ sym (k.fits l).1))

record Whole (t : List ℕ) (n : ℕ) (after : List ℕ) : Type 0 where
  long : n ≡ length t
  is : take n after ≡ t

whole : (t before : List ℕ) (n : ℕ) (after : List ℕ) → Handed t before (wrote n) after → Whole t n after
whole t before n after h =
    by_test (ltb (length before) (length t))
    (λ y.
    let q : wrote n ≡ refused 16 = (h.short (ltb-true (length before) (length t) y)).0 in
    let z : ◌≡◌ {A = ℕ} 0 1 = cc in
    absurd (omega arith))
    (λ f.
    let p = h.fits (ltb-false (length before) (length t) f) in
    let q : wrote n ≡ wrote (length t) = p.0 in
    let l : n ≡ length t = cc in
    record { long = l; is = rw (l, p.1) (take-append_seam t (drop (length t) before)) })

-- ONE OUTCOME
pub one_outcome_of_write : (bytes before : List ℕ) (a a' : Answer) (after after' : List ℕ) → Wrote bytes before a after
    → Wrote bytes before a' after' → (a ≡ a') × (after ≡ after')
one_outcome_of_write bytes before a a' after after' h k =
    by_request (request bytes)
    (λ e.
    let p = h.no_record e in
    let q = k.no_record e in
    (p.0 ∙ sym q.0, p.1 ∙ sym q.1))
    (λ r e. same_handed (text_of r) before a a' after after' (h.holds_record r e) (k.holds_record r e))

-- a text has one first bad line, and a valid one has none
no_later : (t : List ℕ) (n m : ℕ) → FirstBad t n → FirstBad t m → n < m → ⊥
no_later t n m h k l = h.none k.request k.is_valid (λ j s. k.before j (omega arith))

pub one_bad_line : (t : List ℕ) (n m : ℕ) → FirstBad t n → FirstBad t m → n ≡ m
one_bad_line t n m h k =
    by_test (ltb n m)
    (λ y. absurd (no_later t n m h k (ltb-true n m y)))
    (λ f. by_test (ltb m n)
    (λ y. absurd (no_later t m n k h (ltb-true m n y)))
    (λ g. omega (arith, ltb-false n m f, ltb-false m n g)))

pub valid_is_not_bad : (t : List ℕ) (n : ℕ) (r : Request) → valid r ≡ true → t ≡ text_of r → FirstBad t n → ⊥
valid_is_not_bad t n r v e h = h.none r v (λ k l. ap (line_behind k) e)

pub one_outcome_of_read : (t before : List ℕ) (a a' : Answer) (after after' : List ℕ) → Took t before a after → Took t before a' after'
    → (a ≡ a') × (after ≡ after')
one_outcome_of_read t before a a' after after' (took b r e q h) (took c s f p k) =
    let same : r ≡ s = one_request r s (sym q ∙ p) in
    let bytes : b ≡ c = one_record b c s (e ∙ ap some same) f in
    same_handed c before a a' after after' (subst (λ (x : List ℕ). Handed x before a after) bytes h) k
one_outcome_of_read t before a a' after after' (took b r e q h) (bad n f p k) = absurd (valid_is_not_bad t n r (valid_request b r e) q f)
one_outcome_of_read t before a a' after after' (bad n f p k) (took b r e q h) = absurd (valid_is_not_bad t n r (valid_request b r e) q f)
one_outcome_of_read t before a a' after after' (bad n f p k) (bad m g q l) =
    (p ∙ ap (refused_at 15) (one_bad_line t n m f g) ∙ sym q, k ∙ sym l)

-- A TEXT THAT IS READ IS THE TEXT OF WHAT IT GAVE
pub record Gave (text : List ℕ) (n : ℕ) (after : List ℕ) : Type 0 where
  pub long : n ≡ record_size
  pub request_is : Request
  pub holds_record : request (take n after) ≡ some request_is
  pub is_text : text ≡ text_of request_is

pub text_of_what_it_gave : (text before : List ℕ) (n : ℕ) (after : List ℕ) → Took text before (wrote n) after → Gave text n after
text_of_what_it_gave text before n after (took b r e q h) =
    let w = whole b before n after h in
    record { long = w.long ∙ sixty_four b r e; request_is = r; holds_record = ap request w.is ∙ e; is_text = q }
text_of_what_it_gave text before n after (bad m f p k) = let z : ◌≡◌ {A = ℕ} 0 1 = cc in absurd (omega arith)

-- READING WHAT WAS WRITTEN GIVES THE SAME RECORD
pub reading_what_was_written : (bytes before : List ℕ) (n : ℕ) (after lent : List ℕ) (a : Answer) (left : List ℕ) → Wrote bytes before (wrote n) after
    → Took (take n after) lent a left → Handed bytes lent a left
reading_what_was_written bytes before n after lent a left h k =
    by_request (request bytes)
    (λ e.
    let q : wrote n ≡ refused 3 = (h.no_record e).0 in
    let z : ◌≡◌ {A = ℕ} 0 1 = cc in
    absurd (omega arith))
    (λ r e. go r e (whole (text_of r) before n after (h.holds_record r e)).is k)
  where
    go : (r : Request) → request bytes ≡ some r → {t : List ℕ} → t ≡ text_of r → Took t lent a left → Handed bytes lent a left
    go r e q (took b s f p w) =
        let same : r ≡ s = one_request r s (sym q ∙ p) in
        subst (λ (x : List ℕ). Handed x lent a left) (one_record b bytes s f (e ∙ ap some same)) w
    go r e q (bad m f p w) = absurd (valid_is_not_bad _ m r (valid_request bytes r e) q f)

-- and writing what was read gives the same text
pub writing_what_was_read : (text before : List ℕ) (n : ℕ) (after lent : List ℕ) (a : Answer) (left : List ℕ) → Took text before (wrote n) after
    → Wrote (take n after) lent a left → Handed text lent a left
writing_what_was_read text before n after lent a left h k =
    let g = text_of_what_it_gave text before n after h in
    subst (λ (x : List ℕ). Handed x lent a left) (sym g.is_text) (k.holds_record g.request_is g.holds_record)

-- no text is longer than 168 bytes
pub wrote_at_most_168 : (bytes before : List ℕ) (a : Answer) (n : ℕ) (after : List ℕ) → Wrote bytes before a after → a ≡ wrote n → n ≤ 168
wrote_at_most_168 bytes before a n after h e =
    by_request (request bytes)
    (λ q.
    let p : a ≡ refused 3 = (h.no_record q).0 in
    let z : ◌≡◌ {A = ℕ} 0 1 = cc in
    absurd (omega arith))
    (λ r q.
    let w = whole (text_of r) before n after (subst (λ (x : Answer). Handed (text_of r) before x after) e (h.holds_record r q)) in
    omega (arith, w.long, at_most_168 r (valid_request bytes r q)))

pub no_longer : (bytes : List ℕ) (r : Request) → request bytes ≡ some r → length (text_of r) ≤ 168
no_longer bytes r e = at_most_168 r (valid_request bytes r e)

-- and a buffer with room for one takes any
pub with_room : (bytes before : List ℕ) (a : Answer) (after : List ℕ) (r : Request) → 168 ≤ length before → request bytes ≡ some r
    → Wrote bytes before a after → (a ≡ wrote (length (text_of r))) × (after ≡ text_of r ++ drop (length (text_of r)) before)
with_room bytes before a after r l e h = (h.holds_record r e).fits (omega (arith, no_longer bytes r e))
