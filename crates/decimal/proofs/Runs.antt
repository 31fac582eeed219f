-- A number's digits tell it: they are a run of digits that begins with no zero, so what stands before a byte that is no digit is one number's
-- text only. Assumes nothing.
use Prim.Native.Nat.{ℕ, zero, suc, ◌+◌, ◌-◌, ◌*◌, ◌/◌, ◌%◌, ◌^◌, ◌≤◌, ◌<◌}
use native.Mathlib.Omega.{arith}
use native.Mathlib.Numerals.{add-one}
use mathlib.Core.Path.{◌≡◌, refl, sym, ap, ◌∙◌, subst}
use mathlib.Core.List.{List, [], ◌∷◌, ◌++◌, append_assoc}
use lib.Dec.{ltb}
use lib.ListN.{length, get_or, drop, length-append, length-drop}
use lib.Seq.{drop-cons}
use borrow.Author.Tests.{ltb-true, ltb-false, lt-ltb}
use Rattle.std.specs.Prelude.{Some, None}
use Rattle.io.specs.Digits.{hex_digit_ascii}
use Rattle.plain.specs.Sound.{All}
use Rattle.plain.proofs.Tests.{by_test}
use Rattle.decimal.specs.Decimal.{count, decimal, Digit, NoNumber, EndsAt}
use Rattle.decimal.proofs.Digits.{small, larger, count_fewest, is_decimal}

-- DIGIT BY DIGIT
glyph_is : (d : ℕ) → d < 10 → hex_digit_ascii d ≡ 48 + d
glyph_is d h = rw (lt-ltb d 10 h)

pub one_digit : (d : ℕ) → d < 10 → decimal d ≡ (48 + d) ∷ []
one_digit d h =
    let m : d % 10 ≡ d = omega arith in
    sym (is_decimal d 1 (small d h)) ∙ ap (λ (x : ℕ). x ∷ []) (ap hex_digit_ascii m ∙ glyph_is d h)

pub digit_more : (v d : ℕ) → 0 < v → d < 10 → decimal (10 * v + d) ≡ decimal v ++ ((48 + d) ∷ [])
unfolding decimal
digit_more v d h l =
    let q : (10 * v + d) / 10 ≡ v = omega arith in
    let m : (10 * v + d) % 10 ≡ d = omega arith in
    let k = count v v in
    let f = larger (10 * v + d) k (omega arith) (rw q (count_fewest v v (omega arith))) in
    sym (is_decimal (10 * v + d) (suc k) f) ∙ rw (q, m, glyph_is d l)

-- what holds of the digits, and of a number with one more, holds of each number
pub by_digits : (P : ℕ → Type 0) → ((d : ℕ) → d < 10 → P d) → ((v d : ℕ) → 0 < v → d < 10 → P v → P (10 * v + d)) → (n : ℕ) → P n
by_digits P one more n = go n n (omega arith)
  where
    go : (most n : ℕ) → n ≤ most → P n
    go zero n h = one n (omega arith)
    go (suc most) n h =
        by_test (ltb n 10)
        (λ y. one n (ltb-true n 10 y))
        (λ f. let e : 10 * (n / 10) + n % 10 ≡ n = omega arith in
        let l = ltb-false n 10 f in
        subst P e (more (n / 10) (n % 10) (omega arith) (omega arith) (go most (n / 10) (omega arith))))

-- EACH IS A DIGIT
pub all_append : (P : ℕ → Type 0) (a b : List ℕ) → All P a → All P b → All P (a ++ b)
all_append P [] b h k = k
all_append P (x ∷ a) b h k = (h.0, all_append P a b h.1 k)

pub all_digits : (n : ℕ) → All Digit (decimal n)
all_digits =
    by_digits (λ n. All Digit (decimal n))
    (λ d l. rw (one_digit d l) ((omega arith, omega arith), tt))
    (λ v d h l p. rw (digit_more v d h l) (all_append Digit (decimal v) _ p ((omega arith, omega arith), tt)))

-- THE FIRST IS NO ZERO, but for 0
pub record Front (n : ℕ) : Type 0 where
  pub first : ℕ
  pub rest : List ℕ
  pub is : decimal n ≡ first ∷ rest
  pub digit : Digit first
  pub no_zero : first ≡ 48 → n ≡ 0

pub front : (n : ℕ) → Front n
front =
    by_digits Front
    (λ d l. record { first = 48 + d; rest = []; is = one_digit d l; digit = (omega arith, omega arith); no_zero = λ e. omega arith })
    (λ v d h l p. record {
      first = p.first;
      rest = p.rest ++ ((48 + d) ∷ []);
      is = digit_more v d h l ∙ ap (λ (t : List ℕ). t ++ ((48 + d) ∷ [])) p.is;
      digit = p.digit;
      no_zero = λ e. let z : v ≡ 0 = p.no_zero e in absurd (omega arith);
    })

-- THE NUMBER OF A RUN OF DIGITS
abbrev value : ℕ → List ℕ → ℕ
value v [] = v
value v (d ∷ l) = value (10 * v + (d - 48)) l

value_grows : (v : ℕ) (l : List ℕ) → v ≤ value v l
value_grows v [] = omega arith
value_grows v (d ∷ l) = omega (arith, value_grows (10 * v + (d - 48)) l)

value_append : (v : ℕ) (a b : List ℕ) → value v (a ++ b) ≡ value (value v a) b
value_append v [] b = refl
value_append v (d ∷ a) b = value_append (10 * v + (d - 48)) a b

value_decimal : (n : ℕ) → value 0 (decimal n) ≡ n
value_decimal =
    by_digits (λ n. value 0 (decimal n) ≡ n)
    (λ d l. rw (one_digit d l) (omega arith))
    (λ v d h l p. rw (digit_more v d h l) (value_append 0 (decimal v) ((48 + d) ∷ []) ∙ rw p (omega arith)))

-- a number whose digits begin with those of another is no smaller
pub no_smaller : (v n : ℕ) (more : List ℕ) → decimal n ≡ decimal v ++ more → v ≤ n
no_smaller v n more e =
    let p : n ≡ value v more =
    sym (value_decimal n) ∙ ap (value 0) e ∙ value_append 0 (decimal v) more ∙ ap (λ (k : ℕ). value k more) (value_decimal v) in
    omega (arith, value_grows v more)

-- RUNS OF DIGITS: what stands behind one is no digit
pub same_run : (a b : List ℕ) (x y : ℕ) (r s : List ℕ) → All Digit a → All Digit b → (Digit x → ⊥) → (Digit y → ⊥)
    → a ++ (x ∷ r) ≡ b ++ (y ∷ s) → (a ≡ b) × (x ≡ y) × (r ≡ s)
same_run [] [] x y r s h k m n e = (refl, (cc), (cc))
same_run [] (d ∷ b) x y r s h k m n e = let q : d ≡ x = cc in absurd (m (subst Digit q k.0))
same_run (d ∷ a) [] x y r s h k m n e = let q : d ≡ y = cc in absurd (n (subst Digit q h.0))
same_run (d ∷ a) (c ∷ b) x y r s h k m n e =
    let q : d ≡ c = cc in
    let t : a ++ (x ∷ r) ≡ b ++ (y ∷ s) = cc in
    let i = same_run a b x y r s h.1 k.1 m n t in
    let j : a ≡ b = i.0 in
    ((cc), i.1, i.2)

pub in_front : (a r b : List ℕ) (y : ℕ) (s : List ℕ) → All Digit a → (Digit y → ⊥) → a ++ r ≡ b ++ (y ∷ s) → (c : List ℕ) × (b ≡ a ++ c)
in_front [] r b y s h n e = (b, refl)
in_front (d ∷ a) r [] y s h n e = let q : d ≡ y = cc in absurd (n (subst Digit q h.0))
in_front (d ∷ a) r (c ∷ b) y s h n e =
    let q : c ≡ d = cc in
    let t : a ++ r ≡ b ++ (y ∷ s) = cc in
    let i = in_front a r b y s h.1 n t in
    let j : b ≡ a ++ i.0 = i.1 in
    (i.0, (cc))

-- TWO NUMBERS, each with a byte behind it that is no digit
pub same_number : (m n x y : ℕ) (r s : List ℕ) → (Digit x → ⊥) → (Digit y → ⊥) → decimal m ++ (x ∷ r) ≡ decimal n ++ (y ∷ s)
    → (m ≡ n) × (x ≡ y) × (r ≡ s)
same_number m n x y r s h k e =
    let i = same_run (decimal m) (decimal n) x y r s (all_digits m) (all_digits n) h k e in
    (sym (value_decimal m) ∙ ap (value 0) i.0 ∙ value_decimal n, i.1, i.2)

-- a number below 10 to the k has at most k digits
pub at_most : (n k : ℕ) → 0 < k → n < 10 ^ k → length (decimal n) ≤ k
at_most =
    by_digits (λ n. (k : ℕ) → 0 < k → n < 10 ^ k → length (decimal n) ≤ k)
    (λ d l k h m. rw (one_digit d l) (omega arith))
    (λ v d h l p k g m. rw (digit_more v d h l) (more v d k h g (λ j i. p j i) m))
  where
    more : (v d k : ℕ) → 0 < v → 0 < k → ((j : ℕ) → 0 < j → v < 10 ^ j → length (decimal v) ≤ j) → 10 * v + d < 10 ^ k
        → length (decimal v ++ ((48 + d) ∷ [])) ≤ k
    more v d zero h g p m = absurd (omega arith)
    more v d (suc zero) h g p m = absurd (omega arith)
    more v d (suc (suc j)) h g p m = omega (arith, p (suc j) (omega arith) (omega arith), length-append (decimal v) ((48 + d) ∷ []))

-- one digit more
pub longer : (v d : ℕ) (r l : List ℕ) → d < 10 → 0 < v → l ≡ decimal v ++ ((48 + d) ∷ r) → l ≡ decimal (10 * v + d) ++ r
longer v d r l k h p =
    p ∙ sym (append_assoc (decimal v) ((48 + d) ∷ []) r) ∙ ap (λ (t : List ℕ). t ++ r) (sym (digit_more v d h k))

-- WHERE NO NUMBER STANDS: none up to `most`, with a stop behind it
module _ (stop most : ℕ) (not_digit : Digit stop → ⊥) where
  -- no digit comes first
  pub no_text : NoNumber stop most []
  no_text n more h e = let f = front n in let z : ◌≡◌ {A = ℕ} 0 1 = cc f.is in omega arith

  pub no_digit : (x : ℕ) (l : List ℕ) → (Digit x → ⊥) → NoNumber stop most (x ∷ l)
  no_digit x l k n more h e =
      let f = front n in
      let p : x ∷ l ≡ (f.first ∷ f.rest) ++ (stop ∷ more) = e ∙ ap (λ (t : List ℕ). t ++ (stop ∷ more)) f.is in
      let q : f.first ≡ x = cc in
      k (subst Digit q f.digit)

  -- a number stands there, and then the text ends, or goes on with neither a digit nor the stop
  pub ended : (v : ℕ) (l : List ℕ) → l ≡ decimal v ++ [] → NoNumber stop most l
  ended v l p n more h e =
      let i = in_front (decimal v) [] (decimal n) stop more (all_digits v) not_digit (sym p ∙ e) in
      let q : length (decimal v ++ []) ≡ length (decimal n ++ (stop ∷ more)) = ap length (sym p ∙ e) in
      let j : length (decimal n) ≡ length (decimal v ++ i.0) = ap length i.1 in
      omega (arith, length-append (decimal v) [], length-append (decimal n) (stop ∷ more), length-append (decimal v) i.0)

  pub stopped : (v x : ℕ) (r l : List ℕ) → (Digit x → ⊥) → (x ≡ stop → ⊥) → l ≡ decimal v ++ (x ∷ r) → NoNumber stop most l
  stopped v x r l k ne p n more h e = ne (same_number v n x stop r more k not_digit (sym p ∙ e)).1

  -- a zero in front, and a number too large
  pub zero_first : (x : ℕ) (r l : List ℕ) → Digit x → l ≡ decimal 0 ++ (x ∷ r) → NoNumber stop most l
  zero_first x r l k p n more h e =
      let z : l ≡ (48 ∷ x ∷ []) ++ r = p ∙ ap (λ (t : List ℕ). t ++ (x ∷ r)) (one_digit 0 (omega arith)) in
      let i = in_front (48 ∷ x ∷ []) r (decimal n) stop more ((omega arith, omega arith), (k, tt)) not_digit (sym z ∙ e) in
      let f = front n in
      let a : f.first ∷ f.rest ≡ 48 ∷ x ∷ i.0 = sym f.is ∙ i.1 in
      let b : n ≡ 0 = f.no_zero (cc) in
      let o : decimal n ≡ 48 ∷ [] = ap decimal b ∙ one_digit 0 (omega arith) in
      let w : length {A = ℕ} (48 ∷ []) ≡ length (48 ∷ x ∷ i.0) = ap length (sym o ∙ i.1) in
      omega arith

  pub too_large : (v d : ℕ) (r l : List ℕ) → d < 10 → 0 < v → most < 10 * v + d → l ≡ decimal v ++ ((48 + d) ∷ r) → NoNumber stop most l
  too_large v d r l k h m p n more g e =
      let i = in_front (decimal (10 * v + d)) r (decimal n) stop more (all_digits (10 * v + d)) not_digit (sym (longer v d r l k h p) ∙ e) in
      omega (arith, no_smaller (10 * v + d) n i.0 i.1)

-- the byte at a place of a text stands before the rest
pub at_place : (text : List ℕ) (i : ℕ) → i < length text → drop i text ≡ get_or text i 0 ∷ drop (i + 1) text
at_place text i h = rw add-one (drop-cons text i 0 h)

-- WHERE READING ENDS
pub stayed : (at : ℕ) → EndsAt at None
stayed at = record { past = tt; stays = refl }

pub went_past : (text : List ℕ) (at i : ℕ) (value : ℕ) → at ≤ length text → i < length text → drop at text ≡ decimal value ++ drop i text
    → EndsAt at (Some (record { value = value; next = i + 1 }))
went_past text at i value l k e = record {
  past = omega (arith, ap length e, length-drop at text, length-drop i text, length-append (decimal value) (drop i text));
  stays = tt;
}
