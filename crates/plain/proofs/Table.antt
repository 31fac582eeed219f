-- The table of refusals: a number is given exactly when its test holds and none before it does, and where several hold the first in the table.
-- Assumes nothing.
use Prim.Native.Nat.{ℕ, ◌≤◌}
use native.Mathlib.Omega.{arith}
use mathlib.Core.Path.{◌≡◌, refl, sym, ap, subst, ◌∙◌}
use mathlib.Core.Logic.{◌⊎◌, inl, inr}
use mathlib.Core.Bool.{Bool, true, false}
use mathlib.Core.List.{List, [], ◌∷◌, ◌++◌}
use lib.Dec.{T, ltb, ltb→lt}
use Rattle.plain.specs.Site.{Site, Call, offer, work, confirm, read, look, query, tests, row, first, refusal, call, accepts}
use Rattle.plain.specs.Steps.{refused}
use Rattle.plain.specs.Sound.{All}
use Rattle.plain.proofs.Tests.{by_test}

-- no test of a list holds
abbrev pub NoneHolds : List (Bool × ℕ) → Type 0
NoneHolds ts = All (λ t. t.0 ≡ false) ts

-- the rows of a list rise from above m; the checker computes it at a list of numerals
abbrev pub Rising : ℕ → List (Bool × ℕ) → Type 0
Rising m [] = Unit
Rising m (t ∷ ts) = T (ltb m (row t.1)) × Rising (row t.1) ts

-- the number n belongs to a test that holds, and no test before it does
pub record Given (ts : List (Bool × ℕ)) (n : ℕ) : Type 0 where
  pub before : List (Bool × ℕ)
  pub test : Bool
  pub behind : List (Bool × ℕ)
  pub is : ts ≡ before ++ (test, n) ∷ behind
  pub fails : NoneHolds before
  pub holds : test ≡ true

pub none_holds : (m : ℕ) (ts : List (Bool × ℕ)) → Rising m ts → first ts ≡ 0 → NoneHolds ts
none_holds m [] n e = tt
none_holds m (t ∷ ts) n e =
    by_test t.0
    (λ y. let z : t.1 ≡ 0 = rw y at e in absurd (omega (arith, ltb→lt m (row t.1) n.0, ap row z)))
    (λ f. (f, none_holds (row t.1) ts n.1 (rw f at e)))

-- exactly when, both ways
pub first_given : (ts : List (Bool × ℕ)) → NoneHolds ts ⊎ Given ts (first ts)
first_given [] = inl tt
first_given (t ∷ ts) =
    by_test t.0
    (λ y. inr (rw y (record { before = []; test = true; behind = ts; is = refl; fails = tt; holds = refl })))
    (λ f. more f (first_given ts))
  where
    more : t.0 ≡ false → NoneHolds ts ⊎ Given ts (first ts) → NoneHolds (t ∷ ts) ⊎ Given (t ∷ ts) (first (t ∷ ts))
    more f (inl n) = inl (f, n)
    more f (inr g) =
        let e : first ts ≡ first (t ∷ ts) = rw f in
        inr (subst (λ (n : ℕ). Given (t ∷ ts) n) e (record {
          before = t ∷ g.before;
          test = g.test;
          behind = g.behind;
          is = ap (λ (l : List (Bool × ℕ)). t ∷ l) g.is;
          fails = (f, g.fails);
          holds = g.holds;
        }))

pub given_first : (ts : List (Bool × ℕ)) (n : ℕ) → Given ts n → first ts ≡ n
given_first ts n g = rw g.is (go g.before g.fails)
  where
    go : (before : List (Bool × ℕ)) → NoneHolds before → first (before ++ (g.test, n) ∷ g.behind) ≡ n
    go [] h = rw g.holds
    go (t ∷ before) h = rw h.0 (go before h.1)

-- of all whose tests hold the first in the table is given
pub in_order : (m : ℕ) (ts : List (Bool × ℕ)) → Rising m ts → All (λ t. t.0 ≡ true → row (first ts) ≤ row t.1) ts
in_order m [] r = tt
in_order m (t ∷ ts) r =
    by_test t.0
    (λ y. let first_is : first (t ∷ ts) ≡ t.1 = rw y refl in
    ((λ e. rw first_is (omega arith)), from_first (sym first_is) (above (row t.1) ts r.1)))
    (λ f. let first_is : first (t ∷ ts) ≡ first ts = rw f refl in
    ((λ e. no_both (sym f ∙ e)), from_first (sym first_is) (in_order (row t.1) ts r.1)))
  where
    from_first : {n : ℕ} → n ≡ first (t ∷ ts) → All (λ u. u.0 ≡ true → row n ≤ row u.1) ts
        → All (λ u. u.0 ≡ true → row (first (t ∷ ts)) ≤ row u.1) ts
    from_first e a = let P : ℕ → Type 0 = λ n. All (λ u. u.0 ≡ true → row n ≤ row u.1) ts in subst P e a

    no_both : false ≡ true → row (first (t ∷ ts)) ≤ row t.1
    no_both e = let z : ◌≡◌ {A = ℕ} 0 1 = cc in absurd (omega arith)

    above : (n : ℕ) (us : List (Bool × ℕ)) → Rising n us → All (λ u. u.0 ≡ true → n ≤ row u.1) us
    above n [] r = tt
    above n (u ∷ us) r = ((λ e. omega (arith, ltb→lt n (row u.1) r.0)), weaker us (above (row u.1) us r.1))
      where
        weaker : (vs : List (Bool × ℕ)) → All (λ v. v.0 ≡ true → row u.1 ≤ row v.1) vs → All (λ v. v.0 ≡ true → n ≤ row v.1) vs
        weaker [] h = tt
        weaker (v ∷ vs) h = ((λ e. omega (arith, h.0 e, ltb→lt n (row u.1) r.0)), weaker vs h.1)

-- every call's rows rise from that of 3 on
pub rising : (s : Site) (k : Call) → Rising (row 2) (tests s k)
rising s (offer b) = (tt, (tt, (tt, (tt, tt))))
rising s (work c) = (tt, (tt, tt))
rising s (confirm i n) = (tt, (tt, (tt, (tt, tt))))
rising s (read c k) = (tt, (tt, tt))
rising s (look i) = (tt, tt)
rising s (query m) = (tt, (tt, (tt, tt)))

-- A refused call changes nothing, and answers its number
pub refused_same : (s : Site) (k : Call) → accepts s k ≡ false → call s k ≡ record { site = s; answer = refused (refusal s k) }
unfolding call
refused_same s k f = rw f
