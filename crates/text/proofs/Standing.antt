-- The lines of a text: those of a request stand one behind another, so the line at which a text goes wrong is the first that no valid text has.
-- Assumes nothing.
use Prim.Native.Nat.{ℕ, zero, suc, ◌+◌, ◌-◌, ◌<◌, ◌≤◌}
use native.Mathlib.Omega.{arith}
use mathlib.Core.Path.{◌≡◌, refl, sym, ap, ◌∙◌, subst}
use mathlib.Core.Bool.{true}
use mathlib.Core.List.{List, [], ◌∷◌, ◌++◌, append_assoc, append-nil, map}
use lib.Dec.{eqb, ltb}
use lib.ListN.{length, get_or, length-append, length-map, get_or-append}
use borrow.Author.Tests.{ne_eqb, ltb-true, ltb-false, lt-ltb, le-leb}
use Rattle.plain.specs.Sizes.{class_count, most_ops, word}
use Rattle.plain.specs.Ops.{Op, put, add, need, move, Request, op_ok, request_rules, valid}
use Rattle.plain.specs.Record.{names}
use Rattle.plain.specs.Sound.{All}
use Rattle.plain.proofs.Tests.{by_test, all_true, every_true}
use Rattle.plain.proofs.Items.{is_valid}
use Rattle.slots.proofs.Records.{map_of_all}
use Rattle.decimal.specs.Decimal.{Digit, decimal, blanked}
use Rattle.decimal.proofs.Runs.{all_digits, all_append}
use Rattle.text.specs.Text.{newline, line_with, joined, op_line, op_lines, head_line, text_of}
use Rattle.text.specs.Lines.{first_line, after_line, line_behind, FirstBad}
use Rattle.text.specs.Pieces.{HeadRules}
use Rattle.text.proofs.Pieces.{newline_splits}

-- A LINE: bytes that are no newline, and a newline
abbrev Inner : ℕ → Type 0
Inner x = x ≡ newline → ⊥

pub record IsLine (l : List ℕ) : Type 0 where
  pub body : List ℕ
  pub inner : All Inner body
  pub is : l ≡ body ++ (newline ∷ [])

first_of : (body rest : List ℕ) → All Inner body → first_line (body ++ (newline ∷ rest)) ≡ body ++ (newline ∷ [])
first_of [] rest h = refl
first_of (x ∷ body) rest h = rw (ne_eqb x newline h.0) (ap (λ (t : List ℕ). x ∷ t) (first_of body rest h.1))

after_of : (body rest : List ℕ) → All Inner body → after_line (body ++ (newline ∷ rest)) ≡ rest
after_of [] rest h = refl
after_of (x ∷ body) rest h = rw (ne_eqb x newline h.0) (after_of body rest h.1)

pub line_first : (l rest : List ℕ) → IsLine l → first_line (l ++ rest) ≡ l
line_first l rest h = rw h.is (ap first_line (append_assoc h.body (newline ∷ []) rest) ∙ first_of h.body rest h.inner)

pub line_after : (l rest : List ℕ) → IsLine l → after_line (l ++ rest) ≡ rest
line_after l rest h = rw h.is (ap after_line (append_assoc h.body (newline ∷ []) rest) ∙ after_of h.body rest h.inner)

-- a text is its first line and what stands behind it
pub first_then : (t : List ℕ) → t ≡ first_line t ++ after_line t
first_then [] = refl
first_then (x ∷ t) =
    by_test (eqb x newline) (λ y. rw y) (λ f. rw f (ap (λ (u : List ℕ). x ∷ u) (first_then t)))

pub line_long : (l : List ℕ) → IsLine l → 0 < length l
line_long l h = omega (arith, ap length h.is, length-append h.body (newline ∷ []))

nothing_there : (t : List ℕ) → first_line t ≡ [] → t ≡ []
nothing_there [] e = refl
nothing_there (x ∷ t) e = let z : ◌≡◌ {A = ℕ} 0 1 = cc in absurd (omega arith)

past_end : (k : ℕ) → line_behind k [] ≡ []
past_end zero = refl
past_end (suc k) = past_end k

-- LINES ONE BEHIND ANOTHER
abbrev pub together : List (List ℕ) → List ℕ
together ls = joined (λ l. l) ls

pub line_at : (ls : List (List ℕ)) (rest : List ℕ) → All IsLine ls → (k : ℕ) → k < length ls → line_behind k (together ls ++ rest) ≡ get_or ls k []
line_at [] rest h k l = absurd (omega arith)
line_at (x ∷ ls) rest h zero l = ap first_line (append_assoc x (together ls) rest) ∙ line_first x (together ls ++ rest) h.0
line_at (x ∷ ls) rest h (suc k) l =
    ap (λ (t : List ℕ). line_behind k (after_line t)) (append_assoc x (together ls) rest)
    ∙ ap (line_behind k) (line_after x (together ls ++ rest) h.0)
    ∙ line_at ls rest h.1 k (omega arith)

pub line_past : (ls : List (List ℕ)) (rest : List ℕ) → All IsLine ls → (k : ℕ) → line_behind (length ls + k) (together ls ++ rest) ≡ line_behind k rest
line_past [] rest h k = let e : 0 + k ≡ k = omega arith in ap (λ (j : ℕ). line_behind j rest) e
line_past (x ∷ ls) rest h k =
    let e : length (x ∷ ls) + k ≡ suc (length ls + k) = omega arith in
    rw e
    (ap (λ (t : List ℕ). line_behind (length ls + k) (after_line t)) (append_assoc x (together ls) rest)
    ∙ ap (line_behind (length ls + k)) (line_after x (together ls ++ rest) h.0)
    ∙ line_past ls rest h.1 k)

-- THE LINES OF A REQUEST
inner_digits : (l : List ℕ) → All Digit l → All Inner l
inner_digits [] h = tt
inner_digits (x ∷ l) h = ((λ e. newline_splits (subst Digit e h.0)), inner_digits l h.1)

inner_blanked : (ns : List ℕ) → All Inner (blanked ns)
unfolding blanked
inner_blanked [] = tt
inner_blanked (n ∷ ns) = ((λ e. omega arith), all_append Inner (decimal n) (blanked ns) (inner_digits (decimal n) (all_digits n)) (inner_blanked ns))

with_line : (first ns : List ℕ) → All Inner first → IsLine (line_with first ns)
unfolding line_with
with_line first ns h = record {
  body = first ++ blanked ns;
  inner = all_append Inner first (blanked ns) h (inner_blanked ns);
  is = sym (append_assoc first (blanked ns) (newline ∷ []));
}

pub head_line_lem : (id class : ℕ) → IsLine (head_line id class)
head_line_lem id class = with_line (decimal id) (class ∷ []) (inner_digits (decimal id) (all_digits id))

no_newline : (c : ℕ) → c ≤ 4 → All Inner (get_or names c [])
no_newline zero l = tt
no_newline (suc zero) l = ((λ e. omega arith), ((λ e. omega arith), ((λ e. omega arith), tt)))
no_newline (suc (suc zero)) l = ((λ e. omega arith), ((λ e. omega arith), ((λ e. omega arith), tt)))
no_newline (suc (suc (suc zero))) l = ((λ e. omega arith), ((λ e. omega arith), ((λ e. omega arith), ((λ e. omega arith), tt))))
no_newline (suc (suc (suc (suc zero)))) l = ((λ e. omega arith), ((λ e. omega arith), ((λ e. omega arith), ((λ e. omega arith), tt))))
no_newline (suc (suc (suc (suc (suc c))))) l = absurd (omega arith)

pub op_line_lem : (o : Op) → IsLine (op_line o)
op_line_lem (put k a) = with_line _ _ (no_newline 1 (omega arith))
op_line_lem (add k a) = with_line _ _ (no_newline 2 (omega arith))
op_line_lem (need k a) = with_line _ _ (no_newline 3 (omega arith))
op_line_lem (move k j a) = with_line _ _ (no_newline 4 (omega arith))

abbrev pub lines_of : Request → List (List ℕ)
lines_of r = head_line r.id r.class ∷ map op_line r.ops

ops_lines : (os : List Op) → All IsLine (map op_line os)
ops_lines [] = tt
ops_lines (o ∷ os) = (op_line_lem o, ops_lines os)

pub all_lines : (r : Request) → All IsLine (lines_of r)
all_lines r = (head_line_lem r.id r.class, ops_lines r.ops)

ops_together : (os : List Op) → together (map op_line os) ≡ op_lines os
ops_together [] = refl
ops_together (o ∷ os) = ap (λ (t : List ℕ). op_line o ++ t) (ops_together os)

pub text_together : (r : Request) → text_of r ≡ together (lines_of r) ++ []
unfolding text_of
text_together r =
    ap (λ (t : List ℕ). head_line r.id r.class ++ t) (sym (ops_together r.ops)) ∙ sym (append-nil (together (lines_of r)))

request_line : (r : Request) (k : ℕ) → k < length (lines_of r) → line_behind k (text_of r) ≡ get_or (lines_of r) k []
request_line r k l = ap (line_behind k) (text_together r) ∙ line_at (lines_of r) [] (all_lines r) k l

request_past : (r : Request) (k : ℕ) → length (lines_of r) ≤ k → line_behind k (text_of r) ≡ []
request_past r k l =
    let e : length (lines_of r) + (k - length (lines_of r)) ≡ k = omega arith in
    subst (λ (j : ℕ). line_behind j (text_of r) ≡ []) e
    (ap (line_behind (length (lines_of r) + (k - length (lines_of r)))) (text_together r)
    ∙ line_past (lines_of r) [] (all_lines r) (k - length (lines_of r)) ∙ past_end (k - length (lines_of r)))

-- THE FIRST BAD LINE: the lines `ls` begin a valid text, and no valid text has what stands behind them
first_bad : (t rest : List ℕ) (ls more : List (List ℕ)) (q : Request) → All IsLine ls → t ≡ together ls ++ rest → valid q ≡ true
    → lines_of q ≡ ls ++ more → ((r : Request) → valid r ≡ true → first_line rest ≡ line_behind (length ls) (text_of r) → ⊥)
    → FirstBad t (length ls + 1)
first_bad t rest ls more q h e v m n =
    record {
      request = q;
      is_valid = v;
      before = λ k l.
          let s : k < length ls = omega arith in
          let long : k < length (lines_of q) = omega (arith, ap length m, length-append ls more) in
          ap (line_behind k) e ∙ line_at ls rest h k s ∙ sym (get_or-append ls more [] k s) ∙ ap (λ (x : List (List ℕ)). get_or x k []) (sym m)
          ∙ sym (request_line q k long);
      none = λ r w a.
          let z : length ls + 0 ≡ length ls = omega arith in
          let f : line_behind (length ls) t ≡ first_line rest =
          ap (line_behind (length ls)) e ∙ ap (λ (j : ℕ). line_behind j (together ls ++ rest)) (sym z) ∙ line_past ls rest h 0 in
          n r w (sym f ∙ a (length ls) (omega arith));
    }

-- a valid request of an id, a class and operations
pub valid_of : (id class : ℕ) (os : List Op) → HeadRules id class → 0 < length os → length os ≤ most_ops → All (λ o. op_ok o ≡ true) os
    → valid (record { id = id; class = class; ops = os }) ≡ true
unfolding valid
valid_of id class os h l m a =
    rw (
      ne_eqb id 0 (λ e. omega (arith, h.id_not_zero)),
      lt-ltb id word h.id_fits,
      lt-ltb class class_count h.class_fits,
      le-leb 1 (length os) l,
      le-leb (length os) most_ops m,
      every_true (map op_ok os) (map_of_all op_ok (λ b. b ≡ true) os a),
    )

put_ok : op_ok (put 0 0) ≡ true
unfolding op_ok
put_ok = refl

pub head_rules : (r : Request) → valid r ≡ true → HeadRules r.id r.class
unfolding valid
head_rules r v =
    let t = all_true (request_rules r) v in
    let w = is_valid r v in
    record { id_not_zero = omega (arith, w.id); id_fits = ltb-true _ _ t.1.0; class_fits = w.class }

-- a bad first line
pub bad_head : (t : List ℕ) → ((i c : ℕ) (more : List ℕ) → HeadRules i c → t ≡ head_line i c ++ more → ⊥) → FirstBad t 1
bad_head t h =
    let some : HeadRules 1 0 = record { id_not_zero = omega arith; id_fits = omega arith; class_fits = omega arith } in
    let q : Request = record { id = 1; class = 0; ops = put 0 0 ∷ [] } in
    first_bad t t [] (lines_of q) q tt refl (valid_of 1 0 (put 0 0 ∷ []) some (omega arith) (omega arith) (put_ok, tt)) refl
    (λ r v e.
    let f : first_line t ≡ head_line r.id r.class = e ∙ request_line r 0 (omega arith) in
    h r.id r.class (after_line t) (head_rules r v) (first_then t ∙ ap (λ (l : List ℕ). l ++ after_line t) f))

-- an operation's line in a valid text
record LineAt (l : List ℕ) : Type 0 where
  op : Op
  ok : op_ok op ≡ true
  is : l ≡ op_line op

op_line_at : (os : List Op) → All (λ b. b ≡ true) (map op_ok os) → (n : ℕ) → n < length os → LineAt (get_or (map op_line os) n [])
op_line_at [] h n l = absurd (omega arith)
op_line_at (o ∷ os) h zero l = record { op = o; ok = h.0; is = refl }
op_line_at (o ∷ os) h (suc n) l = op_line_at os h.1 n (omega arith)

has_op : (r : Request) → valid r ≡ true → (n : ℕ) → n < length r.ops → LineAt (line_behind (suc n) (text_of r))
has_op r v n l =
    let m : suc n < length (lines_of r) = omega (arith, length-map r.ops op_line) in
    subst LineAt (sym (request_line r (suc n) m)) (op_line_at r.ops (is_valid r v).ops n l)

-- a text whose first line and n operations are good, and the line behind them is not
module _ (t rest : List ℕ) (id class : ℕ) (os : List Op) (head : HeadRules id class) (ok : All (λ o. op_ok o ≡ true) os) (few : length os ≤ most_ops)
    (e : t ≡ head_line id class ++ (op_lines os ++ rest)) where
  ls : List (List ℕ)
  ls = head_line id class ∷ map op_line os

  long : length ls + 1 ≡ length os + 2
  unfolding ls
  long = omega (arith, length-map os op_line)

  stands : t ≡ together ls ++ rest
  unfolding ls
  stands =
      e ∙ ap (λ (x : List ℕ). head_line id class ++ (x ++ rest)) (sym (ops_together os))
      ∙ sym (append_assoc (head_line id class) (together (map op_line os)) rest)

  -- no valid text has that line
  pub bad_behind : ((r : Request) → valid r ≡ true → first_line rest ≡ line_behind (suc (length os)) (text_of r) → ⊥) → FirstBad t (length os + 2)
  unfolding ls
  bad_behind n =
      let m : suc (length os) ≡ length ls = omega (arith, length-map os op_line) in
      let n' : (r : Request) → valid r ≡ true → first_line rest ≡ line_behind (length ls) (text_of r) → ⊥ = rw m at n in
      let lines : All IsLine ls = (head_line_lem id class, ops_lines os) in
      subst (FirstBad t) long
      (by_test (ltb 0 (length os))
      (λ y.
      first_bad t rest ls [] (record { id = id; class = class; ops = os }) lines stands
      (valid_of id class os head (ltb-true 0 (length os) y) few ok) (sym (append-nil ls)) n')
      (λ f.
      let none : os ≡ [] = empty os (ltb-false 0 (length os) f) in
      first_bad t rest ls (op_line (put 0 0) ∷ []) (record { id = id; class = class; ops = put 0 0 ∷ [] }) lines stands
      (valid_of id class (put 0 0 ∷ []) head (omega arith) (omega arith) (put_ok, tt)) (rw none) n'))
    where
      empty : (os : List Op) → length os ≤ 0 → os ≡ []
      empty [] l = refl
      empty (o ∷ os) l = absurd (omega arith)

  -- something stands there that is the line of no operation, or the operations are seven
  pub bad_op : (rest ≡ [] → ⊥) → (length os < most_ops → (o : Op) (more : List ℕ) → op_ok o ≡ true → rest ≡ op_line o ++ more → ⊥)
      → FirstBad t (length os + 2)
  bad_op some none =
      bad_behind (λ r v f.
      by_test (ltb (length os) (length r.ops))
      (λ y.
      let l = ltb-true (length os) (length r.ops) y in
      let a = has_op r v (length os) l in
      none (omega (arith, (is_valid r v).few_ops)) a.op (after_line rest) a.ok
      (first_then rest ∙ ap (λ (x : List ℕ). x ++ after_line rest) (f ∙ a.is)))
      (λ n.
      let l = ltb-false (length os) (length r.ops) n in
      some (nothing_there rest (f ∙ request_past r (suc (length os)) (omega (arith, length-map r.ops op_line))))))

  -- nothing stands there, and there are no operations
  pub lacks_op : rest ≡ [] → length os ≡ 0 → FirstBad t (length os + 2)
  lacks_op end zero_ops =
      bad_behind (λ r v f.
      let a = has_op r v (length os) (omega (arith, (is_valid r v).some_op)) in
      let z : op_line a.op ≡ [] = sym a.is ∙ sym f ∙ ap first_line end in
      omega (arith, line_long (op_line a.op) (op_line_lem a.op), ap length z))
