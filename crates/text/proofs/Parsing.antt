-- A text read line after line: the first line and k operations are read, and what follows is either all, or bad. Assumes nothing.
use Prim.Native.Nat.{ℕ, ◌+◌, ◌<◌, ◌≤◌}
use native.Mathlib.Omega.{arith}
use native.Mathlib.Numerals.{add-one}
use mathlib.Core.Path.{◌≡◌, refl, sym, ap, ◌∙◌, subst}
use mathlib.Core.Bool.{true}
use mathlib.Core.List.{List, ◌++◌, append_assoc, append-nil, map}
use lib.ListN.{length, get_or, take, drop, set, replicate, length-set, length-map, get_or-replicate, drop_of_length-le, length-drop}
use lib.Seq.{length-take-le, get_or-take, take-suc-set, get_or-set_same, get_or-set_other}
use borrow.Author.Count.{below_more}
use Rattle.plain.specs.Sizes.{most_ops}
use Rattle.plain.specs.Ops as P
use Rattle.plain.specs.Sound.{All}
use Rattle.cells.specs.declared.Op.{Op}
use Rattle.cells.specs.Ops.{no_op, op_of, OpOk}
use Rattle.slots.specs.declared.Slot.{Slot}
use Rattle.slots.specs.Meaning.{request_of, slot_free}
use Rattle.slots.specs.Rules.{New}
use Rattle.slots.proofs.Records.{all_from, map_of_all, holds}
use Rattle.text.specs.Text.{joined, head_line, op_line, op_lines, text_of}
use Rattle.text.specs.Lines.{FirstBad}
use Rattle.text.specs.Pieces.{OpLineAt, HeadRules, HeadAt, Parses}
use Rattle.text.proofs.Forms.{same_line, joined_more, meant_line, meant_lines}
use Rattle.text.proofs.Standing.{bad_op, lacks_op}

-- the first line and k operations stand before place `at`
pub record SoFar (text : List ℕ) (id class : ℕ) (ops : List Op) (at k : ℕ) : Type 0 where
  pub few : k ≤ most_ops
  pub within : at ≤ length text
  pub long : length ops ≡ most_ops
  pub head : HeadRules id class
  pub stands : text ≡ head_line id class ++ (joined meant_line (take k ops) ++ drop at text)
  pub ok : (j : ℕ) → j < k → OpOk (get_or ops j no_op)
  pub rest : (j : ℕ) → j < most_ops → k ≤ j → get_or ops j no_op ≡ no_op

pub begun : (text : List ℕ) (id class next : ℕ) (ops : List Op) → HeadAt text id class (drop next text) → next ≤ length text
    → ops ≡ replicate most_ops no_op → SoFar text id class ops next 0
begun text id class next ops h l e =
    record {
      few = omega arith;
      within = l;
      long = ap length e;
      head = h.rules;
      stands = h.stands;
      ok = λ j m. absurd (omega arith);
      rest = λ j m n. ap (λ (os : List Op). get_or os j no_op) e ∙ get_or-replicate most_ops j no_op no_op m;
    }

-- what is known of the operations so far
module _ (text : List ℕ) (id class : ℕ) (ops : List Op) (at k : ℕ) (h : SoFar text id class ops at k) where
  -- one more
  pub one_more : (o : Op) (next : ℕ) → k < most_ops → OpLineAt (drop at text) o (drop next text) → next ≤ length text
      → SoFar text id class (set ops k o) next (k + 1)
  one_more o next l a m =
      let in-ops : k < length ops = omega (arith, h.long) in
      let line : drop at text ≡ meant_line o ++ drop next text =
      a.stands ∙ ap (λ (t : List ℕ). t ++ drop next text) (same_line o a.rules) in
      let lines : joined meant_line (take (k + 1) (set ops k o)) ≡ joined meant_line (take k ops) ++ meant_line o =
      rw (add-one, take-suc-set ops k o in-ops) (joined_more meant_line (take k ops) o) in
      record {
        few = omega arith;
        within = m;
        long = length-set ops k o ∙ h.long;
        head = h.head;
        stands =
            h.stands
            ∙ ap (λ (t : List ℕ). head_line id class ++ t)
            (ap (λ (t : List ℕ). joined meant_line (take k ops) ++ t) line
            ∙ sym (append_assoc (joined meant_line (take k ops)) (meant_line o) (drop next text))
            ∙ ap (λ (t : List ℕ). t ++ drop next text) (sym lines));
        ok = below_more (λ j. OpOk (get_or (set ops k o) j no_op)) k
            (λ j n. subst OpOk (sym (get_or-set_other ops k j o no_op (λ e. omega arith))) (h.ok j n))
            (subst OpOk (sym (get_or-set_same ops k o no_op in-ops)) a.rules);
        rest = λ j n p. get_or-set_other ops k j o no_op (λ e. omega arith) ∙ h.rest j n (omega arith);
      }

  meant : List P.Op
  meant = map op_of (take k ops)

  meant_long : length meant ≡ k
  unfolding meant
  meant_long = length-map (take k ops) op_of ∙ length-take-le k ops (omega (arith, h.few, h.long))

  meant_ok : All (λ o. P.op_ok o ≡ true) meant
  unfolding meant
  meant_ok =
      map_of_all op_of (λ o. P.op_ok o ≡ true) (take k ops)
      (all_from (λ o. P.op_ok (op_of o) ≡ true) no_op (take k ops) (λ j l.
      let m : j < k = omega (arith, length-take-le k ops (omega (arith, h.few, h.long))) in
      subst (λ (o : Op). P.op_ok (op_of o) ≡ true) (sym (get_or-take k ops j no_op m)) (h.ok j m).valid))

  meant_stands : text ≡ head_line id class ++ (op_lines meant ++ drop at text)
  unfolding meant
  meant_stands = h.stands ∙ ap (λ (t : List ℕ). head_line id class ++ (t ++ drop at text)) (meant_lines (take k ops))

  -- a bad line: something stands there and is no operation's, or is an eighth
  pub bad_line : at < length text → (k < most_ops → (p : P.Op) (more : List ℕ) → P.op_ok p ≡ true → drop at text ≡ op_line p ++ more → ⊥)
      → FirstBad text (k + 2)
  bad_line l n =
      subst (λ (m : ℕ). FirstBad text (m + 2)) meant_long
      (bad_op text (drop at text) id class meant h.head meant_ok (omega (arith, meant_long, h.few)) meant_stands
      (λ e. omega (arith, ap length e, length-drop at text))
      (λ m. n (omega (arith, meant_long))))

  -- or nothing stands there, and there is no operation
  pub no_line : length text ≤ at → k ≡ 0 → FirstBad text 2
  no_line l z =
      subst (λ (m : ℕ). FirstBad text (m + 2)) (meant_long ∙ z)
      (lacks_op text (drop at text) id class meant h.head meant_ok (omega (arith, meant_long, h.few)) meant_stands
      (drop_of_length-le text {i = at} l) (meant_long ∙ z))

  -- all is read
  abbrev slot : Slot
  slot = record { id = id; class = class; count = k; ops = ops; number = 0; done = 0; mark = 0; backs = 0 }

  whole : length text ≤ at → text ≡ text_of (request_of slot)
  unfolding text_of meant
  whole l =
      meant_stands ∙ ap (λ (t : List ℕ). head_line id class ++ (op_lines meant ++ t)) (drop_of_length-le text {i = at} l)
      ∙ ap (λ (t : List ℕ). head_line id class ++ t) (append-nil (op_lines meant))

  pub all_read : length text ≤ at → 0 < k → (free : Slot) → free ≡ slot_free
      → Parses text (record {
        id = id;
        class = class;
        count = k;
        ops = ops;
        number = free.number;
        done = free.done;
        mark = free.mark;
        backs = free.backs;
      })
  all_read l p free e =
      let new : New slot = record {
        held = holds slot h.long
            (λ j m. record { within = h.ok j; past = h.rest j m })
            h.head.id_not_zero h.head.id_fits h.head.class_fits p h.few;
        number = refl;
        done = refl;
        mark = refl;
        backs = refl;
      } in
      let read : Parses text slot = record { long = h.long; new = new; stands = whole l } in
      subst (λ (w : Slot). Parses text (record {
        id = id;
        class = class;
        count = k;
        ops = ops;
        number = w.number;
        done = w.done;
        mark = w.mark;
        backs = w.backs;
      })) (sym e) read
