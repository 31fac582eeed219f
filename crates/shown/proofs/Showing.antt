-- Showing goes on from record to record, and from block to block. Assumes nothing.
use Rattle.std.proofs.Common.{min, drop_of_length-le, ◌≡◌, ℕ, ◌+◌, ◌-◌, ◌*◌, ◌^◌, ◌<◌, ◌≤◌, true, false, cond, List, [], ◌∷◌, ◌++◌, map, length, take, drop, sym, refl, ap, ◌∙◌, append_assoc, append-nil, arith, length-append, length-drop, length-take-le, take_all, take_at}
use mathlib.Core.Option.{some, none}
use lib.Seq.{take-append-add, take-append_seam}
use Rattle.plain.specs.Sizes.{record_size}
use Rattle.plain.specs.Ops.{Request, every}
use Rattle.plain.specs.Record.{is_record, request_in, request}
use Rattle.plain.specs.Sound.{All}
use Rattle.plain.proofs.Tests.{by_test, no}
use Rattle.text.specs.Text.{joined, text_of}
use Rattle.text.specs.declared.Refused.{Refused}
use Rattle.text.specs.Calls.{Answer, wrote, refused, refusal_of, Wrote}
use Rattle.text.proofs.Encoding.{sixty_four}
use Rattle.refusal.proofs.Outcomes.{no_length}
use Rattle.text.proofs.Laws.{wrote_at_most_168, with_room}
use Rattle.input.specs.Pieces.{behind}
use Rattle.input.proofs.Cutting.{no_piece, next_piece, pieces_append}
use Rattle.shown.specs.Showing.{records_of, requests, texts, ShowsOne, Shows, Ran}

-- THE TEXT OF ONE RECORD
one_text : (b : List ℕ) → is_record b ≡ true → texts (b ∷ []) ≡ text_of (request_in b)
one_text b t = rw t (append-nil (text_of (request_in b)))

no_text : (b : List ℕ) → is_record b ≡ false → texts (b ∷ []) ≡ []
no_text b f = rw f

is_request : (b : List ℕ) → is_record b ≡ true → request b ≡ some (request_in b)
unfolding request
is_request b t = rw t

no_request : (b : List ℕ) → is_record b ≡ false → request b ≡ none
unfolding request
no_request b f = rw f

-- WRITE, in what is lent on from `len` on, which has room for any text; `rest` stands behind it
module _ (b text : List ℕ) (len : ℕ) (room : len + 168 ≤ length text) (a : Answer) (mid rest : List ℕ)
    (h : Wrote b (take (length text - len) (drop len text)) a mid) where
  front : length (take len text) ≡ len
  front = length-take-le len text (omega arith)

  has_room : 168 ≤ length (take (length text - len) (drop len text))
  has_room = rw (take_all (length text - len) (drop len text) (omega (arith, length-drop len text))) (omega (arith, length-drop len text))

  -- an answer that is no length: the bytes are no record
  pub none_shown : ((n : ℕ) → a ≡ wrote n → ⊥) → ShowsOne b (take len text) (take len (take len text ++ (mid ++ rest))) a
  none_shown nl =
      by_test (is_record b)
      (λ t. absurd (nl _ (with_room b _ a mid (request_in b) has_room (is_request b t) h).0))
      (λ f.
      let p = h.no_record (no_request b f) in
      record {
        says = take_at (take len text) (mid ++ rest) len front ∙ sym (append-nil (take len text)) ∙ ap (λ (t : List ℕ). take len text ++ t) (sym (no_text b f));
        answers = p.0 ∙ rw f;
      })

  -- a length: it is that of the text
  pub one_shown : (n : ℕ) → a ≡ wrote n → ShowsOne b (take len text) (take (len + n) (take len text ++ (mid ++ rest))) (wrote n) × (n ≤ 168)
  one_shown n e =
      by_test (is_record b)
      (λ t.
      let r = request_in b in
      let p = with_room b _ a mid r has_room (is_request b t) h in
      let q : wrote n ≡ wrote (length (text_of r)) = sym e ∙ p.0 in
      let l : n ≡ length (text_of r) = cc in
      let m : take n (mid ++ rest) ≡ text_of r = rw (l, p.1, append_assoc (text_of r)) (take-append_seam (text_of r) _) in (
        record {
          says = ap (λ (k : ℕ). take (k + n) (take len text ++ (mid ++ rest))) (sym front)
              ∙ take-append-add (take len text) (mid ++ rest) n
              ∙ ap (λ (t : List ℕ). take len text ++ t) (m ∙ sym (one_text b t));
          answers = q ∙ rw (one_text b t, t);
        },
        wrote_at_most_168 b _ a n mid h e,
      ))
      (λ f. let q : wrote n ≡ refused 3 = sym e ∙ (h.no_record (no_request b f)).0 in let z : ◌≡◌ {A = ℕ} 0 1 = cc in absurd (omega arith))

-- SO FAR: the text of the records that were shown, the place behind them, and the records that are left
pub record SoFar (bs : List (List ℕ)) (place : ℕ) (text : List ℕ) (next : ℕ) (rest : List (List ℕ)) : Type 0 where
  pub says : texts bs ≡ text ++ texts rest
  pub counts : behind place (length (requests bs)) ≡ behind next (length (requests rest))
  pub same : every (map is_record bs) ≡ every (map is_record rest)

pub nothing_yet : (bs : List (List ℕ)) (place : ℕ) → SoFar bs place [] place bs
nothing_yet bs place = record { says = refl; counts = refl; same = refl }

module _ (bs : List (List ℕ)) (place : ℕ) (text : List ℕ) (next : ℕ) where
  -- one more was shown
  pub one_more : (b : List ℕ) (rest : List (List ℕ)) → is_record b ≡ true → SoFar bs place text next (b ∷ rest)
      → SoFar bs place (text ++ texts (b ∷ [])) (behind next 1) rest
  one_more b rest t h = record {
    says = h.says ∙ rw (one_text b t, t) (sym (append_assoc text (text_of (request_in b)) (texts rest)));
    counts = h.counts ∙ rw t (omega arith);
    same = h.same ∙ rw t;
  }

  -- the next is none
  pub stopped : (b : List ℕ) (rest : List (List ℕ)) → next < 2 ^ 64 → is_record b ≡ false → SoFar bs place text next (b ∷ rest)
      → Shows bs place text next (refused 3)
  stopped b rest l f h = record {
    says = sym (h.says ∙ rw f (append-nil text));
    counts = sym (h.counts ∙ rw f (omega arith));
    answers = sym (rw (h.same, f));
  }

  -- none is left
  pub ended : next < 2 ^ 64 → SoFar bs place text next [] → Shows bs place text next (wrote (length text))
  ended l h = record {
    says = sym (h.says ∙ append-nil text);
    counts = sym (h.counts ∙ omega arith);
    answers = sym (rw h.same);
  }

-- WALKING OVER AN INPUT: the records of what is left, of which b comes off
pub comes_next : (left b rest : List ℕ) (size : ℕ) → size ≡ record_size → left ≡ b ++ rest → length b ≡ min size (length left) → 0 < length left
    → records_of left ≡ b ∷ records_of rest
comes_next left b rest size s e l h =
    let m : length b ≡ min record_size (length (b ++ rest)) = rw (s, e) at l in
    ap records_of e ∙ next_piece record_size (omega arith) b rest m (rw e at h)

-- and where nothing is left
pub all_shown : (bs : List (List ℕ)) (place : ℕ) (text : List ℕ) (next : ℕ) (left : List ℕ) (len : ℕ) → next < 2 ^ 64 → length text ≡ len
    → length left ≡ 0 → SoFar bs place text next (records_of left) → Shows bs place text next (wrote len)
all_shown bs place text next left len m e l h =
    let none : records_of left ≡ [] = ap records_of (drop_of_length-le left {i = 0} (omega arith)) ∙ no_piece record_size (omega arith) in
    rw (← e) (ended bs place text next m (rw none at h))

-- where b comes next
module _ (bs : List (List ℕ)) (place : ℕ) (text after : List ℕ) (next : ℕ) (b : List ℕ) (rest : List (List ℕ)) where
  -- what was shown is a whole record
  pub whole_record : (n : ℕ) → ShowsOne b text after (wrote n) → length b ≡ record_size
  whole_record n one =
      by_test (is_record b)
      (λ t. sixty_four b (request_in b) (is_request b t))
      (λ f. let q : wrote n ≡ refused 3 = one.answers ∙ rw f in let z : ◌≡◌ {A = ℕ} 0 1 = cc in absurd (omega arith))

  -- it was shown
  pub walked : (n : ℕ) → ShowsOne b text after (wrote n) → SoFar bs place text next (b ∷ rest) → SoFar bs place after (behind next 1) rest
  walked n one h =
      by_test (is_record b)
      (λ t. rw one.says (one_more bs place text next b rest t h))
      (λ f. let q : wrote n ≡ refused 3 = one.answers ∙ rw f in let z : ◌≡◌ {A = ℕ} 0 1 = cc in absurd (omega arith))

  -- it was refused
  pub refused_there : (e : Refused) → ShowsOne b text after (refusal_of e) → next < 2 ^ 64 → SoFar bs place text next (b ∷ rest)
      → Shows bs place after next (refusal_of e)
  refused_there e one m h =
      by_test (is_record b)
      (λ t. absurd (no_length e (length (texts (b ∷ []))) (one.answers ∙ rw t)))
      (λ f.
      let s : after ≡ text = one.says ∙ ap (λ (t : List ℕ). text ++ t) (no_text b f) ∙ append-nil text in
      let q : refusal_of e ≡ refused 3 = one.answers ∙ rw f in
      rw (s, q) (stopped bs place text next b rest m f h))

-- FROM BLOCK TO BLOCK. Where all of a are records, those of a ++ b are a's and b's
all_there : (cs : List (List ℕ)) → every (map is_record cs) ≡ true → All (λ b. is_record b ≡ true) cs
all_there [] e = tt
all_there (b ∷ cs) e = by_test (is_record b) (λ t. (t, all_there cs (rw t at e))) (λ f. no _ e (rw f))

requests_append : (cs bs : List (List ℕ)) → All (λ b. is_record b ≡ true) cs → requests (cs ++ bs) ≡ requests cs ++ requests bs
requests_append [] bs h = refl
requests_append (c ∷ cs) bs h = rw h.0 (ap (λ (rs : List Request). request_in c ∷ rs) (requests_append cs bs h.1))

every_append : (cs bs : List (List ℕ)) → All (λ b. is_record b ≡ true) cs → every (map is_record (cs ++ bs)) ≡ every (map is_record bs)
every_append [] bs h = refl
every_append (c ∷ cs) bs h = rw h.0 (every_append cs bs h.1)

joined_append : (rs ss : List Request) → joined text_of (rs ++ ss) ≡ joined text_of rs ++ joined text_of ss
joined_append [] ss = refl
joined_append (r ∷ rs) ss =
    ap (λ (t : List ℕ). text_of r ++ t) (joined_append rs ss) ∙ sym (append_assoc (text_of r) (joined text_of rs) (joined text_of ss))

-- what is shown of an input is shown of its blocks, one after another
pub across_blocks : (a b s t : List ℕ) (k n place between next : ℕ) (x : Answer) → length a ≡ record_size * k
    → Shows (records_of a) place s between (wrote n) → Shows (records_of b) between t next x
    → Shows (records_of (a ++ b)) place (s ++ t) next (cond (every (map is_record (records_of b))) (wrote (length (s ++ t))) (refused 3))
across_blocks a b s t k n place between next x l h m =
    by_test (every (map is_record (records_of a)))
    (λ y.
    let all = all_there (records_of a) y in
    let e = pieces_append record_size (omega arith) k a b l in
    let r = requests_append (records_of a) (records_of b) all in
    record {
      says = rw (h.says, m.says, e, r) (sym (joined_append (requests (records_of a)) (requests (records_of b))));
      counts = m.counts ∙ rw (h.counts, e, r) (omega (arith, length-append (requests (records_of a)) (requests (records_of b))));
      answers = rw (e, every_append (records_of a) (records_of b) all);
    })
    (λ f. let q : wrote n ≡ refused 3 = h.answers ∙ rw f in let z : ◌≡◌ {A = ℕ} 0 1 = cc in absurd (omega arith))

-- A RUN begins with nothing, and goes on by a block of whole records that are all shown
pub begun : Ran [] [] 1
begun = record { count = 0; whole = refl; shown = ended (records_of []) 1 [] 1 (omega arith) (rw (no_piece record_size (omega arith)) (nothing_yet [] 1)) }

pub goes_on : (read text block more : List ℕ) (place next n k : ℕ) (a : Answer) → length block ≡ record_size * k
    → Shows (records_of block) place more next a → a ≡ wrote n → Ran read text place → Ran (read ++ block) (text ++ more) next
goes_on read text block more place next n k a l m e h =
    by_test (every (map is_record (records_of block)))
    (λ y. record {
      count = h.count + k;
      whole = length-append read block ∙ omega (arith, h.whole);
      shown = rw y at (across_blocks read block text more h.count (length text) 1 place next a h.whole h.shown m);
    })
    (λ f. let q : wrote n ≡ refused 3 = sym e ∙ m.answers ∙ rw f in let z : ◌≡◌ {A = ℕ} 0 1 = cc in absurd (omega arith))
