-- Bookings are taken one after another from a block. Assumes nothing.
use Rattle.std.proofs.Common.{◌≡◌, ℕ, suc, ◌+◌, ◌-◌, ◌^◌, ◌<◌, ◌≤◌, Bool, true, false, ◌||◌, ltb, leb, List, [], ◌∷◌, ◌++◌, length, take, drop, sym, refl, ap, ◌∙◌, append_assoc, append-nil, arith, length-drop, drop_of_length-le, length-take-le, take_all, drop-drop, take_at, ltb-false, le-ltb, le-leb, leb-true}
use mathlib.Core.Option.{Option, none, some}
use lib.Seq.{take-append-add, take-append_seam}
use Rattle.plain.specs.Sizes.{record_size}
use Rattle.plain.specs.Ops.{Request}
use Rattle.plain.specs.Record.{request}
use Rattle.plain.proofs.Tests.{by_test, no}
use Rattle.text.specs.Text.{text_of}
use Rattle.text.specs.Lines.{FirstBad}
use Rattle.text.specs.Calls.{Answer, wrote, refused_at, Took, took, bad}
use Rattle.text.proofs.Encoding.{sixty_four}
use Rattle.input.specs.Pieces.{behind}
use Rattle.typed.specs.Bookings.{bookings, Ends}
use Rattle.typed.specs.Taking.{Takes, all, one, stop, longest, may_go_on, whole, TakesBlock}
use Rattle.typed.proofs.Cutting.{first, first_booking, booking_long}

-- READ, in what is lent on from `len` on, which has room for a record; `rest` stands behind it
pub record TookOne (b records : List ℕ) (len : ℕ) (after : List ℕ) : Type 0 where
  pub bytes : List ℕ
  pub asks : Request
  pub holds_record : request bytes ≡ some asks
  pub is_text : b ≡ text_of asks
  pub stands : take (len + record_size) after ≡ take len records ++ bytes

pub record Refused (b : List ℕ) (a : Answer) : Type 0 where
  pub line : ℕ
  pub first_bad : FirstBad b line
  pub says : a ≡ refused_at 15 line

module _ (b records : List ℕ) (len : ℕ) (room : len + record_size ≤ length records) (a : Answer) (mid rest : List ℕ) where
  abbrev lent : List ℕ
  lent = take (length records - len) (drop len records)

  front : length (take len records) ≡ len
  front = length-take-le len records (omega arith)

  has_room : record_size ≤ length lent
  has_room = rw (take_all (length records - len) (drop len records) (omega (arith, length-drop len records))) (omega (arith, length-drop len records))

  pub took_one : (n : ℕ) → a ≡ wrote n → Took b lent a mid → TookOne b records len (take len records ++ (mid ++ rest))
  took_one n e (took bytes r q t h) =
      let l : length bytes ≡ record_size = sixty_four bytes r q in
      let p = h.fits (omega (arith, has_room)) in
      let m : take record_size (mid ++ rest) ≡ bytes = rw (← l, p.1, append_assoc bytes) (take-append_seam bytes _) in
      record {
        bytes = bytes;
        asks = r;
        holds_record = q;
        is_text = t;
        stands = ap (λ (k : ℕ). take (k + record_size) (take len records ++ (mid ++ rest))) (sym front)
            ∙ take-append-add (take len records) (mid ++ rest) record_size
            ∙ ap (λ (t : List ℕ). take len records ++ t) m;
      }
  took_one n e (bad line f p k) = let q : wrote n ≡ refused_at 15 line = sym e ∙ p in let z : ◌≡◌ {A = ℕ} 0 1 = cc in absurd (omega arith)

  pub not_taken : ((n : ℕ) → a ≡ wrote n → ⊥) → Took b lent a mid → Refused b a
  not_taken nl (took bytes r q t h) = absurd (nl _ (h.fits (omega (arith, has_room, sixty_four bytes r q))).0)
  not_taken nl (bad line f p k) = record { line = line; first_bad = f; says = p }

  pub as_before : take len (take len records ++ (mid ++ rest)) ≡ take len records
  as_before = take_at (take len records) (mid ++ rest) len front

-- SO FAR: what was taken, and that taking what is left gives the rest
pub record SoFar (t : List ℕ) (last : Bool) (place : ℕ) (records : List ℕ) (at next : ℕ) : Type 0 where
  pub done : ℕ
  pub counts : next ≡ behind place done
  pub left : bookings (drop at t) ≡ drop done (bookings t)
  pub goes : (rs : List ℕ) (d : ℕ) (x : Option ℕ) → Takes (whole last (bookings (drop at t))) rs d x → Takes (whole last (bookings t)) (records ++ rs) (done + d) x

pub nothing_yet : (t : List ℕ) (last : Bool) (place : ℕ) → place < 2 ^ 64 → SoFar t last place [] 0 place
nothing_yet t last place l = record {
  done = 0;
  counts = omega arith;
  left = refl;
  goes = λ rs d x h. let e : 0 + d ≡ d = omega arith in rw e h;
}

-- THE BOOKINGS THAT ARE TAKEN: the first, where others come behind it, or where it may not go on
first_taken : (last : Bool) (b r : List ℕ) → (r ≡ [] → (last || ltb longest (length b)) ≡ true)
    → whole last (b ∷ bookings r) ≡ b ∷ whole last (bookings r)
unfolding bookings
first_taken last b [] h = rw (h refl)
first_taken last b (y ∷ r) h = let f = first y r in rw f.is

may_not_go_on : (at end n : ℕ) (last : Bool) → may_go_on at end n last ≡ false → n ≤ end → (last || ltb longest (end - at)) ≡ true
may_not_go_on at end n last g l =
    by_test last
    (λ y. rw y)
    (λ f. by_test (ltb longest (end - at))
    (λ y. rw (f, y))
    (λ k. no (may_go_on at end n last) (rw (f, le-leb n end l, le-leb (end - at) longest (ltb-false longest (end - at) k))) g))

goes_on_only : (at end n : ℕ) (last : Bool) → may_go_on at end n last ≡ true → (last ≡ false) × (n ≤ end) × (end - at ≤ longest)
goes_on_only at end n last g =
    by_test last
    (λ y. no (may_go_on at end n last) g (rw y))
    (λ f. by_test (leb n end)
    (λ y. by_test (leb (end - at) longest)
    (λ z. (f, leb-true n end y, leb-true (end - at) longest z))
    (λ z. no (may_go_on at end n last) g (rw (f, y, z))))
    (λ y. no (may_go_on at end n last) g (rw (f, y))))

nothing_behind : (t : List ℕ) (end : ℕ) → drop end t ≡ [] → length t ≤ end
nothing_behind t end e = omega (arith, length-drop end t, ap length e)

-- THE NEXT BOOKING, from `at` to `end`
module _ (t : List ℕ) (at end : ℕ) (e : Ends t at end) (last : Bool) where
  abbrev booking : List ℕ
  booking = take (end - at) (drop at t)

  -- it is taken, and then those behind it
  pub is_taken : may_go_on at end (length t) last ≡ false → whole last (bookings (drop at t)) ≡ booking ∷ whole last (bookings (drop end t))
  is_taken g =
      ap (whole last) (first_booking t at end e)
      ∙ first_taken last booking (drop end t)
      (λ q. rw (booking_long t at end e) (may_not_go_on at end (length t) last g (nothing_behind t end q)))

  -- it is the last one, and is left
  pub is_left : may_go_on at end (length t) last ≡ true → whole last (bookings (drop at t)) ≡ []
  unfolding bookings
  is_left g =
      let h = goes_on_only at end (length t) last g in
      let q : drop end t ≡ [] = drop_of_length-le t h.1 in
      ap (whole last) (first_booking t at end e)
      ∙ rw (q, h.0, le-ltb longest (length booking) (omega (arith, booking_long t at end e, h.2)))

module _ (t : List ℕ) (last : Bool) (place : ℕ) (records : List ℕ) (at next : ℕ) (h : SoFar t last place records at next) where
  module _ (end : ℕ) (e : Ends t at end) where
    -- one more was taken
    pub one_more : (bytes : List ℕ) (r : Request) → may_go_on at end (length t) last ≡ false → request bytes ≡ some r
        → take (end - at) (drop at t) ≡ text_of r → SoFar t last place (records ++ bytes) end (behind next 1)
    one_more bytes r g q p = record {
      done = h.done + 1;
      counts = omega (arith, h.counts);
      left = ap (drop 1) (sym (first_booking t at end e) ∙ h.left) ∙ drop-drop 1 h.done (bookings t);
      goes = λ rs d x k.
          let m : h.done + 1 + d ≡ h.done + suc d = omega arith in
          rw (append_assoc records bytes rs, m) (h.goes (bytes ++ rs) (suc d) x (rw (is_taken t at end e last g) (one _ _ bytes r rs d x q p k)));
    }

    -- it is refused
    pub stopped : (line : ℕ) → may_go_on at end (length t) last ≡ false → FirstBad (take (end - at) (drop at t)) line
        → TakesBlock t last place records at next (refused_at 15 line)
    stopped line g f = record {
      done = h.done;
      bad = some line;
      takes =
          let m : h.done + 0 ≡ h.done = omega arith in
          rw (append-nil records, m) at (h.goes [] 0 (some line) (rw (is_taken t at end e last g) (stop _ _ line f)));
      left = h.left;
      counts = h.counts;
      answers = refl;
    }

    -- it may go on
    pub left_over : (len : ℕ) → length records ≡ len → may_go_on at end (length t) last ≡ true → TakesBlock t last place records at next (wrote len)
    left_over len l g = record {
      done = h.done;
      bad = none;
      takes =
          let m : h.done + 0 ≡ h.done = omega arith in
          rw (append-nil records, m) at (h.goes [] 0 none (rw (is_left t at end e last g) all));
      left = h.left;
      counts = h.counts;
      answers = ap wrote (sym l);
    }

  -- nothing is left
  pub all_taken : (len : ℕ) → length records ≡ len → length t ≤ at → TakesBlock t last place records at next (wrote len)
  unfolding bookings
  all_taken len l g = record {
    done = h.done;
    bad = none;
    takes =
        let m : h.done + 0 ≡ h.done = omega arith in
        let q : drop at t ≡ [] = drop_of_length-le t g in
        rw (append-nil records, m) at (h.goes [] 0 none (rw q all));
    left = h.left;
    counts = h.counts;
    answers = ap wrote (sym l);
  }

-- WHAT READ CAME TO at the booking from `at` to `end`: one more was taken, or it is refused
module _ (t : List ℕ) (last : Bool) (place : ℕ) (records : List ℕ) (len at next : ℕ) (h : SoFar t last place (take len records) at next)
    (end : ℕ) (e : Ends t at end) (g : may_go_on at end (length t) last ≡ false) (room : len + record_size ≤ length records) (a : Answer) (mid rest : List ℕ)
    (k : Took (take (end - at) (drop at t)) (take (length records - len) (drop len records)) a mid) where
  pub walked : (n then : ℕ) → a ≡ wrote n → then ≡ behind next 1 → SoFar t last place (take (len + record_size) (take len records ++ (mid ++ rest))) end then
  walked n then q s =
      let w = took_one (take (end - at) (drop at t)) records len room a mid rest n q k in
      rw (w.stands, s) (one_more t last place (take len records) at next h end e w.bytes w.asks g w.holds_record w.is_text)

  pub refused_there : ((n : ℕ) → a ≡ wrote n → ⊥) → TakesBlock t last place (take len (take len records ++ (mid ++ rest))) at next a
  refused_there nl =
      let w = not_taken (take (end - at) (drop at t)) records len room a mid rest nl k in
      rw (as_before (take (end - at) (drop at t)) records len room a mid rest, w.says)
      (stopped t last place (take len records) at next h end e w.line g w.first_bad)
