-- The bookings of a text: where the first ends, that nothing is lost, and that the cuts do not depend on where a block ends. Assumes nothing.
use Rattle.std.proofs.Common.{◌≡◌, ℕ, suc, ◌+◌, ◌-◌, ◌<◌, ◌≤◌, true, false, List, [], ◌∷◌, ◌++◌, length, get_or, take, drop, sym, refl, ap, ◌∙◌, arith, length-append, length-drop, take-append-drop, length-take-le, get_or-drop, get_or-take, drop-drop}
use Rattle.plain.proofs.Tests.{by_test}
use Rattle.text.specs.Text.{joined}
use Rattle.typed.specs.Bookings.{parts, into, bookings, Ends}

-- THE FIRST BOOKING of a text begins with its first byte
pub record First (x : ℕ) (t : List ℕ) : Type 0 where
  pub behind : List ℕ
  pub others : List (List ℕ)
  pub is : bookings (x ∷ t) ≡ (x ∷ behind) ∷ others

-- one byte more before a text with a first booking
before : (x y : ℕ) (t : List ℕ) → First y t → First x (y ∷ t)
unfolding bookings
before x y t f =
    by_test (parts x y)
    (λ p. record { behind = []; others = bookings (y ∷ t); is = rw p })
    (λ p. record { behind = y ∷ f.behind; others = f.others; is = rw p (ap (into x) f.is) })

pub first : (x : ℕ) (t : List ℕ) → First x t
unfolding bookings
first x [] = record { behind = []; others = []; is = refl }
first x (y ∷ t) = before x y t (first y t)

-- a text that begins with two bytes: a booking ends between them, or not
parted : (x y : ℕ) (t : List ℕ) → parts x y ≡ true → bookings (x ∷ y ∷ t) ≡ (x ∷ []) ∷ bookings (y ∷ t)
unfolding bookings
parted x y t p = rw p

together : (x y : ℕ) (t : List ℕ) → parts x y ≡ false → bookings (x ∷ y ∷ t) ≡ into x (bookings (y ∷ t))
unfolding bookings
together x y t p = rw p

-- NOTHING IS LOST: the bookings, one behind another, are the text
nothing_lost_before : (x : ℕ) (bs : List (List ℕ)) → joined (λ b. b) (into x bs) ≡ x ∷ joined (λ b. b) bs
nothing_lost_before x [] = refl
nothing_lost_before x (b ∷ bs) = refl

pub nothing_lost : (t : List ℕ) → joined (λ b. b) (bookings t) ≡ t
unfolding bookings
nothing_lost [] = refl
nothing_lost (x ∷ []) = refl
nothing_lost (x ∷ y ∷ t) =
    by_test (parts x y)
    (λ p. rw p (ap (λ (l : List ℕ). x ∷ l) (nothing_lost (y ∷ t))))
    (λ p. rw p (nothing_lost_before x (bookings (y ∷ t)) ∙ ap (λ (l : List ℕ). x ∷ l) (nothing_lost (y ∷ t))))

-- A BOOKING AND WHAT COMES BEHIND IT: no booking begins inside it, and one begins behind it if there is anything
cut : (b r : List ℕ) → 1 ≤ length b → ((i : ℕ) → suc i < length b → parts (get_or b i 0) (get_or b (suc i) 0) ≡ false)
    → (1 ≤ length r → parts (get_or b (length b - 1) 0) (get_or r 0 0) ≡ true) → bookings (b ++ r) ≡ b ∷ bookings r
unfolding bookings
cut [] r l h k = absurd (omega arith)
cut (x ∷ []) [] l h k = refl
cut (x ∷ []) (y ∷ r) l h k = parted x y r (k (omega arith))
cut (x ∷ y ∷ b) r l h k =
    let n : suc (length b) - 1 ≡ length b = omega arith in
    let m : suc (suc (length b)) - 1 ≡ suc (length b) = omega arith in
    together x y (b ++ r) (h 0 (omega arith))
    ∙ ap (into x) (cut (y ∷ b) r (omega arith) (λ i j. h (suc i) (omega arith)) (λ j. rw n (rw m at (k j))))

-- AT A PLACE OF A TEXT: the booking that ends where the next begins
module _ (t : List ℕ) (at end : ℕ) (e : Ends t at end) where
  -- a byte of the booking, and the first behind it
  byte_of : (i : ℕ) → i < end - at → get_or (take (end - at) (drop at t)) i 0 ≡ get_or t (at + i) 0
  byte_of i l = get_or-take (end - at) (drop at t) i 0 l ∙ get_or-drop at t i 0

  pub booking_long : length (take (end - at) (drop at t)) ≡ end - at
  booking_long = length-take-le (end - at) (drop at t) (omega (arith, length-drop at t, e.within))

  apart : (i : ℕ) → suc i < length (take (end - at) (drop at t))
      → parts (get_or (take (end - at) (drop at t)) i 0) (get_or (take (end - at) (drop at t)) (suc i) 0) ≡ false
  apart i l =
      let k : suc i < end - at = omega (arith, booking_long) in
      let m : at + suc i - 1 ≡ at + i = omega arith in
      by_test (parts (get_or t (at + i) 0) (get_or t (at + suc i) 0))
      (λ y. absurd (e.first (at + suc i) (omega arith) (omega arith) (rw m y)))
      (λ f. rw (byte_of i (omega arith), byte_of (suc i) k) f)

  behind_it : 1 ≤ length (drop end t)
      → parts (get_or (take (end - at) (drop at t)) (length (take (end - at) (drop at t)) - 1) 0) (get_or (drop end t) 0 0) ≡ true
  behind_it l =
      let k : at + (end - at - 1) ≡ end - 1 = omega (arith, e.behind) in
      let z : end + 0 ≡ end = omega arith in
      rw (booking_long, byte_of (end - at - 1) (omega (arith, e.behind)), k, get_or-drop end t 0 0, z) (e.stops (omega (arith, length-drop end t)))

  pub first_booking : bookings (drop at t) ≡ take (end - at) (drop at t) ∷ bookings (drop end t)
  first_booking =
      let m : at + (end - at) ≡ end = omega (arith, e.behind) in
      let s : take (end - at) (drop at t) ++ drop end t ≡ drop at t =
      ap (λ (r : List ℕ). take (end - at) (drop at t) ++ r) (sym (drop-drop (end - at) at t ∙ ap (λ (k : ℕ). drop k t) m))
      ∙ take-append-drop (end - at) (drop at t) in
      ap bookings (sym s) ∙ cut (take (end - at) (drop at t)) (drop end t) (omega (arith, booking_long, e.behind)) apart behind_it

-- ACROSS A BORDER: where the last booking of a is l, those of a ++ b are the others of a, and then those of l ++ b
abbrev Goes : List ℕ → List ℕ → Type 0
Goes a b = (ps : List (List ℕ)) (l : List ℕ) → bookings a ≡ ps ++ (l ∷ []) → bookings (a ++ b) ≡ ps ++ bookings (l ++ b)

module _ (x y : ℕ) (a b : List ℕ) (h : Goes (y ∷ a) b) where
  border_parted : parts x y ≡ true → Goes (x ∷ y ∷ a) b
  border_parted p [] l e =
      let f = first y a in
      let z : length ((x ∷ []) ∷ (y ∷ f.behind) ∷ f.others) ≡ length (l ∷ []) =
      ap length (sym (parted x y a p ∙ ap (λ (bs : List (List ℕ)). (x ∷ []) ∷ bs) f.is) ∙ e) in
      absurd (omega arith)
  border_parted p (q ∷ ps) l e =
      let s : (x ∷ []) ∷ bookings (y ∷ a) ≡ q ∷ (ps ++ (l ∷ [])) = sym (parted x y a p) ∙ e in
      let i : x ∷ [] ≡ q = cc in
      let j : bookings (y ∷ a) ≡ ps ++ (l ∷ []) = cc in
      parted x y (a ++ b) p ∙ rw (i, h ps l j)

  border_together : parts x y ≡ false → Goes (x ∷ y ∷ a) b
  border_together p [] l e =
      let f = first y a in
      let s : (x ∷ y ∷ f.behind) ∷ f.others ≡ l ∷ [] = sym (together x y a p ∙ ap (into x) f.is) ∙ e in
      let i : l ≡ x ∷ y ∷ f.behind = cc in
      let j : f.others ≡ [] = cc in
      let k : bookings ((y ∷ a) ++ b) ≡ bookings ((y ∷ f.behind) ++ b) = h [] (y ∷ f.behind) (f.is ∙ ap (λ (bs : List (List ℕ)). (y ∷ f.behind) ∷ bs) j) in
      together x y (a ++ b) p ∙ ap (into x) k ∙ sym (together x y (f.behind ++ b) p) ∙ rw i
  border_together p (q ∷ ps) l e =
      let f = first y a in
      let s : (x ∷ y ∷ f.behind) ∷ f.others ≡ q ∷ (ps ++ (l ∷ [])) = sym (together x y a p ∙ ap (into x) f.is) ∙ e in
      let i : q ≡ x ∷ y ∷ f.behind = cc in
      let j : f.others ≡ ps ++ (l ∷ []) = cc in
      together x y (a ++ b) p
      ∙ ap (into x) (h ((y ∷ f.behind) ∷ ps) l (f.is ∙ ap (λ (bs : List (List ℕ)). (y ∷ f.behind) ∷ bs) j))
      ∙ ap (λ (c : List ℕ). c ∷ (ps ++ bookings (l ++ b))) (sym i)

pub border : (a b : List ℕ) → Goes a b
unfolding bookings
border [] b [] l e = let z : length {A = List ℕ} [] ≡ length (l ∷ []) = ap length e in absurd (omega arith)
border [] b (q ∷ ps) l e = let z : length {A = List ℕ} [] ≡ length (q ∷ (ps ++ (l ∷ []))) = ap length e in absurd (omega arith)
border (x ∷ []) b [] l e = let i : x ∷ [] ≡ l = cc in rw (← i)
border (x ∷ []) b (q ∷ ps) l e =
    let z : length {A = List ℕ} ((x ∷ []) ∷ []) ≡ length (q ∷ (ps ++ (l ∷ []))) = ap length e in
    absurd (omega (arith, length-append ps (l ∷ [])))
border (x ∷ y ∷ a) b ps l e =
    by_test (parts x y)
    (λ p. border_parted x y a b (border (y ∷ a) b) p ps l e)
    (λ p. border_together x y a b (border (y ∷ a) b) p ps l e)

-- a text that is one booking begins the first booking of every text that it begins
pub record Begun (l more : List ℕ) : Type 0 where
  pub behind : List ℕ
  pub others : List (List ℕ)
  pub is : bookings (l ++ more) ≡ (l ++ behind) ∷ others

module _ (x y : ℕ) (l more : List ℕ) (h : bookings (y ∷ l) ≡ (y ∷ l) ∷ [] → Begun (y ∷ l) more) where
  begun_parted : parts x y ≡ true → bookings (x ∷ y ∷ l) ≡ (x ∷ y ∷ l) ∷ [] → Begun (x ∷ y ∷ l) more
  begun_parted p e =
      let s : (x ∷ []) ∷ bookings (y ∷ l) ≡ (x ∷ y ∷ l) ∷ [] = sym (parted x y l p) ∙ e in
      let i : x ∷ [] ≡ x ∷ y ∷ l = cc in
      let z : length {A = ℕ} (x ∷ []) ≡ length (x ∷ y ∷ l) = ap length i in
      absurd (omega arith)

  begun_together : parts x y ≡ false → bookings (x ∷ y ∷ l) ≡ (x ∷ y ∷ l) ∷ [] → Begun (x ∷ y ∷ l) more
  begun_together p e =
      let f = first y l in
      let s : (x ∷ y ∷ f.behind) ∷ f.others ≡ (x ∷ y ∷ l) ∷ [] = sym (together x y l p ∙ ap (into x) f.is) ∙ e in
      let i : f.behind ≡ l = cc in
      let j : f.others ≡ [] = cc in
      let w = h (f.is ∙ rw (i, j)) in
      record { behind = w.behind; others = w.others; is = together x y (l ++ more) p ∙ ap (into x) w.is }

pub begun : (l more : List ℕ) → bookings l ≡ l ∷ [] → Begun l more
unfolding bookings
begun [] more e = let z : length {A = List ℕ} [] ≡ length {A = List ℕ} ([] ∷ []) = ap length e in absurd (omega arith)
begun (x ∷ []) more e = let f = first x more in record { behind = f.behind; others = f.others; is = f.is }
begun (x ∷ y ∷ l) more e =
    by_test (parts x y)
    (λ p. begun_parted x y l more (begun (y ∷ l) more) p e)
    (λ p. begun_together x y l more (begun (y ∷ l) more) p e)
