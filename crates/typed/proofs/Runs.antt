-- A RUN OVER BLOCKS takes what taking the whole input at once would: the same records, and the same refusal at the same place and line. Assumes
-- nothing.
use Rattle.std.proofs.Common.{◌≡◌, ℕ, suc, ◌+◌, ◌<◌, ◌≤◌, Bool, true, false, not, ◌&&◌, ltb, List, [], ◌∷◌, ◌++◌, length, take, drop, sym, refl, ap, ◌∙◌, append_assoc, append-nil, arith, length-append, take-append-drop, take_all, take-take, drop_at, ltb-true, le-ltb}
use mathlib.Core.Option.{Option, none, some}
use Rattle.plain.proofs.Tests.{by_test}
use Rattle.text.specs.Text.{joined}
use Rattle.text.specs.Calls.{Answer, wrote, refused_at}
use Rattle.text.proofs.Laws.{no_longer}
use Rattle.typed.specs.Bookings.{bookings}
use Rattle.typed.specs.Taking.{Takes, all, one, stop, longest, whole, answered, TakesBlock, Ran, Over}
use Rattle.typed.proofs.Cutting.{first, nothing_lost, border, begun}
use Rattle.typed.proofs.Longer.{bad_all_the_same}

-- TAKEN ONE AFTER ANOTHER: all of some, and then others; or stopped before them
pub takes_append : {ps qs : List (List ℕ)} {records more : List ℕ} {d e : ℕ} {x : Option ℕ} → Takes ps records d none → Takes qs more e x
    → Takes (ps ++ qs) (records ++ more) (d + e) x
takes_append {e = e} all k = let z : 0 + e ≡ e = omega arith in rw z k
takes_append {more = more} {e = e} {x = x} (one b bs bytes r records done bad q t h) k =
    let z : suc done + e ≡ suc (done + e) = omega arith in
    rw (append_assoc bytes records more, z) (one b _ bytes r (records ++ more) (done + e) x q t (takes_append h k))

stopped_before : {ps : List (List ℕ)} {records : List ℕ} {d line : ℕ} (qs : List (List ℕ)) → Takes ps records d (some line) → Takes (ps ++ qs) records d (some line)
stopped_before qs (one b bs bytes r records done bad q t h) = one b _ bytes r records done bad q t (stopped_before qs h)
stopped_before qs (stop b bs line f) = stop b _ line f

-- as many as there are
all_counted : {ps : List (List ℕ)} {records : List ℕ} {d : ℕ} → Takes ps records d none → d ≡ length ps
all_counted all = refl
all_counted (one b bs bytes r records done bad q t h) = ap suc (all_counted h)

-- WHAT A BLOCK THAT IS NOT THE LAST HAS: some bookings, and a last one, which is left unless it is too long
pub record Front (bs : List (List ℕ)) : Type 0 where
  pub before : List (List ℕ)
  pub final : List ℕ
  pub is : bs ≡ before ++ (final ∷ [])

front : (b : List ℕ) (bs : List (List ℕ)) → Front (b ∷ bs)
front b [] = record { before = []; final = b; is = refl }
front b (c ∷ bs) = let f = front c bs in record { before = b ∷ f.before; final = f.final; is = ap (λ (l : List (List ℕ)). b ∷ l) f.is }

whole_front : (ps : List (List ℕ)) (l : List ℕ) → ltb longest (length l) ≡ false → whole false (ps ++ (l ∷ [])) ≡ ps
whole_front [] l f = rw f
whole_front (p ∷ []) l f = rw f
whole_front (p ∷ q ∷ ps) l f = ap (λ (bs : List (List ℕ)). p ∷ bs) (whole_front (q ∷ ps) l f)

whole_all : (ps : List (List ℕ)) (l : List ℕ) → ltb longest (length l) ≡ true → whole false (ps ++ (l ∷ [])) ≡ ps ++ (l ∷ [])
whole_all [] l t = rw t
whole_all (p ∷ []) l t = rw t
whole_all (p ∷ q ∷ ps) l t = ap (λ (bs : List (List ℕ)). p ∷ bs) (whole_all (q ∷ ps) l t)

whole_last : (bs : List (List ℕ)) → whole true bs ≡ bs
whole_last [] = refl
whole_last (b ∷ []) = refl
whole_last (b ∷ c ∷ bs) = ap (λ (l : List (List ℕ)). b ∷ l) (whole_last (c ∷ bs))

-- one that is too long is not taken, and is refused all the same with more behind it
too_long : (ps : List (List ℕ)) (l : List ℕ) {records : List ℕ} {d : ℕ} → longest < length l → Takes (ps ++ (l ∷ [])) records d none → ⊥
too_long [] l m (one b bs bytes r records done bad q t h) = omega (arith, no_longer bytes r q, ap length t)
too_long (p ∷ ps) l m (one b bs bytes r records done bad q t h) = too_long ps l m h

refused_with_more : (ps : List (List ℕ)) (l more : List ℕ) (others : List (List ℕ)) {records : List ℕ} {d line : ℕ} → longest < length l
    → Takes (ps ++ (l ∷ [])) records d (some line) → Takes (ps ++ ((l ++ more) ∷ others)) records d (some line)
refused_with_more [] l more others m (one b bs bytes r records done bad q t h) = absurd (omega (arith, no_longer bytes r q, ap length t))
refused_with_more [] l more others m (stop b bs line f) = stop (l ++ more) others line (bad_all_the_same l more line m f)
refused_with_more (p ∷ ps) l more others m (one b bs bytes r records done bad q t h) =
    one p _ bytes r records done bad q t (refused_with_more ps l more others m h)
refused_with_more (p ∷ ps) l more others m (stop b bs line f) = stop p _ line f

not_bad : (k n : ℕ) (x : Option ℕ) → answered k x ≡ wrote n → x ≡ none
not_bad k n none e = refl
not_bad k n (some line) e = let z : ◌≡◌ {A = ℕ} 0 1 = cc in absurd (omega arith)

is_bad : (k line : ℕ) (x : Option ℕ) → answered k x ≡ refused_at 15 line → x ≡ some line
is_bad k line none e = let z : ◌≡◌ {A = ℕ} 0 1 = cc in absurd (omega arith)
is_bad k line (some m) e = cc

cancel : (ps qs rs : List (List ℕ)) → ps ++ qs ≡ ps ++ rs → qs ≡ rs
cancel ps qs rs e = sym (drop_at ps qs (length ps) refl) ∙ ap (drop (length ps)) e ∙ drop_at ps rs (length ps) refl

-- the bookings of a text that has a byte: the last is one booking by itself
fronted : (t : List ℕ) → 1 ≤ length t → Front (bookings t)
fronted [] l = absurd (omega arith)
fronted (x ∷ t) l = let f = first x t in let g = front (x ∷ f.behind) f.others in record { before = g.before; final = g.final; is = f.is ∙ g.is }

alone : (t : List ℕ) (f : Front (bookings t)) → bookings f.final ≡ f.final ∷ []
alone t f =
    let e : bookings (t ++ []) ≡ f.before ++ bookings (f.final ++ []) = border t [] f.before f.final f.is in
    cancel f.before (bookings f.final) (f.final ∷ []) (sym (rw (append-nil t, append-nil f.final) at e) ∙ f.is)

-- A BLOCK WITH MORE BEHIND IT: where all that is whole was taken, the last booking is left
module _ (t recs : List ℕ) (place at then n : ℕ) (a : Answer) (some_byte : 1 ≤ length t) (h : TakesBlock t false place recs at then a) (w : a ≡ wrote n) where
  abbrev parts_of : Front (bookings t)
  parts_of = fronted t some_byte

  taken_whole : Takes (whole false (parts_of.before ++ (parts_of.final ∷ []))) recs h.done none
  taken_whole = rw (← not_bad (length recs) n h.bad (sym h.answers ∙ w), ← parts_of.is) h.takes

  short_final : ltb longest (length parts_of.final) ≡ false
  short_final =
      by_test (ltb longest (length parts_of.final))
      (λ y. absurd (too_long parts_of.before parts_of.final (ltb-true longest (length parts_of.final) y) (rw (whole_all parts_of.before parts_of.final y) at taken_whole)))
      (λ f. f)

  taken_before : Takes parts_of.before recs h.done none
  taken_before = rw (whole_front parts_of.before parts_of.final short_final) at taken_whole

  left_is_final : drop at t ≡ parts_of.final
  left_is_final =
      let e : bookings (drop at t) ≡ parts_of.final ∷ [] =
      h.left ∙ ap (drop h.done) parts_of.is ∙ drop_at parts_of.before (parts_of.final ∷ []) h.done (sym (all_counted taken_before)) in
      sym (nothing_lost (drop at t)) ∙ ap (joined (λ b. b)) e ∙ append-nil parts_of.final

-- A RUN BEGINS with nothing
pub nothing_read : Ran [] [] [] 1
nothing_read = record { taken = []; cut = λ more. refl; takes = all; counts = refl }

-- AND GOES ON with what is left of a block, in which `more` was read behind what was left before
pub goes_on : (read records left more recs : List ℕ) (next at then n : ℕ) (a : Answer) → 1 ≤ length (left ++ more) → Ran read records left next
    → TakesBlock (left ++ more) false next recs at then a → a ≡ wrote n → Ran (read ++ more) (records ++ recs) (drop at (left ++ more)) then
goes_on read records left more recs next at then n a l r h w =
    let t = left ++ more in
    let f = fronted t l in
    let b = taken_before t recs next at then n a l h w in
    record {
      taken = r.taken ++ f.before;
      cut = λ m.
          rw (append_assoc read more m, left_is_final t recs next at then n a l h w, append_assoc r.taken f.before)
          (r.cut (more ++ m) ∙ ap (λ (bs : List (List ℕ)). r.taken ++ bs) (ap bookings (sym (append_assoc left more m)) ∙ border t m f.before f.final f.is));
      takes = rw (length-append r.taken f.before) (takes_append r.takes (rw (all_counted b) at b));
      counts = h.counts ∙ rw (r.counts, all_counted b, length-append r.taken f.before) (omega arith);
    }

-- AND IS OVER with the last block
pub over : (read records left more recs : List ℕ) (next at then : ℕ) (a : Answer) → Ran read records left next
    → (h : TakesBlock (left ++ more) true next recs at then a) → Over (read ++ more) (records ++ recs) then h.bad
over read records left more recs next at then a r h = record {
  done = length r.taken + h.done;
  takes = rw (r.cut more) (takes_append r.takes (rw (whole_last (bookings (left ++ more))) at h.takes));
  counts = h.counts ∙ rw r.counts (omega arith);
}

-- or with a booking that is refused, whatever comes behind its block
refused_block : (t recs : List ℕ) (d line : ℕ) (m : List ℕ) → 1 ≤ length t → Takes (whole false (bookings t)) recs d (some line)
    → Takes (bookings (t ++ m)) recs d (some line)
refused_block t recs d line m l k =
    let f = fronted t l in
    let e = border t m f.before f.final f.is in
    by_test (ltb longest (length f.final))
    (λ y.
    let g = begun f.final m (alone t f) in
    rw (e, g.is) (refused_with_more f.before f.final g.behind g.others (ltb-true longest (length f.final) y)
    (rw (f.is, whole_all f.before f.final y) at k)))
    (λ n. rw e (stopped_before (bookings (f.final ++ m)) (rw (f.is, whole_front f.before f.final n) at k)))

pub refused : (read records left more recs : List ℕ) (next at then line : ℕ) (a : Answer) (m : List ℕ) → 1 ≤ length (left ++ more) → Ran read records left next
    → TakesBlock (left ++ more) false next recs at then a → a ≡ refused_at 15 line → Over (read ++ more ++ m) (records ++ recs) then (some line)
refused read records left more recs next at then line a m l r h w = record {
  done = length r.taken + h.done;
  takes =
      let k : Takes (whole false (bookings (left ++ more))) recs h.done (some line) = rw (is_bad (length recs) line h.bad (sym h.answers ∙ w)) at h.takes in
      rw (append_assoc read more m, r.cut (more ++ m), ← append_assoc left more m) (takes_append r.takes (refused_block (left ++ more) recs h.done line m l k));
  counts = h.counts ∙ rw r.counts (omega arith);
}

-- A TURN: behind the first `rest` bytes, which stayed, a full block was read, and what is left of it was moved to its start
pub turned : (read records before after kept recs : List ℕ) (rest n at m next then k : ℕ) (last failed : Bool) (a : Answer) → 1 ≤ n → n ≡ length after
    → rest ≤ n → take rest after ≡ take rest before → last ≡ (not failed && ltb n 1024) → 1024 ≤ n
    → Ran read records (take rest before) next → TakesBlock (take n after) last next recs at then a → a ≡ wrote k → take m kept ≡ drop at after
    → Ran (read ++ drop rest (take n after)) (records ++ recs) (take m kept) then
turned read records before after kept recs rest n at m next then k last failed a l e s p q b r h w z =
    let t = take n after in
    let more = drop rest t in
    let i : take rest before ++ more ≡ t = ap (λ (x : List ℕ). x ++ more) (sym p ∙ sym (take-take rest n after s)) ∙ take-append-drop rest t in
    let f : last ≡ false = q ∙ rw (le-ltb n 1024 b) (and_false (not failed)) in
    let o : t ≡ after = take_all n after (omega arith) in
    let d : take m kept ≡ drop at (take rest before ++ more) = z ∙ ap (drop at) (sym o ∙ sym i) in
    rw d (goes_on read records (take rest before) more recs next at then k a (rw (i, o) (omega arith)) r (rw i (rw f at h)) w)
  where
    and_false : (x : Bool) → (x && false) ≡ false
    and_false true = refl
    and_false false = refl
