-- `usedmap::UsedMap::lowest_free` meets its contract: the first free slot is the first word's, or where that has none 64 and the second word's;
-- the sum is at most the 128 slots. Assumes nothing.
use Rattle.std.proofs.Common.{rules, ◌≡◌, ℕ, ◌+◌, ◌<◌, Option, Some, None, IfSome, IfNone, arith}
use Rattle.std.specs.Option.{option_or, MatchOption}
use Rattle.usedmap.specs.Flags.{bits_of, used_of, first_free}
use Rattle.usedmap.proofs.Flags.{first_lo, first_hi}
use Rattle.usedmap.proofs.UsedMap.lowest_free.Goals as goal

-- what the lowest free slot of a word, or of a map, is
record First (n : ℕ) (first : ℕ) (r : Option ℕ) : Type 0 where
  some : IfSome r (λ i. (i ≡ first) × (i < n))
  none : IfNone r (first ≡ n)

of_both : (lo hi : ℕ) (a b m : Option ℕ) → First 64 (first_free (bits_of 64 lo)) a → First 64 (first_free (bits_of 64 hi)) b
    → MatchOption b (m ≡ None) (λ i. m ≡ Some (64 + i)) → First 128 (first_free (used_of lo hi)) (option_or a m)
of_both lo hi (Some i) b m f g e = record { some = (omega (arith, f.some, first_lo lo hi (omega (arith, f.some))), omega (arith, f.some)); none = tt }
of_both lo hi None None m f g e = rw e record { some = tt; none = omega (arith, f.none, g.none, first_hi lo hi (omega (arith, f.none))) }
of_both lo hi None (Some i) m f g e =
    rw e record { some = (omega (arith, f.none, g.some, first_hi lo hi (omega (arith, f.none))), omega (arith, g.some)); none = tt }

pub returns : goal.returns
returns c =
    let m = c.args.self in
    let e : MatchOption c.free_in-2.result (c.map.result ≡ None) (λ i. c.map.result ≡ Some (64 + i)) = search rules in
    let h : First 64 (first_free (bits_of 64 m.lo)) c.free_in.result = record { some = c.free_in.ensures.some; none = c.free_in.ensures.none } in
    let k : First 64 (first_free (bits_of 64 m.hi)) c.free_in-2.result = record { some = c.free_in-2.ensures.some; none = c.free_in-2.ensures.none } in
    let all = of_both m.lo m.hi _ _ _ h k e in
    rw c.or.ensures record { some = all.some; none = all.none }
