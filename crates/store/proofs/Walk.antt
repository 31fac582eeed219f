-- The places of a queue. Assumes nothing.
use Prim.Native.Nat.{ℕ, ◌+◌, ◌*◌, ◌<◌, ◌≤◌}
use native.Mathlib.Omega.{arith}
use mathlib.Core.Path.{◌≡◌, ◌∙◌, subst}
use mathlib.Core.List.{List, [], ◌∷◌}
use lib.Dec.{eqb}
use lib.ListN.{length, get_or, drop, length-drop}
use lib.Seq.{get_or-take, get_or-drop, length-take-le}
use borrow.Author.Tests.{eqb-true}
use Rattle.places.specs.Moves.{part}
use Rattle.plain.proofs.Tests.{by_test}
use Rattle.plain.specs.Sound.{All}
use Rattle.store.specs.Meaning.{len_of, places}
use Rattle.store.specs.Sound.{times}
use Rattle.store.specs.Store.{Shaped, Store}

-- what holds of each in a list holds of what stands there
pub each_at : (P : ℕ → Type 0) (i : ℕ) (ps : List ℕ) → All P ps → 0 < times i ps → P i
each_at P i [] h n = absurd (omega arith)
each_at P i (x ∷ ps) h n = by_test (eqb x i) (λ t. subst P (eqb-true x i t) h.0) (λ f. each_at P i ps h.1 (rw f at n))

-- a place of the queue
module _ (s : Store) (w : Shaped s) (c : ℕ) (l : c < 16) (short : len_of s c ≤ 136) where
  pub long : length (places s c) ≡ len_of s c
  long =
      let n : length (part s.queue c) ≡ 136 = length-take-le 136 (drop (136 * c) s.queue) (omega (arith, length-drop (136 * c) s.queue, w.queue)) in
      length-take-le (len_of s c) (part s.queue c) (omega arith)

  pub place_at : (p : ℕ) → p < len_of s c → get_or (places s c) p 0 ≡ get_or s.queue (136 * c + p) 0
  place_at p k = get_or-take (len_of s c) (part s.queue c) p 0 k ∙ get_or-take 136 (drop (136 * c) s.queue) p 0 (omega arith) ∙ get_or-drop (136 * c) s.queue p 0
