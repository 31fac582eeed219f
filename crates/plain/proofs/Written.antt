-- Requests written as records, and the answers of calls in turn: what the computed examples use. Assumes nothing.
use Prim.Native.Nat.{ℕ, zero, suc, ◌/◌, ◌%◌}
use mathlib.Core.List.{List, [], ◌∷◌, ◌++◌}
use lib.ListN.{length, replicate}
use Rattle.plain.specs.Sizes.{most_ops, op_size}
use Rattle.plain.specs.Ops.{Op, put, add, need, move, Request}
use Rattle.plain.specs.Steps.{Answer}
use Rattle.plain.specs.Site.{Site, Call, offer, call}

-- a 4-byte number, low byte first
unfoldable pub four_bytes : ℕ → List ℕ
four_bytes n = n % 256 ∷ n / 256 % 256 ∷ n / 65536 % 256 ∷ n / 16777216 % 256 ∷ []

-- an operation's eight bytes
unfoldable pub bytes_of_op : Op → List ℕ
bytes_of_op (put k a) = 1 ∷ k ∷ 0 ∷ 0 ∷ four_bytes a
bytes_of_op (add k a) = 2 ∷ k ∷ 0 ∷ 0 ∷ four_bytes a
bytes_of_op (need k a) = 3 ∷ k ∷ 0 ∷ 0 ∷ four_bytes a
bytes_of_op (move k j a) = 4 ∷ k ∷ j ∷ 0 ∷ four_bytes a

-- n operations' bytes, those past the last all zero
unfoldable pub ops_bytes : ℕ → List Op → List ℕ
ops_bytes zero os = []
ops_bytes (suc n) [] = replicate op_size 0 ++ ops_bytes n []
ops_bytes (suc n) (o ∷ os) = bytes_of_op o ++ ops_bytes n os

-- the record of a request, and its offer
unfoldable pub record_of : Request → List ℕ
record_of r = four_bytes r.id ++ (r.class ∷ length r.ops ∷ 0 ∷ 0 ∷ ops_bytes most_ops r.ops)

unfoldable pub offer_of : ℕ → ℕ → List Op → Call
offer_of i c os = offer (record_of (record { id = i; class = c; ops = os }))

-- the answers of calls, one after another
unfoldable pub answers : Site → List Call → List Answer
answers s [] = []
answers s (k ∷ ks) = (call s k).answer ∷ answers (call s k).site ks
