-- The request record of document 01: 64 bytes, as a list of numbers, to a request or nothing. Assumes nothing.
use Rattle.std.specs.Prelude.{ℕ, zero, suc, ◌+◌, ◌*◌, Bool, true, false, cond, ◌&&◌, List, [], ◌∷◌, map, leb, ltb, eqb, length, get_or}
use Rattle.std.proofs.Math.Option.{Option, none, some}
use Rattle.plain.specs.Sizes.{most_ops, record_size, op_size, first_op}
use Rattle.plain.specs.Ops.{Op, put, add, need, move, Request, every, valid}

-- byte k, and the 4-byte number that begins there, low byte first
abbrev pub byte : List ℕ → ℕ → ℕ
byte b k = get_or b k 0

abbrev pub number : List ℕ → ℕ → ℕ
number b k = byte b k + 256 * byte b (k + 1) + 65536 * byte b (k + 2) + 16777216 * byte b (k + 3)

-- The table by operation code, 0 to 4: does an operation use its second cell, and its name in ASCII
abbrev pub uses_second : List Bool
uses_second = false ∷ false ∷ false ∷ false ∷ true ∷ []

abbrev pub names : List (List ℕ)
names =
    []
    ∷ (112 ∷ 117 ∷ 116 ∷ [])
    ∷ (97 ∷ 100 ∷ 100 ∷ [])
    ∷ (110 ∷ 101 ∷ 101 ∷ 100 ∷ [])
    ∷ (109 ∷ 111 ∷ 118 ∷ 101 ∷ [])
    ∷ []

-- the operation of a code
abbrev pub op_of : (code cell second amount : ℕ) → Op
op_of code k j a =
    cond (eqb code 1) (put k a) (cond (eqb code 2) (add k a) (cond (eqb code 3) (need k a) (move k j a)))

-- a code is 1 to 4, and the second cell is zero except where it is used
abbrev pub code_rules : (code second : ℕ) → List Bool
code_rules code j = leb 1 code ∷ leb code 4 ∷ cond (get_or uses_second code false) true (eqb j 0) ∷ []

-- where operation k begins
abbrev pub op_place : ℕ → ℕ
op_place k = first_op + op_size * k

-- operation k: code, cell, second cell, zero, then a 4-byte amount
abbrev pub op_within : List ℕ → ℕ → Op
op_within b k = op_of (byte b (op_place k)) (byte b (op_place k + 1)) (byte b (op_place k + 2)) (number b (op_place k + 4))

-- the first n operations from k on
abbrev pub ops_within : List ℕ → ℕ → ℕ → List Op
ops_within b k zero = []
ops_within b k (suc n) = op_within b k ∷ ops_within b (suc k) n

-- the request that the bytes name
unfoldable pub request_in : List ℕ → Request
request_in b = record { id = number b 0; class = byte b 4; ops = ops_within b 0 (byte b 5) }

-- the eight bytes of an operation of the request, and of one past its number, which are all zero
abbrev pub coded_at : List ℕ → ℕ → Bool
coded_at b at = every (code_rules (byte b at) (byte b (at + 2))) && eqb (byte b (at + 3)) 0

abbrev pub zero_at : List ℕ → ℕ → ℕ → Bool
zero_at b at zero = true
zero_at b at (suc n) = eqb (byte b at) 0 && zero_at b (suc at) n

abbrev pub op_at_ok : List ℕ → ℕ → Bool
op_at_ok b k = cond (ltb k (byte b 5)) (coded_at b (op_place k)) (zero_at b (op_place k) op_size)

-- operations k to 6
abbrev pub ops_ok_from : List ℕ → ℕ → ℕ → Bool
ops_ok_from b k zero = true
ops_ok_from b k (suc n) = op_at_ok b k && ops_ok_from b (suc k) n

-- the rules of the record: 64 bytes, zero where it says so, and a valid request
abbrev pub record_rules : List ℕ → List Bool
record_rules b =
    eqb (length b) record_size
    ∷ every (map (λ x. ltb x 256) b)
    ∷ zero_at b 6 2
    ∷ ops_ok_from b 0 most_ops
    ∷ valid (request_in b)
    ∷ []

unfoldable pub is_record : List ℕ → Bool
is_record b = every (record_rules b)

-- the request of a record, or nothing
unfoldable pub request : List ℕ → Option Request
request b = cond (is_record b) (some (request_in b)) none
