-- The sizes of document 01, each under its name. Assumes nothing.
use Rattle.std.specs.Prelude.{ℕ, ◌^◌}

-- classes are 0 to 15
abbrev pub class_count : ℕ
class_count = 16

-- the cells of a class are 0 to 63
abbrev pub cell_count : ℕ
cell_count = 64

-- slots are 0 to 127, shared by all classes
abbrev pub slot_count : ℕ
slot_count = 128

-- a request has 1 to 7 operations
abbrev pub most_ops : ℕ
most_ops = 7

-- cells, ids, amounts and definitive numbers have 32 bits
abbrev pub word : ℕ
word = 2 ^ 32

-- a count of times put back has 64 bits
abbrev pub wide_word : ℕ
wide_word = 2 ^ 64

-- ids and definitive numbers go up to here
abbrev pub last_number : ℕ
last_number = 4294967295

-- a request record has 64 bytes, an operation in it 8, from byte 8 on
abbrev pub record_size : ℕ
record_size = 64

abbrev pub op_size : ℕ
op_size = 8

abbrev pub first_op : ℕ
first_op = 8

-- a site keeps the ids of its last 256 confirmations
abbrev pub kept_count : ℕ
kept_count = 256

-- up to 8 queries are open, at places 1 to 8
abbrev pub query_count : ℕ
query_count = 8

-- a queue holds at most 128 requests and an entry of each of 8 queries
abbrev pub most_queued : ℕ
most_queued = 136

-- W is at most 128 requests of 7 operations and 8 entries
abbrev pub most_w : ℕ
most_w = 904
