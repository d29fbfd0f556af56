-- What the octets of a collector's state mean, and what each call makes of them. The papers leave the layout to the program; every
-- list of octets means a box: a start counts modulo 64, a count above 64 is 64, EA is the lowest bit, and where two blocks have
-- the same node ID the first is the node's.
-- Assumes nothing.
use Rattle.std.specs.Prelude.{ℕ, ◌+◌, ◌*◌, ◌-◌, ◌%◌, min, Bool, List, [], ◌∷◌, get_or, set, replicate, eqb, ltb, Result, Ok, Err, Some, None, Option}
use Rattle.types.specs.Codes.{pick}
use Rattle.error_entry.specs.declared.ErrorEntry.{ErrorEntry}
use Rattle.records.specs.Records.{entry_length, record_at, with_record}
use Rattle.records.specs.Ring.{ring}
use Rattle.collector.specs.Rules.{heads, book_length, Account, Box, when_registered, Said, en_in, when_booked, when_taken, response_in, status_in}
use Rattle.collector.specs.declared.RegisterError.{RegisterError}
use Rattle.collector.specs.declared.TakeError.{TakeError}
use Rattle.collector.specs.declared.ReadOutcome.{ReadOutcome}
use Rattle.collector.specs.declared.ReadError.{ReadError}
use Rattle.types.specs.declared.NodeId.{NodeId}
use Rattle.types.specs.declared.hal.PowerlinkError.{PowerlinkError}

-- ---- where the octets stand: a block for each head, then the box's own; in a block its control octets, then its book's records

-- the octets of the box as a whole, behind the blocks: none
abbrev pub box_length : ℕ
box_length = 0

-- the control octets of a block: the node ID (0: the block is free), EA, the book's start and its count; the others are spare
abbrev pub control_length : ℕ
control_length = 16

abbrev pub node_at : ℕ
node_at = 0

abbrev pub ea_at : ℕ
ea_at = 1

abbrev pub start_at : ℕ
start_at = 2

abbrev pub count_at : ℕ
count_at = 3

-- a record of a book: the entry
abbrev pub record_length : ℕ
record_length = entry_length

abbrev pub block_length : ℕ
block_length = control_length + record_length * book_length

abbrev pub collector_length : ℕ
collector_length = block_length * heads + box_length

abbrev pub block : ℕ → ℕ
block k = block_length * k

unfoldable pub node_in : List ℕ → ℕ → ℕ
node_in s k = get_or s (block k + node_at) 0

-- the first block whose node ID is i, or `heads`
unfoldable pub find_of : List ℕ → ℕ → ℕ
find_of s i =
    pick (eqb (node_in s 0) i) 0 (pick (eqb (node_in s 1) i) 1 (pick (eqb (node_in s 2) i) 2 (pick (eqb (node_in s 3) i) 3 heads)))

-- the block of a registered node, or `heads`
unfoldable pub slot_of : List ℕ → ℕ → ℕ
slot_of s i = pick (eqb i 0) heads (find_of s i)

-- the block of that number, where there is one
abbrev pub block_found : ℕ → Option ℕ
block_found k = pick (ltb k heads) (Some k) None

unfoldable pub ea_in : List ℕ → ℕ → Bool
ea_in s k = eqb (get_or s (block k + ea_at) 0 % 2) 1

unfoldable pub start_in : List ℕ → ℕ → ℕ
start_in s k = get_or s (block k + start_at) 0 % book_length

unfoldable pub count_in : List ℕ → ℕ → ℕ
count_in s k = min (get_or s (block k + count_at) 0) book_length

-- where the record at a place of a book's ring begins
abbrev pub record_place : ℕ → ℕ → ℕ
record_place k p = block k + control_length + record_length * (p % book_length)

abbrev pub entry_in : List ℕ → ℕ → ℕ → ErrorEntry
entry_in s k p = record_at s (record_place k p)

-- the book in a block, oldest first
unfoldable pub book_in : List ℕ → ℕ → List ErrorEntry
book_in s k = ring (entry_in s k) book_length (start_in s k) (count_in s k)

abbrev pub account_in : List ℕ → ℕ → Account
account_in s k = record { ea = ea_in s k; book = book_in s k }

unfoldable pub account_of : List ℕ → ℕ → Option Account
account_of s i = pick (ltb (slot_of s i) heads) (Some (account_in s (slot_of s i))) None

abbrev pub is_vacant : List ℕ → ℕ → ℕ
is_vacant s k = pick (eqb (node_in s k) 0) 1 0

unfoldable pub vacant_of : List ℕ → ℕ
vacant_of s = is_vacant s 0 + is_vacant s 1 + is_vacant s 2 + is_vacant s 3

abbrev pub box_of : List ℕ → Box
box_of s = record { accounts = account_of s; vacant = vacant_of s }

-- ---- what the calls leave

abbrev pub fresh_bytes : List ℕ
fresh_bytes = replicate collector_length 0

-- block k is given to node i
unfoldable pub placed_bytes : List ℕ → ℕ → ℕ → List ℕ
placed_bytes s k i = set (set (set (set s (block k + node_at) i) (block k + ea_at) 0) (block k + start_at) 0) (block k + count_at) 0

abbrev pub register_bytes : Result Unit RegisterError → ℕ → List ℕ → List ℕ
register_bytes r i s = when_registered r (placed_bytes s (find_of s 0) i) s

-- the entry's record behind those of the book
unfoldable pub pushed_bytes : List ℕ → ℕ → ErrorEntry → List ℕ
pushed_bytes s k e = set (with_record s (record_place k (start_in s k + count_in s k)) e) (block k + count_at) (count_in s k + 1)

unfoldable pub pushed_all : List ℕ → ℕ → List ErrorEntry → List ℕ
pushed_all s k [] = s
pushed_all s k (e ∷ es) = pushed_all (pushed_bytes s k e) k es

-- EA of block k becomes `ea`
abbrev pub ea_bytes : List ℕ → ℕ → Bool → List ℕ
ea_bytes s k ea = set s (block k + ea_at) (pick ea 1 0)

unfoldable pub booked_bytes : List ℕ → ℕ → Bool → List ErrorEntry → List ℕ
booked_bytes s k en es = ea_bytes (pushed_all s k es) k en

abbrev pub booking_bytes : Result (Option NodeId) PowerlinkError → Said → List ℕ → List ℕ
booking_bytes (Err e) said s = s
booking_bytes (Ok None) said s = s
booking_bytes (Ok (Some source)) said s = booked_bytes s (slot_of s source.0) (en_in said.fields) said.entries

abbrev pub response_bytes : List ℕ → Result ReadOutcome ReadError → List ℕ → List ℕ → List ℕ
response_bytes services r f s = when_booked r (booking_bytes (response_in services f) (status_in f) s) s

-- the book's start moves past its first record
unfoldable pub taken_bytes : List ℕ → ℕ → List ℕ
taken_bytes s k = set (set s (block k + start_at) ((start_in s k + 1) % book_length)) (block k + count_at) (count_in s k - 1)

abbrev pub take_bytes : Result ErrorEntry TakeError → ℕ → List ℕ → List ℕ
take_bytes r i s = when_taken r (taken_bytes s (slot_of s i)) s
