-- A record of a case and its answer, as tests/compare/calls/sample.rs lays it out.
-- Assumes nothing.
use Rattle.std.specs.Prelude.{ℕ, ◌+◌, ◌*◌, List, ltb, get_or, take, drop}
use Rattle.octets.specs.Numbers.{le_at}
use Rattle.types.specs.Codes.{pick}
use Rattle.replay.specs.declared.record.PartName.{PartName}
use Rattle.replay.specs.declared.record.PartName.TheVariants.{A, B, C, Output}

-- what each octet of the target and of every out-parameter is before the call
abbrev pub fill_of : List ℕ → ℕ
fill_of s = get_or s 25 0

-- 8 octets of the fill
abbrev pub many_of : List ℕ → ℕ
many_of s = fill_of s * 0x0101010101010101

-- ---- what goes in

-- how many numbers the record has
abbrev pub numbers_in : List ℕ → ℕ
numbers_in s = get_or s 28 0

-- the place of number i
abbrev pub number_at : ℕ → ℕ
number_at i = 30 + 8 * i

abbrev pub number_octet : List ℕ → ℕ → ℕ
number_octet s i = get_or s (number_at i) 0

-- where part k begins and part k - 1 ends: A, B and C, which go in, and the octets that come out
abbrev pub mark_of : List ℕ → ℕ → ℕ
mark_of s k = le_at 4 (4 * k) s

-- A, B and C are parts 0 to 2, the octets that come out are part 3
abbrev pub part_number : PartName → ℕ
part_number A = 0
part_number B = 1
part_number C = 2
part_number Output = 3

abbrev pub part_of : List ℕ → ℕ → List ℕ
part_of s k = drop (mark_of s k) (take (le_at 4 (4 * k + 4) s) s)

-- ---- what comes out

abbrev pub cause_in : List ℕ → ℕ
cause_in s = get_or s 26 0

-- what `octet` is after the call
abbrev pub octet_in : List ℕ → ℕ
octet_in s = get_or s 27 0

-- how many values the record has
abbrev pub values_in : List ℕ → ℕ
values_in s = get_or s 29 0

-- value i, or as before the call where the record has none
unfoldable pub value_of : List ℕ → ℕ → ℕ
value_of s i = pick (ltb i (values_in s)) (le_at 8 (number_at (numbers_in s) + 8 * i) s) (many_of s)

-- the octets that come out
abbrev pub output_of : List ℕ → List ℕ
output_of s = part_of s 3
