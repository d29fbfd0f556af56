-- The listing of a journal's octets: what the program `journal` prints (01, "Journal").
-- Assumes nothing.
use Rattle.std.specs.Prelude.{ℕ, zero, suc, Bool, ◌&&◌, List, [], ◌∷◌, ◌++◌, map, length, get_or, drop, leb, eqb}
use Rattle.octets.specs.Mark.{is_marked}
use Rattle.octets.specs.Numbers.{le_at}
use Rattle.types.specs.Codes.{pick, need}
use Rattle.types.specs.Modes.{mode_code}
use Rattle.error_entry.specs.Entry.{entry_of}
use Rattle.error_entry.specs.declared.ErrorEntry.{ErrorEntry}
use Rattle.journal_records.specs.Record.{journal_record_length, valid_record}
use Rattle.journal_records.specs.Text.{hex, decimal, joined}

-- a column of the listing: its name, and its text for the octets of a record
pub record Column : Type 0 where
  pub name : List ℕ
  pub text : List ℕ → List ℕ

-- what the version decides: how many octets a record has, and the columns
pub record Layout : Type 0 where
  pub size : ℕ
  pub columns : List Column

-- a record begins with the node ID and the entry
abbrev pub node_of : List ℕ → ℕ
node_of s = get_or s 0 0

abbrev pub recorded_entry : List ℕ → ErrorEntry
recorded_entry s = entry_of (drop 1 s)

-- `node`, `code`, `mode`, `profile`, `sec`, `nsec` and `info`; code and info are hexadecimal, of 4 and 16 digits
unfoldable pub version1 : Layout
version1 =
    record {
      size = journal_record_length;
      columns =
          record { name = 110 ∷ 111 ∷ 100 ∷ 101 ∷ []; text = λ s. decimal (node_of s) }
          ∷ record { name = 99 ∷ 111 ∷ 100 ∷ 101 ∷ []; text = λ s. hex 4 (recorded_entry s).error_code }
          ∷ record { name = 109 ∷ 111 ∷ 100 ∷ 101 ∷ []; text = λ s. decimal (mode_code (recorded_entry s).entry_type.mode) }
          ∷ record { name = 112 ∷ 114 ∷ 111 ∷ 102 ∷ 105 ∷ 108 ∷ 101 ∷ []; text = λ s. decimal (recorded_entry s).entry_type.profile }
          ∷ record { name = 115 ∷ 101 ∷ 99 ∷ []; text = λ s. decimal (recorded_entry s).timestamp.seconds }
          ∷ record { name = 110 ∷ 115 ∷ 101 ∷ 99 ∷ []; text = λ s. decimal (recorded_entry s).timestamp.nanoseconds }
          ∷ record { name = 105 ∷ 110 ∷ 102 ∷ 111 ∷ []; text = λ s. hex 16 (recorded_entry s).additional_information }
          ∷ [];
    }

unfoldable pub header_line : Layout → List ℕ
header_line l = joined (map (λ (c : Column). c.name) l.columns)

unfoldable pub record_line : Layout → List ℕ → List ℕ
record_line l s = joined (map (λ (c : Column). c.text s) l.columns)

-- `refused `, and 01's number
unfoldable pub refused_line : ℕ → List ℕ
refused_line n = joined ((114 ∷ 101 ∷ 102 ∷ 117 ∷ 115 ∷ 101 ∷ 100 ∷ []) ∷ decimal n ∷ [])

-- the octets of the longest line of a version
abbrev pub line_most : ℕ
line_most = 55

-- the octets begin with a whole record, whose ID is 1 to 239 and whose mode is not 0
unfoldable pub good_record : Layout → List ℕ → Bool
good_record l s = leb l.size (length s) && valid_record (node_of s) (recorded_entry s)

-- a version whose layout is known, or another
pub data Version : Type 0 where
  known : Layout → Version
  other : Version

unfoldable pub layout_of : ℕ → Version
layout_of v = pick (eqb v 1) (known version1) other

-- a line for each record, and at the first fault that of cause 19; n bounds how many lines there are
unfoldable pub lines_in : Layout → ℕ → List ℕ → List ℕ
lines_in l zero s = []
lines_in l (suc n) s =
    pick (eqb (length s) 0) []
    (need (good_record l s) (refused_line 19) (record_line l s ++ lines_in l n (drop l.size s)))

-- no record is empty, so there are no more lines than octets
unfoldable pub lines : Layout → List ℕ → List ℕ
lines l s = lines_in l (length s) s

-- `PLB`
unfoldable pub marked : List ℕ → Bool
marked s = is_marked (0x50 ∷ 0x4C ∷ 0x42 ∷ []) s

-- the header's line and the records', by the layout of the version; 18 for another version
abbrev pub listed_as : Version → List ℕ → List ℕ
listed_as (known l) s = header_line l ++ lines l s
listed_as other s = refused_line 18

-- 17, then 18, both alone
unfoldable pub listing : List ℕ → List ℕ
listing s = need (leb 5 (length s) && marked s) (refused_line 17) (listed_as (layout_of (le_at 2 3 s)) (drop 5 s))

-- the line of a node's entry, by its fields
unfoldable pub fields_line : ℕ → ErrorEntry → List ℕ
fields_line node e =
    joined
    (decimal node ∷ hex 4 e.error_code ∷ decimal (mode_code e.entry_type.mode) ∷ decimal e.entry_type.profile
    ∷ decimal e.timestamp.seconds ∷ decimal e.timestamp.nanoseconds ∷ hex 16 e.additional_information ∷ [])
