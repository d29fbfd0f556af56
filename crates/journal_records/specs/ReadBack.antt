-- Records that are written are listed with their fields.
-- Assumes nothing.
use Rattle.std.specs.Prelude.{ℕ, ◌%◌, ◌^◌, ◌<◌, true, ◌≡◌, List, [], ◌∷◌, ◌++◌, take, Result, Ok}
use Rattle.octets.specs.Numbers.{le_at}
use Rattle.types.specs.declared.NodeId.{NodeId}
use Rattle.error_entry.specs.declared.ErrorEntry.{ErrorEntry}
use Rattle.journal_records.specs.Listing.{known, version1, header_line, fields_line, layout_of, marked, listing}
use Rattle.journal_records.specs.Record.{WritesRecord}
use Rattle.journal_records.specs.declared.JournalError.{JournalError}

-- a node ID with an entry
pub record Recorded : Type 0 where
  pub node : NodeId
  pub entry : ErrorEntry

-- its numbers are of their widths; a profile may have more than its 12 bits
pub record InWidth (x : Recorded) : Type 0 where
  pub code : x.entry.error_code < 2 ^ 16
  pub seconds : x.entry.timestamp.seconds < 2 ^ 32
  pub nanoseconds : x.entry.timestamp.nanoseconds < 2 ^ 32
  pub information : x.entry.additional_information < 2 ^ 64

-- octets of records, one behind the other: those that calls of `write` have put to the front of their targets
pub data Journaled : List Recorded → List ℕ → Type 0 where
  none : Journaled [] []
  more : {x : Recorded} {xs : List Recorded} {r : (Result ℕ JournalError)} {n : ℕ} {target after octets : List ℕ} → InWidth x
      → WritesRecord x.node x.entry r target after → r ≡ Ok n → Journaled xs octets → Journaled (x ∷ xs) (take n after ++ octets)

-- the entry as it is written: the profile masked to 12 bits
abbrev pub masked : ErrorEntry → ErrorEntry
masked e =
    record {
      entry_type =
          record {
            is_status_entry = e.entry_type.is_status_entry;
            send_to_queue = e.entry_type.send_to_queue;
            mode = e.entry_type.mode;
            profile = e.entry_type.profile % 4096;
          };
      error_code = e.error_code;
      timestamp = e.timestamp;
      additional_information = e.additional_information;
    }

abbrev pub fields_lines : List Recorded → List ℕ
fields_lines [] = []
fields_lines (x ∷ xs) = fields_line x.node.0 (masked x.entry) ++ fields_lines xs

-- `PLB` and version 1, which the caller writes
abbrev pub journal_start : List ℕ
journal_start = 80 ∷ 76 ∷ 66 ∷ 1 ∷ 0 ∷ []

-- 01's first five octets, 50 4C 42 01 00 h: they are what the caller writes, and the listing takes them and no others
pub record StartTold : Type 0 where
  pub octets : journal_start ≡ 0x50 ∷ 0x4C ∷ 0x42 ∷ 0x01 ∷ 0x00 ∷ []
  pub mark : (s : List ℕ) → marked (0x50 ∷ 0x4C ∷ 0x42 ∷ s) ≡ true
  pub version : (a b c : ℕ) (s : List ℕ) → layout_of (le_at 2 3 (a ∷ b ∷ c ∷ 0x01 ∷ 0x00 ∷ s)) ≡ known version1
  pub alone : (a b c d e : ℕ) (s : List ℕ) → marked (a ∷ b ∷ c ∷ d ∷ e ∷ s) ≡ true
      → layout_of (le_at 2 3 (a ∷ b ∷ c ∷ d ∷ e ∷ s)) ≡ known version1
      → a ∷ b ∷ c ∷ d ∷ e ∷ [] ≡ 0x50 ∷ 0x4C ∷ 0x42 ∷ 0x01 ∷ 0x00 ∷ []

-- ---- 01's example

abbrev pub example_octets : List ℕ
example_octets =
    80 ∷ 76 ∷ 66 ∷ 1 ∷ 0 ∷ 7 ∷ 2 ∷ 80 ∷ 52 ∷ 18 ∷ 5 ∷ 0 ∷ 0 ∷ 0 ∷ 6 ∷ 0 ∷ 0 ∷ 0
    ∷ 0 ∷ 0 ∷ 0 ∷ 0 ∷ 0 ∷ 0 ∷ 0 ∷ 0 ∷ []

-- `node code mode profile sec nsec info`, then `7 1234 1 2 5 6 0000000000000000`
abbrev pub example_lines : List ℕ
example_lines =
    110 ∷ 111 ∷ 100 ∷ 101 ∷ 32 ∷ 99 ∷ 111 ∷ 100 ∷ 101 ∷ 32 ∷ 109 ∷ 111 ∷ 100 ∷ 101 ∷ 32 ∷ 112 ∷ 114 ∷ 111 ∷ 102 ∷ 105 ∷ 108 ∷ 101 ∷ 32 ∷ 115 ∷ 101 ∷ 99 ∷ 32 ∷ 110 ∷ 115 ∷ 101 ∷ 99 ∷ 32 ∷ 105 ∷ 110 ∷ 102 ∷ 111 ∷ 10
    ∷ 55 ∷ 32 ∷ 49 ∷ 50 ∷ 51 ∷ 52 ∷ 32 ∷ 49 ∷ 32 ∷ 50 ∷ 32 ∷ 53 ∷ 32 ∷ 54 ∷ 32 ∷ 48 ∷ 48 ∷ 48 ∷ 48 ∷ 48 ∷ 48 ∷ 48 ∷ 48 ∷ 48 ∷ 48 ∷ 48 ∷ 48 ∷ 48 ∷ 48 ∷ 48 ∷ 48 ∷ 10 ∷ []

pub record RecordsReadBack : Type 0 where
  pub records : (xs : List Recorded) (octets : List ℕ) → Journaled xs octets → listing (journal_start ++ octets) ≡ header_line version1 ++ fields_lines xs
  pub example : listing example_octets ≡ example_lines
