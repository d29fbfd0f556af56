-- The 20 octets of an error entry (EPSG DS 301, Tables 94 and 96).
-- Assumes nothing.
use Rattle.std.specs.Prelude.{ℕ, ◌+◌, ◌*◌, ◌/◌, ◌%◌, false, ◌≡◌, List, [], ◌++◌, length, leb, Result, Ok, Err}
use Rattle.std.specs.Result.{result_unwrap_or}
use Rattle.octets.specs.Numbers.{bit, le_at, le_bytes}
use Rattle.types.specs.CauseNumbers.{too_short}
use Rattle.types.specs.Causes.{Cause, row, cause_of}
use Rattle.types.specs.Codes.{need}
use Rattle.types.specs.Modes.{mode_code, mode_in}
use Rattle.types.specs.declared.error_mode.ErrorEntryMode.TheVariants.{Terminator}
use Rattle.types.specs.declared.hal.PowerlinkError.TheVariants.{BufferTooShort}
use Rattle.section.specs.Write.{at_bit}
use Rattle.error_entry.specs.Values.{entry_numbers}
use Rattle.error_entry.specs.declared.EntryType.{EntryType}
use Rattle.error_entry.specs.declared.ErrorEntry.{ErrorEntry}
use Rattle.types.specs.declared.hal.PowerlinkError.{PowerlinkError}

-- the octets of an entry
abbrev pub entry_length : ℕ
entry_length = 20

-- the bits of the type: status entry, send to queue
abbrev pub status_entry_bit : ℕ
status_entry_bit = 15

abbrev pub send_to_queue_bit : ℕ
send_to_queue_bit = 14

-- bits 13 to 12 are the mode, bits 11 to 0 the profile
unfoldable pub entry_type_of : ℕ → EntryType
entry_type_of n =
    record {
      is_status_entry = bit status_entry_bit n;
      send_to_queue = bit send_to_queue_bit n;
      mode = mode_in (n / 4096 % 16);
      profile = n % 4096;
    }

-- the profile is masked to 12 bits
unfoldable pub type_number : EntryType → ℕ
type_number t = at_bit status_entry_bit t.is_status_entry + at_bit send_to_queue_bit t.send_to_queue + 4096 * mode_code t.mode + t.profile % 4096

-- octets 0 to 1 type, 2 to 3 code, 4 to 7 seconds, 8 to 11 nanoseconds, 12 to 19 information
unfoldable pub entry_of : List ℕ → ErrorEntry
entry_of s =
    record {
      entry_type = entry_type_of (le_at 2 0 s);
      error_code = le_at 2 2 s;
      timestamp = record { seconds = le_at 4 4 s; nanoseconds = le_at 4 8 s };
      additional_information = le_at 8 12 s;
    }

unfoldable pub entry_bytes : ErrorEntry → List ℕ
entry_bytes e =
    le_bytes 2 (type_number e.entry_type) ++ le_bytes 2 e.error_code ++ le_bytes 4 e.timestamp.seconds
    ++ le_bytes 4 e.timestamp.nanoseconds ++ le_bytes 8 e.additional_information

-- the terminator of a list: an entry of zeros
abbrev pub terminator : ErrorEntry
terminator =
    record {
      entry_type = record { is_status_entry = false; send_to_queue = false; mode = Terminator; profile = 0 };
      error_code = 0;
      timestamp = record { seconds = 0; nanoseconds = 0 };
      additional_information = 0;
    }

-- all octets are needed
unfoldable pub read_entry : List ℕ → Result ErrorEntry PowerlinkError
read_entry s = need (leb entry_length (length s)) (Err BufferTooShort) (Ok (entry_of s))

-- 01's number and values for each case: 0 with the entry's numbers, or the cause
abbrev pub entry_cause : Result ErrorEntry PowerlinkError → Cause
entry_cause (Ok e) = row 0 (entry_numbers e)
entry_cause (Err e) = cause_of e

-- r is what reading an entry from the octets s answers, with 01's number and values
pub record ReadsEntry (s : List ℕ) (r : Result ErrorEntry PowerlinkError) : Type 0 where
  pub answer : r ≡ read_entry s
  pub cause : entry_cause r ≡ need (leb entry_length (length s)) (row too_short []) (row 0 (entry_numbers (entry_of s)))

-- the entry that was read, or a terminator
abbrev pub or_terminator : Result ErrorEntry PowerlinkError → ErrorEntry
or_terminator r = result_unwrap_or r terminator
