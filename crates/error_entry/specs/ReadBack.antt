-- An entry that is written is read back, and the other way round.
-- Assumes nothing.
use Rattle.std.specs.Prelude.{ℕ, ◌^◌, ◌≤◌, ◌<◌, ◌≡◌, List, ◌++◌, length, get_or, take}
use Rattle.error_entry.specs.Entry.{entry_length, entry_of, entry_bytes}
use Rattle.error_entry.specs.declared.ErrorEntry.{ErrorEntry}

-- the numbers are of their widths
pub record InRange (e : ErrorEntry) : Type 0 where
  pub profile : e.entry_type.profile < 2 ^ 12
  pub code : e.error_code < 2 ^ 16
  pub seconds : e.timestamp.seconds < 2 ^ 32
  pub nanoseconds : e.timestamp.nanoseconds < 2 ^ 32
  pub information : e.additional_information < 2 ^ 64

pub record EntriesReadBack : Type 0 where
  pub entries : (e : ErrorEntry) (behind : List ℕ) → InRange e → entry_of (entry_bytes e ++ behind) ≡ e
  pub octets : (s : List ℕ) → entry_length ≤ length s → ((i : ℕ) → get_or s i 0 < 256) → entry_bytes (entry_of s) ≡ take entry_length s
