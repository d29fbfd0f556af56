-- Octets as a store of error entries: the entry at an octet, and the store with an entry put there.
-- Assumes nothing.
use Rattle.std.specs.Prelude.{ℕ, ◌+◌, ◌≡◌, List, [], ◌∷◌, leb, length, drop, Result, Ok, Err}
use Rattle.std.proofs.lemmas.List.Edits.{sets}
use Rattle.types.specs.CauseNumbers.{too_short}
use Rattle.types.specs.Causes.{row}
use Rattle.types.specs.Codes.{pick}
use Rattle.types.specs.declared.hal.PowerlinkError.TheVariants.{BufferTooShort}
use Rattle.section.specs.Write.{write_cause}
use Rattle.error_entry.specs.Entry.{entry_of, entry_bytes}
pub use Rattle.error_entry.specs.Entry.{entry_length}
use Rattle.error_entry.specs.declared.ErrorEntry.{ErrorEntry}
use Rattle.types.specs.declared.hal.PowerlinkError.{PowerlinkError}

-- the entry that stands at an octet, where its record is there whole
unfoldable pub record_at : List ℕ → ℕ → ErrorEntry
record_at s at = entry_of (drop at s)

-- the store with an entry put at an octet, where its record fits there whole; else as it was
unfoldable pub with_record : List ℕ → ℕ → ErrorEntry → List ℕ
with_record s at e = pick (leb (at + entry_length) (length s)) (sets s at (entry_bytes e)) s

-- r is what putting the record of e at an octet of s answers, with 01's number, and `after` what s then holds
pub record PutsRecord (at : ℕ) (e : ErrorEntry) (r : Result ℕ PowerlinkError) (s after : List ℕ) : Type 0 where
  pub answer : r ≡ pick (leb (at + entry_length) (length s)) (Ok entry_length) (Err BufferTooShort)
  pub cause : write_cause r ≡ pick (leb (at + entry_length) (length s)) (row 0 (entry_length ∷ [])) (row too_short [])
  pub holds : after ≡ with_record s at e
