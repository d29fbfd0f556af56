-- Entries that are given as their octets or as the first of a batch, and what writing them comes to.
-- Assumes nothing.
use Rattle.std.specs.Prelude.{ℕ, zero, suc, ◌/◌, ◌%◌, Bool, true, false, ◌≡◌, List, [], ◌∷◌, eqb, leb, length, drop, Result, Err}
use Rattle.types.specs.CauseNumbers.{too_short}
use Rattle.types.specs.Causes.{row}
use Rattle.types.specs.Codes.{need}
use Rattle.types.specs.declared.hal.PowerlinkError.TheVariants.{BufferTooShort}
use Rattle.section.specs.Write.{write_cause, Writes}
use Rattle.error_entry.specs.Entry.{entry_length, entry_of}
use Rattle.error_entry.specs.declared.ErrorEntry.{ErrorEntry}
use Rattle.status_response.specs.Steps.{status_length}
use Rattle.types.specs.declared.hal.PowerlinkError.{PowerlinkError}

-- n entries, one after the other
abbrev pub entries_of : ℕ → List ℕ → List ErrorEntry
entries_of zero s = []
entries_of (suc n) s = entry_of s ∷ entries_of n (drop entry_length s)

-- the entries whose octets are s, of which there are a multiple of an entry's
abbrev pub entries_given : List ℕ → List ErrorEntry
entries_given s = entries_of (length s / entry_length) s

-- whether the octets s are whole entries, and their payload fits into len octets
abbrev pub given_fit : List ℕ → ℕ → Bool
given_fit s len = need (eqb (length s % entry_length) 0) false (leb (status_length (length s / entry_length)) len)

-- what writing the octets bs comes to where the entries are there whole; else 01's cause 1, input shorter than needed, and the
-- target as it was
abbrev pub WritesWhole : Bool → List ℕ → Result ℕ PowerlinkError → List ℕ → List ℕ → Type 0
WritesWhole true bs r target after = Writes bs r target after
WritesWhole false bs r target after = (r ≡ Err BufferTooShort) × (write_cause r ≡ row too_short []) × (after ≡ target)
