-- How much of a journal is whole: its mark, its version and the records that are there to their last octet.
-- Assumes nothing.
use Rattle.std.specs.Prelude.{ℕ, ◌+◌, ◌*◌, ◌-◌, ◌/◌, ◌<◌, ◌≡◌, List, [], ◌∷◌, ◌++◌, leb, length, take, Result, Ok, Err}
use Rattle.types.specs.CauseNumbers as cause
use Rattle.types.specs.Causes.{Cause, row}
use Rattle.types.specs.Codes.{need}
use Rattle.journal_records.specs.Listing.{Version, known, other, version1, header_line, layout_of, listing}
use Rattle.journal_records.specs.ReadBack.{Recorded, Journaled, fields_lines, journal_start}
use Rattle.journal_records.specs.declared.WholeLenError.TheVariants.{TooShort, UnknownVersion}
use Rattle.journal_records.specs.declared.WholeLenError.{WholeLenError}

-- by the layout of the version; 18 for another version
abbrev pub whole_as : Version → ℕ → Result ℕ WholeLenError
whole_as (known l) len = Ok (5 + l.size * ((len - 5) / l.size))
whole_as other len = Err UnknownVersion

-- 17, then 18
unfoldable pub whole_len : ℕ → ℕ → Result ℕ WholeLenError
whole_len version len = need (leb 5 len) (Err TooShort) (whole_as (layout_of version) len)

-- 01's number and values for each case: 0 with the length, or the cause
abbrev pub whole_len_cause : Result ℕ WholeLenError → Cause
whole_len_cause (Ok n) = row 0 (n ∷ [])
whole_len_cause (Err TooShort) = row cause.not_a_journal []
whole_len_cause (Err UnknownVersion) = row cause.unknown_version []

-- r is what is told of a journal of this version and length, with 01's number
pub record TellsWhole (version len : ℕ) (r : Result ℕ WholeLenError) : Type 0 where
  pub answer : r ≡ whole_len version len
  pub cause : whole_len_cause r ≡ whole_len_cause (whole_len version len)

-- ---- a torn journal: records that calls of `write` have made, and behind them fewer octets than a record has, whatever they are

abbrev pub torn_journal : List ℕ → List ℕ → List ℕ
torn_journal octets torn = (journal_start ++ octets) ++ torn

pub record TornReadsBack : Type 0 where
  -- what is whole ends where the torn record begins
  pub ends : (xs : List Recorded) (octets torn : List ℕ) → Journaled xs octets → length torn < version1.size
      → whole_len 1 (length (torn_journal octets torn)) ≡ Ok (length (journal_start ++ octets))
  -- cut to that length, the journal lists its records and those that are appended then, if any: none is refused, none made up
  pub listed : (xs ys : List Recorded) (octets torn appended : List ℕ) (n : ℕ) → Journaled xs octets → length torn < version1.size
      → Journaled ys appended → whole_len 1 (length (torn_journal octets torn)) ≡ Ok n
      → listing (take n (torn_journal octets torn) ++ appended) ≡ header_line version1 ++ fields_lines (xs ++ ys)
