-- 01's table of causes, for the answers of the journal's calls: the number of each case, in figures, and that rows tell answers apart.
-- Assumes nothing.
use Rattle.std.specs.Prelude.{ℕ, ◌≡◌, [], ◌∷◌, Result, Ok, Err}
use Rattle.types.specs.Causes.{row}
use Rattle.journal_records.specs.Parts.{list_cause}
use Rattle.journal_records.specs.Record.{journal_cause}
use Rattle.journal_records.specs.Whole.{whole_len_cause}
use Rattle.journal_records.specs.declared.JournalError.TheVariants as written
use Rattle.journal_records.specs.declared.WholeLenError.TheVariants as whole
use Rattle.journal_records.specs.declared.listing.ListError.TheVariants as listing
use Rattle.journal_records.specs.declared.listing.Stop.TheVariants as stop
use Rattle.journal_records.specs.declared.JournalError.{JournalError}
use Rattle.journal_records.specs.declared.WholeLenError.{WholeLenError}
use Rattle.journal_records.specs.declared.listing.Stop.{Stop}
use Rattle.journal_records.specs.declared.listing.ListError.{ListError}

pub record CausesTell : Type 0 where
  -- writing a record: 0 with its octets, 1, 19
  pub journal_written : (n : ℕ) → journal_cause (Ok n) ≡ row 0 (n ∷ [])
  pub journal_short : journal_cause (Err written.BufferTooShort) ≡ row 1 []
  pub journal_invalid : journal_cause (Err written.RecordInvalid) ≡ row 19 []
  -- how much of a journal is whole: 0 with the length, 17, 18
  pub whole_len_whole : (n : ℕ) → whole_len_cause (Ok n) ≡ row 0 (n ∷ [])
  pub whole_len_short : whole_len_cause (Err whole.TooShort) ≡ row 17 []
  pub whole_len_version : whole_len_cause (Err whole.UnknownVersion) ≡ row 18 []
  -- listing: 0 where octets have to come, where the room is used up and at the end, 1, 17, 18, 19
  pub list_more : list_cause (Ok stop.More) ≡ row 0 (0 ∷ [])
  pub list_full : list_cause (Ok stop.Full) ≡ row 0 (1 ∷ [])
  pub list_end : list_cause (Ok stop.End) ≡ row 0 (2 ∷ [])
  pub list_short : list_cause (Err listing.BufferTooShort) ≡ row 1 []
  pub list_no_journal : list_cause (Err listing.NotAJournal) ≡ row 17 []
  pub list_version : list_cause (Err listing.UnknownVersion) ≡ row 18 []
  pub list_invalid : list_cause (Err listing.RecordInvalid) ≡ row 19 []
  -- no two cases of an answer have the same
  pub journal : (a b : Result ℕ JournalError) → journal_cause a ≡ journal_cause b → a ≡ b
  pub whole_len : (a b : Result ℕ WholeLenError) → whole_len_cause a ≡ whole_len_cause b → a ≡ b
  pub list : (a b : Result Stop ListError) → list_cause a ≡ list_cause b → a ≡ b
