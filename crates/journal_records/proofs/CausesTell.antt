-- The numbers of the journal's answers are those of 01's table, and rows tell answers apart: each is read back from its row.
-- Assumes nothing.
use mathlib.Core.Path.{◌≡◌, refl}
use lib.Dec.{eqb}
use lib.ListN.{get_or}
use mathlib.Mathlib.Logic.Function.Defs.{LeftInverse-Injective}
use Rattle.std.specs.Prelude.{Result, Ok, Err, ℕ}
use Rattle.types.specs.Causes.{Cause}
use Rattle.types.specs.Codes.{pick}
use Rattle.journal_records.specs.CausesTell.{CausesTell}
use Rattle.journal_records.specs.Parts.{list_cause}
use Rattle.journal_records.specs.Record.{journal_cause}
use Rattle.journal_records.specs.Whole.{whole_len_cause}
use Rattle.journal_records.specs.declared.JournalError.TheVariants as written
use Rattle.journal_records.specs.declared.WholeLenError.TheVariants as whole
use Rattle.journal_records.specs.declared.listing.ListError.TheVariants as listing
use Rattle.journal_records.specs.declared.listing.Stop.TheVariants as stop
use Rattle.journal_records.specs.declared.JournalError.{JournalError}
use Rattle.journal_records.specs.declared.WholeLenError.{WholeLenError}
use Rattle.journal_records.specs.declared.listing.Stop.{Stop}
use Rattle.journal_records.specs.declared.listing.ListError.{ListError}

-- ---- reading back

abbrev journal_of : Cause → Result ℕ JournalError
journal_of c = pick (eqb c.number 0) (Ok (get_or c.returned 0 0)) (pick (eqb c.number 1) (Err written.BufferTooShort) (Err written.RecordInvalid))

journal_back : (a : Result ℕ JournalError) → journal_of (journal_cause a) ≡ a
journal_back (Ok n) = refl
journal_back (Err written.BufferTooShort) = refl
journal_back (Err written.RecordInvalid) = refl

abbrev whole_len_of : Cause → Result ℕ WholeLenError
whole_len_of c = pick (eqb c.number 0) (Ok (get_or c.returned 0 0)) (pick (eqb c.number 17) (Err whole.TooShort) (Err whole.UnknownVersion))

whole_len_back : (a : Result ℕ WholeLenError) → whole_len_of (whole_len_cause a) ≡ a
whole_len_back (Ok n) = refl
whole_len_back (Err whole.TooShort) = refl
whole_len_back (Err whole.UnknownVersion) = refl

abbrev list_of : Cause → Result Stop ListError
list_of c =
    pick (eqb c.number 0) (pick (eqb (get_or c.returned 0 0) 0) (Ok stop.More) (pick (eqb (get_or c.returned 0 0) 1) (Ok stop.Full) (Ok stop.End)))
    (pick (eqb c.number 1) (Err listing.BufferTooShort)
    (pick (eqb c.number 17) (Err listing.NotAJournal) (pick (eqb c.number 18) (Err listing.UnknownVersion) (Err listing.RecordInvalid))))

list_back : (a : Result Stop ListError) → list_of (list_cause a) ≡ a
list_back (Ok stop.More) = refl
list_back (Ok stop.Full) = refl
list_back (Ok stop.End) = refl
list_back (Err listing.BufferTooShort) = refl
list_back (Err listing.NotAJournal) = refl
list_back (Err listing.UnknownVersion) = refl
list_back (Err listing.RecordInvalid) = refl

pub causes_tell : CausesTell
causes_tell =
    record {
      journal_written = λ n. refl;
      journal_short = refl;
      journal_invalid = refl;
      whole_len_whole = λ n. refl;
      whole_len_short = refl;
      whole_len_version = refl;
      list_more = refl;
      list_full = refl;
      list_end = refl;
      list_short = refl;
      list_no_journal = refl;
      list_version = refl;
      list_invalid = refl;
      journal = LeftInverse-Injective journal_of journal_cause journal_back;
      whole_len = LeftInverse-Injective whole_len_of whole_len_cause whole_len_back;
      list = LeftInverse-Injective list_of list_cause list_back;
    }
