-- What the calls of the journal leave to a caller in C: 01's number, the target of a record, and the lengths.
-- Assumes nothing.
use Rattle.std.specs.Prelude.{ℕ, Bool, ◌≡◌, List, length, leb, Result, Ok, Err}
use Rattle.types.specs.Codes.{need}
use Rattle.types.specs.Modes.{mode_of}
use Rattle.types.specs.declared.common.NetTime.{NetTime}
use Rattle.types.specs.declared.error_mode.ErrorEntryMode.{ErrorEntryMode}
use Rattle.error_entry.specs.declared.ErrorEntry.{ErrorEntry}
use Rattle.journal_records.specs.Record.{journal_record_length, record_bytes, journal_answer, journal_cause, journal_holds}
use Rattle.journal_records.specs.declared.JournalError.TheVariants.{BufferTooShort, RecordInvalid}
use Rattle.journal_records.specs.Whole.{whole_len, whole_len_cause}
use Rattle.powerlink.specs.Given.{entry_with}
use Rattle.types.specs.declared.error_mode.UnknownMode.{UnknownMode}
use Rattle.journal_records.specs.declared.JournalError.{JournalError}
use Rattle.journal_records.specs.declared.WholeLenError.{WholeLenError}

-- 1, then 19: a mode that is none is refused as mode 0 is
abbrev pub record_by : ℕ → (ErrorEntryMode → ErrorEntry) → Result ErrorEntryMode UnknownMode → ℕ → Result ℕ JournalError
record_by node e (Err x) room = need (leb journal_record_length room) (Err BufferTooShort) (Err RecordInvalid)
record_by node e (Ok m) room = journal_answer node (e m) room

abbrev pub target_by : ℕ → (ErrorEntryMode → ErrorEntry) → Result ErrorEntryMode UnknownMode → List ℕ → List ℕ
target_by node e (Err x) t = t
target_by node e (Ok m) t = journal_holds (journal_answer node (e m) (length t)) (record_bytes node (e m)) t

-- the length that is told: how many octets were written, or what stood there before
abbrev pub record_length_after : Result ℕ JournalError → ℕ → ℕ
record_length_after (Ok n) before = n
record_length_after (Err e) before = before

pub record RecordsBy (node : ℕ) (e : ErrorEntryMode → ErrorEntry) (m : Result ErrorEntryMode UnknownMode) (r : ℕ) (t t' : List ℕ) (n n' : ℕ) : Type 0 where
  pub cause : r ≡ (journal_cause (record_by node e m (length t))).number
  pub target : t' ≡ target_by node e m t
  pub written : n' ≡ record_length_after (record_by node e m (length t)) n

abbrev pub JournalRecords : ℕ → Bool → Bool → ℕ → ℕ → ℕ → NetTime → ℕ → ℕ → List ℕ → List ℕ → ℕ → ℕ → Type 0
JournalRecords node status queue mode profile code stamp information r t t' n n' =
    RecordsBy node (λ m. entry_with status queue m profile code stamp information) (mode_of mode) r t t' n n'

abbrev pub whole_after : Result ℕ WholeLenError → ℕ → ℕ
whole_after (Ok n) before = n
whole_after (Err e) before = before

pub record JournalWhole (version len r n n' : ℕ) : Type 0 where
  pub cause : r ≡ (whole_len_cause (whole_len version len)).number
  pub whole : n' ≡ whole_after (whole_len version len) n
