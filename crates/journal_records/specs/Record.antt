-- A record of the journal (01, "Journal"): the node ID, then the 20 octets of the entry, its profile masked to 12 bits.
-- Assumes nothing.
use Rattle.std.specs.Prelude.{ℕ, ◌+◌, Bool, true, false, ◌&&◌, ◌≡◌, List, [], ◌∷◌, ◌++◌, length, drop, leb, Result, Ok, Err}
use Rattle.types.specs.CauseNumbers as cause
use Rattle.types.specs.Causes.{Cause, row}
use Rattle.types.specs.Codes.{pick, need}
use Rattle.types.specs.Modes.{unless_terminator}
use Rattle.types.specs.Nodes.{is_cn_node_id}
use Rattle.types.specs.declared.NodeId.{NodeId}
use Rattle.error_entry.specs.Entry.{entry_length, entry_bytes}
use Rattle.error_entry.specs.declared.ErrorEntry.{ErrorEntry}
use Rattle.journal_records.specs.declared.JournalError.TheVariants.{BufferTooShort, RecordInvalid}
use Rattle.journal_records.specs.declared.JournalError.{JournalError}

-- the octets of a record
abbrev pub journal_record_length : ℕ
journal_record_length = 1 + entry_length

unfoldable pub record_bytes : ℕ → ErrorEntry → List ℕ
record_bytes node e = node ∷ entry_bytes e

-- the ID is 1 to 239, and the mode is not 0
unfoldable pub valid_record : ℕ → ErrorEntry → Bool
valid_record node e = is_cn_node_id node && unless_terminator e.entry_type.mode true false

-- 1, then 19
abbrev pub journal_answer : ℕ → ErrorEntry → ℕ → Result ℕ JournalError
journal_answer node e room = need (leb journal_record_length room) (Err BufferTooShort) (need (valid_record node e) (Err RecordInvalid) (Ok journal_record_length))

-- 01's number and values for each case: 0 with how many octets were written, or the cause
abbrev pub journal_cause : Result ℕ JournalError → Cause
journal_cause (Ok n) = row 0 (n ∷ [])
journal_cause (Err BufferTooShort) = row cause.too_short []
journal_cause (Err RecordInvalid) = row cause.record_invalid []

-- the octets, then what the target held behind them; or the target as it was
abbrev pub journal_holds : Result ℕ JournalError → List ℕ → List ℕ → List ℕ
journal_holds (Ok n) bs target = bs ++ drop n target
journal_holds (Err e) bs target = target

-- r is what writing a record to `target` answers, with 01's number, and `after` what the target then holds
pub record WritesRecord (node : NodeId) (e : ErrorEntry) (r : Result ℕ JournalError) (target after : List ℕ) : Type 0 where
  pub answer : r ≡ journal_answer node.0 e (length target)
  pub cause : journal_cause r ≡ need (leb journal_record_length (length target)) (row 1 []) (pick (valid_record node.0 e) (row 0 (21 ∷ [])) (row 19 []))
  pub holds : after ≡ journal_holds r (record_bytes node.0 e) target
