-- What a writer leaves to a caller in C: the cause's number, the target, the length, and the octet of a code that names nothing.
-- Assumes nothing.
use Rattle.std.specs.Prelude.{ℕ, ◌≡◌, List, leb, length, Result, Ok, Err}
use Rattle.types.specs.CauseNumbers.{too_short, entry_invalid}
use Rattle.types.specs.Codes.{need}
use Rattle.types.specs.declared.error_mode.ErrorEntryMode.{ErrorEntryMode}
use Rattle.types.specs.declared.message_type.MessageType.{MessageType}
use Rattle.types.specs.declared.requested_service.RequestedServiceId.{RequestedServiceId}
use Rattle.types.specs.declared.states.NmtState.{NmtState}
use Rattle.section.specs.Write.{write_answer, write_cause, overwritten, Coded, unnamed, coded_answer, coded_target}
use Rattle.error_entry.specs.Entry.{entry_length, entry_bytes}
use Rattle.error_entry.specs.declared.ErrorEntry.{ErrorEntry}
use Rattle.c_values.specs.Answers.{length_after, octet_after}
use Rattle.types.specs.declared.hal.PowerlinkError.{PowerlinkError}
use Rattle.types.specs.declared.error_mode.UnknownMode.{UnknownMode}

-- r is the number of what writing bs comes to, t' what the target t then holds, and n' the length that is told where n stood
pub record WritesTo (bs : List ℕ) (r : ℕ) (t t' : List ℕ) (n n' : ℕ) : Type 0 where
  pub cause : r ≡ (write_cause (write_answer bs t)).number
  pub target : t' ≡ overwritten bs t
  pub written : n' ≡ length_after (write_answer bs t) n

-- ---- an entry of the mode that a number names: 1, then 8 where it names none, as Raise refuses it

abbrev pub entry_cause_by : (ErrorEntryMode → ErrorEntry) → Result ErrorEntryMode UnknownMode → List ℕ → ℕ
entry_cause_by e (Ok m) t = (write_cause (write_answer (entry_bytes (e m)) t)).number
entry_cause_by e (Err x) t = need (leb entry_length (length t)) too_short entry_invalid

abbrev pub entry_target_by : (ErrorEntryMode → ErrorEntry) → Result ErrorEntryMode UnknownMode → List ℕ → List ℕ
entry_target_by e (Ok m) t = overwritten (entry_bytes (e m)) t
entry_target_by e (Err x) t = t

abbrev pub entry_length_by : (ErrorEntryMode → ErrorEntry) → Result ErrorEntryMode UnknownMode → List ℕ → ℕ → ℕ
entry_length_by e (Ok m) t n = length_after (write_answer (entry_bytes (e m)) t) n
entry_length_by e (Err x) t n = n

pub record WritesEntry (e : ErrorEntryMode → ErrorEntry) (m : Result ErrorEntryMode UnknownMode) (r : ℕ) (t t' : List ℕ) (n n' : ℕ) : Type 0 where
  pub cause : r ≡ entry_cause_by e m t
  pub target : t' ≡ entry_target_by e m t
  pub written : n' ≡ entry_length_by e m t n

-- ---- codes that may name nothing

-- where n octets are needed: what follows a code that names something, or the error of one that does not
abbrev pub typed : ℕ → Result MessageType PowerlinkError → (MessageType → Coded) → Coded
typed n (Err e) next = unnamed n e
typed n (Ok m) next = next m

abbrev pub stated : ℕ → Result NmtState PowerlinkError → (NmtState → Coded) → Coded
stated n (Err e) next = unnamed n e
stated n (Ok s) next = next s

abbrev pub requested : ℕ → Result RequestedServiceId PowerlinkError → (RequestedServiceId → Coded) → Coded
requested n (Err e) next = unnamed n e
requested n (Ok s) next = next s

-- as `WritesTo`, with the octet o' that is told where o stood
pub record WritesCoded (w : Coded) (r : ℕ) (t t' : List ℕ) (n n' o o' : ℕ) : Type 0 where
  pub cause : r ≡ (write_cause (coded_answer w t)).number
  pub target : t' ≡ coded_target w t
  pub written : n' ≡ length_after (coded_answer w t) n
  pub octet : o' ≡ octet_after (coded_answer w t) o
