-- What reading an octet by a table of codes answers, with 01's number and values. A code that names nothing is refused with the octet.
-- Assumes nothing.
use Rattle.std.specs.Prelude.{ℕ, ◌≡◌, List, [], ◌∷◌, Result, Ok, Err}
use Rattle.types.specs.CauseNumbers.{unknown_message, unknown_state, unknown_request, entry_invalid}
use Rattle.types.specs.Causes.{Cause, row, cause_of}
use Rattle.types.specs.Codes.{decoded}
use Rattle.types.specs.Messages.{message_code, messages, message_of}
use Rattle.types.specs.Modes.{mode_code, modes, mode_of}
use Rattle.types.specs.RequestedServices.{requested_code, requested_services, requested_of}
use Rattle.types.specs.States.{state_code, states, state_of}
use Rattle.types.specs.declared.states.NmtState.{NmtState}
use Rattle.types.specs.declared.hal.PowerlinkError.{PowerlinkError}
use Rattle.types.specs.declared.message_type.MessageType.{MessageType}
use Rattle.types.specs.declared.requested_service.RequestedServiceId.{RequestedServiceId}
use Rattle.types.specs.declared.error_mode.UnknownMode.{UnknownMode}
use Rattle.types.specs.declared.error_mode.ErrorEntryMode.{ErrorEntryMode}

-- ---- of each answer the number and the values

abbrev pub message_cause : Result MessageType PowerlinkError → Cause
message_cause (Ok m) = row 0 (message_code m ∷ [])
message_cause (Err e) = cause_of e

abbrev pub state_cause : Result NmtState PowerlinkError → Cause
state_cause (Ok s) = row 0 (state_code s ∷ [])
state_cause (Err e) = cause_of e

abbrev pub requested_cause : Result RequestedServiceId PowerlinkError → Cause
requested_cause (Ok s) = row 0 (requested_code s ∷ [])
requested_cause (Err e) = cause_of e

-- 01 has no octet of a mode, and no number for one above 3: it is the mode of no entry, as mode 0 is where one is raised
abbrev pub mode_cause : Result ErrorEntryMode UnknownMode → Cause
mode_cause (Ok m) = row 0 (mode_code m ∷ [])
mode_cause (Err e) = row entry_invalid (e.0 ∷ [])

-- ---- what a reading promises

-- 01's row for an octet: 0 where it is the code of one of the values, and else the number n; with the octet
abbrev pub code_row : {A : Type 0} → (A → ℕ) → List A → ℕ → ℕ → Cause
code_row code values n b = decoded code (λ x. row 0 (b ∷ [])) (row n (b ∷ [])) values b

pub record ReadsCode {R : Type 0} (cause_of : R → Cause) (expected : R) (told : Cause) (r : R) : Type 0 where
  pub answer : r ≡ expected
  pub cause : cause_of r ≡ told

abbrev pub ReadsMessage : ℕ → Result MessageType PowerlinkError → Type 0
ReadsMessage b r = ReadsCode message_cause (message_of b) (code_row message_code messages unknown_message b) r

abbrev pub ReadsState : ℕ → Result NmtState PowerlinkError → Type 0
ReadsState b r = ReadsCode state_cause (state_of b) (code_row state_code states unknown_state b) r

abbrev pub ReadsRequested : ℕ → Result RequestedServiceId PowerlinkError → Type 0
ReadsRequested b r = ReadsCode requested_cause (requested_of b) (code_row requested_code requested_services unknown_request b) r

abbrev pub ReadsMode : ℕ → Result ErrorEntryMode UnknownMode → Type 0
ReadsMode b r = ReadsCode mode_cause (mode_of b) (code_row mode_code modes entry_invalid b) r
