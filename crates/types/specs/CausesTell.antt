-- 01's table of causes, with its own numbers: what the definitions by name come to. And no two answers have the same number and values.
-- Assumes nothing.
use Rattle.std.specs.Prelude.{ℕ, ◌≡◌, [], ◌∷◌, get_or, Result, Ok, Err}
use Rattle.types.specs.CauseNumbers.{too_short, not_powerlink, invalid_frame, unknown_message, unknown_state, unknown_service, unknown_request, entry_invalid, queue_full, not_status_response, not_registered, book_full, id_out_of_range, id_registered, four_registered, nothing_booked, not_a_journal, unknown_version, record_invalid, not_a_table, not_ascending, without_status_response, is_status_entry}
use Rattle.types.specs.Causes.{row, cause_of, error_told}
use Rattle.types.specs.CodeCauses.{message_cause, state_cause, requested_cause, mode_cause}
use Rattle.types.specs.Messages.{message_code}
use Rattle.types.specs.Modes.{mode_code}
use Rattle.types.specs.RequestedServices.{requested_code}
use Rattle.types.specs.States.{state_code}
use Rattle.types.specs.declared.error_mode.ErrorEntryMode.{ErrorEntryMode}
use Rattle.types.specs.declared.hal.PowerlinkError.{PowerlinkError}
use Rattle.types.specs.declared.hal.PowerlinkError.TheVariants.{BufferTooShort, InvalidEthernetFrame, InvalidPlFrame, InvalidMessageType, InvalidNmtState, InvalidServiceId, InvalidRequestedServiceId}
use Rattle.types.specs.declared.message_type.MessageType.{MessageType}
use Rattle.types.specs.declared.requested_service.RequestedServiceId.{RequestedServiceId}
use Rattle.types.specs.declared.states.NmtState.{NmtState}
use Rattle.types.specs.declared.error_mode.UnknownMode.{UnknownMode}

-- the column "Number", line by line
pub record NumbersTell : Type 0 where
  pub line1 : too_short ≡ 1
  pub line2 : not_powerlink ≡ 2
  pub line3 : invalid_frame ≡ 3
  pub line4 : unknown_message ≡ 4
  pub line5 : unknown_state ≡ 5
  pub line6 : unknown_service ≡ 6
  pub line7 : unknown_request ≡ 7
  pub line8 : entry_invalid ≡ 8
  pub line9 : queue_full ≡ 9
  pub line10 : not_status_response ≡ 10
  pub line11 : not_registered ≡ 11
  pub line12 : book_full ≡ 12
  pub line13 : id_out_of_range ≡ 13
  pub line14 : id_registered ≡ 14
  pub line15 : four_registered ≡ 15
  pub line16 : nothing_booked ≡ 16
  pub line17 : not_a_journal ≡ 17
  pub line18 : unknown_version ≡ 18
  pub line19 : record_invalid ≡ 19
  -- 02, CR 1
  pub line20 : not_a_table ≡ 20
  pub line21 : not_ascending ≡ 21
  pub line22 : without_status_response ≡ 22
  pub line23 : is_status_entry ≡ 23

-- the errors of frames, with the column "Returned"
pub record ErrorsTell : Type 0 where
  pub buffer_too_short : cause_of BufferTooShort ≡ row 1 []
  pub invalid_ethernet_frame : cause_of InvalidEthernetFrame ≡ row 2 []
  pub invalid_pl_frame : cause_of InvalidPlFrame ≡ row 3 []
  pub invalid_message_type : (b : ℕ) → cause_of (InvalidMessageType b) ≡ row 4 (b ∷ [])
  pub invalid_nmt_state : (b : ℕ) → cause_of (InvalidNmtState b) ≡ row 5 (b ∷ [])
  pub invalid_service_id : (b : ℕ) → cause_of (InvalidServiceId b) ≡ row 6 (b ∷ [])
  pub invalid_requested_service_id : (b : ℕ) → cause_of (InvalidRequestedServiceId b) ≡ row 7 (b ∷ [])
  pub apart : (d e : PowerlinkError) → cause_of d ≡ cause_of e → d ≡ e
  -- whatever stands where no octet is returned
  pub told : (e : PowerlinkError) (b : ℕ) → error_told (cause_of e).number (get_or (cause_of e).returned 0 b) ≡ e

-- the codes that are read
pub record CodesTell : Type 0 where
  pub a_message : (m : MessageType) → message_cause (Ok m) ≡ row 0 (message_code m ∷ [])
  pub no_message : (b : ℕ) → message_cause (Err (InvalidMessageType b)) ≡ row 4 (b ∷ [])
  pub messages_apart : (a b : Result MessageType PowerlinkError) → message_cause a ≡ message_cause b → a ≡ b
  pub a_state : (s : NmtState) → state_cause (Ok s) ≡ row 0 (state_code s ∷ [])
  pub no_state : (b : ℕ) → state_cause (Err (InvalidNmtState b)) ≡ row 5 (b ∷ [])
  pub states_apart : (a b : Result NmtState PowerlinkError) → state_cause a ≡ state_cause b → a ≡ b
  pub a_requested : (s : RequestedServiceId) → requested_cause (Ok s) ≡ row 0 (requested_code s ∷ [])
  pub no_requested : (b : ℕ) → requested_cause (Err (InvalidRequestedServiceId b)) ≡ row 7 (b ∷ [])
  pub requested_apart : (a b : Result RequestedServiceId PowerlinkError) → requested_cause a ≡ requested_cause b → a ≡ b
  pub a_mode : (m : ErrorEntryMode) → mode_cause (Ok m) ≡ row 0 (mode_code m ∷ [])
  pub no_mode : (b : ℕ) → mode_cause (Err (record { 0 = b })) ≡ row 8 (b ∷ [])
  pub modes_apart : (a b : Result ErrorEntryMode UnknownMode) → mode_cause a ≡ mode_cause b → a ≡ b
