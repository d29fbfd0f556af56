-- A code that is written is read back as its value.
-- Assumes nothing.
use Rattle.std.specs.Prelude.{◌≡◌, Ok}
use Rattle.types.specs.Messages.{message_code, message_of}
use Rattle.types.specs.Modes.{mode_code, mode_of}
use Rattle.types.specs.PollFlags.{priority_code, priority_in}
use Rattle.types.specs.RequestedServices.{requested_code, requested_of}
use Rattle.types.specs.States.{state_code, state_of}
use Rattle.types.specs.declared.error_mode.ErrorEntryMode.{ErrorEntryMode}
use Rattle.types.specs.declared.message_type.MessageType.{MessageType}
use Rattle.types.specs.declared.poll_flags.PRFlag.{PRFlag}
use Rattle.types.specs.declared.requested_service.RequestedServiceId.{RequestedServiceId}
use Rattle.types.specs.declared.states.NmtState.{NmtState}

pub record CodesReadBack : Type 0 where
  pub messages : (m : MessageType) → message_of (message_code m) ≡ Ok m
  pub states : (s : NmtState) → state_of (state_code s) ≡ Ok s
  pub priorities : (p : PRFlag) → priority_in (priority_code p) ≡ p
  pub requested_services : (s : RequestedServiceId) → requested_of (requested_code s) ≡ Ok s
  pub modes : (m : ErrorEntryMode) → mode_of (mode_code m) ≡ Ok m
