-- A code that is written is read back as its value.
-- Assumes nothing.
use mathlib.Core.Path.{◌≡◌, refl}
use Rattle.std.specs.Prelude.{Ok}
use Rattle.types.specs.Messages.{message_code, message_of}
use Rattle.types.specs.States.{state_code, state_of}
use Rattle.types.specs.PollFlags.{priority_code, priority_in}
use Rattle.types.specs.RequestedServices.{requested_code, requested_of}
use Rattle.types.specs.Modes.{mode_code, mode_of}
use Rattle.types.specs.ReadBack.{CodesReadBack}
use Rattle.types.specs.declared.message_type.MessageType.{MessageType}
use Rattle.types.specs.declared.message_type.MessageType.TheVariants.{SoC, PReq, PRes, SoA, ASnd}
use Rattle.types.specs.declared.states.NmtState.{NmtState}
use Rattle.types.specs.declared.states.NmtState.TheVariants.{NmtGsOff, NmtGsInitialising, NmtGsResetApplication, NmtGsResetCommunication, NmtGsResetConfiguration, NmtNotActive, NmtPreOperational1, NmtPreOperational2, NmtReadyToOperate, NmtOperational, NmtCsStopped, NmtBasicEthernet}
use Rattle.types.specs.declared.poll_flags.PRFlag.{PRFlag}
use Rattle.types.specs.declared.poll_flags.PRFlag.TheVariants.{PrioNmtRequest, High3, High2, High1, PrioGenericRequest, Low3, Low2, Low1}
use Rattle.types.specs.declared.requested_service.RequestedServiceId.{RequestedServiceId}
use Rattle.types.specs.declared.requested_service.RequestedServiceId.TheVariants.{NoService, IdentRequest, StatusRequest, NmtRequestInvite, UnspecifiedInvite}
use Rattle.types.specs.declared.error_mode.ErrorEntryMode.{ErrorEntryMode}
use Rattle.types.specs.declared.error_mode.ErrorEntryMode.TheVariants.{Terminator, ErrorActive, ErrorCleared, EventOccurred}

pub message_known : (x : MessageType) → message_of (message_code x) ≡ Ok x
unfolding message_of
message_known SoC = refl
message_known PReq = refl
message_known PRes = refl
message_known SoA = refl
message_known ASnd = refl

pub state_known : (x : NmtState) → state_of (state_code x) ≡ Ok x
unfolding state_of
state_known NmtGsOff = refl
state_known NmtGsInitialising = refl
state_known NmtGsResetApplication = refl
state_known NmtGsResetCommunication = refl
state_known NmtGsResetConfiguration = refl
state_known NmtNotActive = refl
state_known NmtPreOperational1 = refl
state_known NmtPreOperational2 = refl
state_known NmtReadyToOperate = refl
state_known NmtOperational = refl
state_known NmtCsStopped = refl
state_known NmtBasicEthernet = refl

pub priority_known : (x : PRFlag) → priority_in (priority_code x) ≡ x
unfolding priority_in
priority_known PrioNmtRequest = refl
priority_known High3 = refl
priority_known High2 = refl
priority_known High1 = refl
priority_known PrioGenericRequest = refl
priority_known Low3 = refl
priority_known Low2 = refl
priority_known Low1 = refl

pub requested_known : (x : RequestedServiceId) → requested_of (requested_code x) ≡ Ok x
unfolding requested_of
requested_known NoService = refl
requested_known IdentRequest = refl
requested_known StatusRequest = refl
requested_known NmtRequestInvite = refl
requested_known UnspecifiedInvite = refl

pub mode_known : (x : ErrorEntryMode) → mode_of (mode_code x) ≡ Ok x
unfolding mode_of
mode_known Terminator = refl
mode_known ErrorActive = refl
mode_known ErrorCleared = refl
mode_known EventOccurred = refl

pub codes_read_back : CodesReadBack
codes_read_back =
    record {
      messages = message_known;
      states = state_known;
      priorities = priority_known;
      requested_services = requested_known;
      modes = mode_known;
    }
