-- NMT states and their codes (EPSG DS 301, Appendix 3.6). A state of both kinds of node has one name and
-- one code. That only these twelve are read is powerlink-rs's rule.
-- Assumes nothing.
use Rattle.std.specs.Prelude.{ℕ, List, [], ◌∷◌, Result, Ok, Err}
use Rattle.types.specs.Codes.{decoded}
use Rattle.types.specs.declared.states.NmtState.{NmtState}
use Rattle.types.specs.declared.states.NmtState.TheVariants.{NmtGsOff, NmtGsInitialising, NmtGsResetApplication, NmtGsResetCommunication, NmtGsResetConfiguration, NmtNotActive, NmtPreOperational1, NmtPreOperational2, NmtReadyToOperate, NmtOperational, NmtCsStopped, NmtBasicEthernet}
use Rattle.types.specs.declared.hal.PowerlinkError.{PowerlinkError}
use Rattle.types.specs.declared.hal.PowerlinkError.TheVariants.{InvalidNmtState}

abbrev pub state_code : NmtState → ℕ
state_code NmtGsOff = 0x00
state_code NmtGsInitialising = 0x19
state_code NmtGsResetApplication = 0x29
state_code NmtGsResetCommunication = 0x39
state_code NmtGsResetConfiguration = 0x79
state_code NmtNotActive = 0x1C
state_code NmtPreOperational1 = 0x1D
state_code NmtPreOperational2 = 0x5D
state_code NmtReadyToOperate = 0x6D
state_code NmtOperational = 0xFD
state_code NmtCsStopped = 0x4D
state_code NmtBasicEthernet = 0x1E

abbrev pub states : List NmtState
states = NmtGsOff ∷ NmtGsInitialising ∷ NmtGsResetApplication ∷ NmtGsResetCommunication ∷ NmtGsResetConfiguration ∷ NmtNotActive ∷ NmtPreOperational1 ∷ NmtPreOperational2 ∷ NmtReadyToOperate ∷ NmtOperational ∷ NmtCsStopped ∷ NmtBasicEthernet ∷ []

-- the state whose code is b, or b itself where it is the code of none
unfoldable pub state_of : ℕ → Result NmtState PowerlinkError
state_of b = decoded state_code Ok (Err (InvalidNmtState b)) states b
