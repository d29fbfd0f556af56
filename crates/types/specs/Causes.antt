-- 01's table of causes, for the errors of frames: the number of each, and what is returned with it.
-- Assumes nothing.
use Rattle.std.specs.Prelude.{ℕ, List, [], ◌∷◌, eqb, Option, Some, None}
use Rattle.types.specs.Codes.{pick}
use Rattle.types.specs.CauseNumbers.{too_short, not_powerlink, invalid_frame, unknown_message, unknown_state, unknown_service, unknown_request}
use Rattle.types.specs.declared.hal.PowerlinkError.{PowerlinkError}
use Rattle.types.specs.declared.hal.PowerlinkError.TheVariants.{BufferTooShort, InvalidEthernetFrame, InvalidPlFrame, InvalidMessageType, InvalidNmtState, InvalidServiceId, InvalidRequestedServiceId}

-- a row of the table: the column "Number" (0 where nothing is refused), and the values of the column "Returned"
pub record Cause : Type 0 where
  pub number : ℕ
  pub returned : List ℕ

abbrev pub row : ℕ → List ℕ → Cause
row n bs = record { number = n; returned = bs }

abbrev pub cause_of : PowerlinkError → Cause
cause_of BufferTooShort = row too_short []
cause_of InvalidEthernetFrame = row not_powerlink []
cause_of InvalidPlFrame = row invalid_frame []
cause_of (InvalidMessageType b) = row unknown_message (b ∷ [])
cause_of (InvalidNmtState b) = row unknown_state (b ∷ [])
cause_of (InvalidServiceId b) = row unknown_service (b ∷ [])
cause_of (InvalidRequestedServiceId b) = row unknown_request (b ∷ [])

abbrev pub cause_number : PowerlinkError → ℕ
cause_number e = (cause_of e).number

abbrev pub first : List ℕ → Option ℕ
first [] = None
first (b ∷ bs) = Some b

-- the octet, where the table does not return the number alone
abbrev pub cause_byte : PowerlinkError → Option ℕ
cause_byte e = first (cause_of e).returned

-- and back: the error of a number, 1 to 7, with the octet that is returned
abbrev pub error_told : ℕ → ℕ → PowerlinkError
error_told n b =
    pick (eqb n 1) BufferTooShort
    (pick (eqb n 2) InvalidEthernetFrame
    (pick (eqb n 3) InvalidPlFrame
    (pick (eqb n 4) (InvalidMessageType b)
    (pick (eqb n 5) (InvalidNmtState b) (pick (eqb n 6) (InvalidServiceId b) (InvalidRequestedServiceId b))))))
