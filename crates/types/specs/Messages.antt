-- Message types and their codes (EPSG DS 301, Appendix 3.1).
-- Assumes nothing.
use Rattle.std.specs.Prelude.{ℕ, List, [], ◌∷◌, Result, Ok, Err}
use Rattle.types.specs.Codes.{decoded}
use Rattle.types.specs.declared.message_type.MessageType.{MessageType}
use Rattle.types.specs.declared.message_type.MessageType.TheVariants.{SoC, PReq, PRes, SoA, ASnd}
use Rattle.types.specs.declared.hal.PowerlinkError.{PowerlinkError}
use Rattle.types.specs.declared.hal.PowerlinkError.TheVariants.{InvalidMessageType}

abbrev pub message_code : MessageType → ℕ
message_code SoC = 1
message_code PReq = 3
message_code PRes = 4
message_code SoA = 5
message_code ASnd = 6

abbrev pub messages : List MessageType
messages = SoC ∷ PReq ∷ PRes ∷ SoA ∷ ASnd ∷ []

-- the message type whose code is b, or b itself where it is the code of none
unfoldable pub message_of : ℕ → Result MessageType PowerlinkError
message_of b = decoded message_code Ok (Err (InvalidMessageType b)) messages b
