-- Reading the two headers that every frame begins with.
-- Assumes nothing.
use Rattle.std.specs.Prelude.{ℕ, ◌%◌, ◌≡◌, List, [], ◌∷◌, length, get_or, leb, Result, Ok, Err}
use Rattle.types.specs.CauseNumbers.{too_short, unknown_message}
use Rattle.types.specs.Causes.{Cause, row, cause_of}
use Rattle.types.specs.Codes.{need, decoded}
use Rattle.types.specs.Header.{eth_length, eth_header_of}
use Rattle.types.specs.Messages.{message_code, messages, message_of}
use Rattle.types.specs.declared.basic.EthernetHeader.{EthernetHeader}
use Rattle.types.specs.declared.hal.PowerlinkError.TheVariants.{BufferTooShort}
use Rattle.types.specs.declared.message_type.MessageType.{MessageType}
use Rattle.types.specs.declared.hal.PowerlinkError.{PowerlinkError}
use Rattle.codec.specs.declared.headers.PlHeader.{PlHeader}
use Rattle.codec.specs.declared.headers.RefusedEthHeader.{RefusedEthHeader}

-- all octets are needed; beside a refusal stands the header that the octets give, those past the end counting as 0
abbrev pub deserialize_eth_header : List ℕ → Result EthernetHeader RefusedEthHeader
deserialize_eth_header f =
    need (leb eth_length (length f)) (Err (record { eth_header = eth_header_of f; error = BufferTooShort })) (Ok (eth_header_of f))

-- 01's number and values for each case; the fields of an Ethernet header are its values
abbrev pub eth_header_cause : Result EthernetHeader RefusedEthHeader → Cause
eth_header_cause (Ok h) = row 0 []
eth_header_cause (Err x) = cause_of x.error

abbrev pub pl_header_cause : Result PlHeader PowerlinkError → Cause
pl_header_cause (Ok h) = row 0 (message_code h.message_type ∷ h.destination.0 ∷ h.source.0 ∷ [])
pl_header_cause (Err e) = cause_of e

abbrev pub pl_by_message : List ℕ → Result MessageType PowerlinkError → Result PlHeader PowerlinkError
pl_by_message s (Err e) = Err e
pl_by_message s (Ok message) =
    Ok (record { message_type = message; destination = record { 0 = get_or s 1 0 }; source = record { 0 = get_or s 2 0 } })

-- the message type is the low seven bits of octet 0
abbrev pub message_number : List ℕ → ℕ
message_number s = get_or s 0 0 % 0x80

-- 3 octets are needed, then a message type; of a whole frame the type is tested first
unfoldable pub deserialize_pl_header : List ℕ → Result PlHeader PowerlinkError
deserialize_pl_header s = need (leb 3 (length s)) (Err BufferTooShort) (pl_by_message s (message_of (message_number s)))

-- ---- what the two readings promise, with 01's number and values

pub record ReadsEthHeader (f : List ℕ) (r : Result EthernetHeader RefusedEthHeader) : Type 0 where
  pub read : r ≡ deserialize_eth_header f
  pub cause : eth_header_cause r ≡ need (leb eth_length (length f)) (row too_short []) (row 0 [])

-- the row of a code in octet 0: that of the octets which are read, or of the code that names nothing
abbrev pub pl_row : ℕ → ℕ → ℕ → Cause
pl_row code destination source =
    decoded message_code (λ m. row 0 (code ∷ destination ∷ source ∷ [])) (row unknown_message (code ∷ [])) messages code

pub record ReadsPlHeader (s : List ℕ) (r : Result PlHeader PowerlinkError) : Type 0 where
  pub answer : r ≡ deserialize_pl_header s
  pub cause : pl_header_cause r ≡ need (leb 3 (length s)) (row too_short []) (pl_row (message_number s) (get_or s 1 0) (get_or s 2 0))
