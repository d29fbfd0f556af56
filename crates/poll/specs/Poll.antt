-- What PReq and PRes share (EPSG DS 301, 4.6.1.1.3 and 4.6.1.1.4).
-- Assumes nothing.
use Rattle.std.specs.Prelude.{ℕ, ◌+◌}
use Rattle.types.specs.Header.{eth_length}

-- how many octets stand in front of the payload, in its section and in its frame
abbrev pub poll_fields_length : ℕ
poll_fields_length = 10

abbrev pub poll_payload_at : ℕ
poll_payload_at = eth_length + poll_fields_length

-- the bits of octet 4 that both have: a multiplexed slot, and a payload that is valid
abbrev pub ms_bit : ℕ
ms_bit = 5

abbrev pub rd_bit : ℕ
rd_bit = 0
