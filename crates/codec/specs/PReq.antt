-- Reading the section of a PReq frame (EPSG DS 301, 4.6.1.1.3, Table 18).
-- Assumes nothing.
use Rattle.std.specs.Prelude.{ℕ, ◌-◌, List, length, get_or, leb, Result, Ok, Err}
use Rattle.octets.specs.Numbers.{bit, le_at}
use Rattle.types.specs.Codes.{need}
use Rattle.types.specs.declared.hal.PowerlinkError.TheVariants.{BufferTooShort}
use Rattle.poll.specs.Poll.{poll_fields_length, ms_bit, rd_bit}
use Rattle.poll.specs.PReq.{ea_bit}
use Rattle.poll.specs.declared.preq.PReqFrame.{PReqFrame}
use Rattle.frame.specs.declared.PowerlinkFrame.TheVariants.{PReq}
use Rattle.frame.specs.declared.PowerlinkFrame.{PowerlinkFrame}
use Rattle.types.specs.declared.hal.PowerlinkError.{PowerlinkError}

-- octet 1 destination, 2 source, 4 flags, 6 PDO version, 8 to 9 payload size, then the payload
abbrev pub preq_of : List ℕ → ℕ → PReqFrame
preq_of s size =
    record {
      destination = record { 0 = get_or s 1 0 };
      source = record { 0 = get_or s 2 0 };
      flags = record { ms = bit ms_bit (get_or s 4 0); ea = bit ea_bit (get_or s 4 0); rd = bit rd_bit (get_or s 4 0) };
      pdo_version = record { 0 = get_or s 6 0 };
      payload_size = size;
    }

-- the octets of the fields are needed, then those of the payload
unfoldable pub read_preq : List ℕ → Result PowerlinkFrame PowerlinkError
read_preq s =
    need (leb poll_fields_length (length s)) (Err BufferTooShort)
    (need (leb (le_at 2 8 s) (length s - poll_fields_length)) (Err BufferTooShort)
    (Ok (PReq (preq_of s (le_at 2 8 s)))))
