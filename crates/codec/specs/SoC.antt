-- Reading the section of a SoC frame (EPSG DS 301, 4.6.1.1.2, Tables 15 and 16).
-- Assumes nothing.
use Rattle.std.specs.Prelude.{ℕ, List, length, get_or, leb, Result, Ok, Err}
use Rattle.octets.specs.Numbers.{bit, le_at}
use Rattle.types.specs.Codes.{need}
use Rattle.types.specs.declared.hal.PowerlinkError.TheVariants.{BufferTooShort}
use Rattle.control.specs.SoC.{mc_bit, ps_bit, soc_fields_length}
use Rattle.control.specs.declared.soc.SocFrame.{SocFrame}
use Rattle.frame.specs.declared.PowerlinkFrame.TheVariants.{Soc}
use Rattle.frame.specs.declared.PowerlinkFrame.{PowerlinkFrame}
use Rattle.types.specs.declared.hal.PowerlinkError.{PowerlinkError}

-- octet 1 destination, 2 source, 4 flags, 6 to 9 seconds, 10 to 13 nanoseconds, 14 to 21 relative time
abbrev pub soc_of : List ℕ → SocFrame
soc_of s =
    record {
      destination = record { 0 = get_or s 1 0 };
      source = record { 0 = get_or s 2 0 };
      flags = record { mc = bit mc_bit (get_or s 4 0); ps = bit ps_bit (get_or s 4 0) };
      net_time = record { seconds = le_at 4 6 s; nanoseconds = le_at 4 10 s };
      relative_time = record { 0 = le_at 8 14 s };
    }

-- the octets of the fields are needed
unfoldable pub read_soc : List ℕ → Result PowerlinkFrame PowerlinkError
read_soc s = need (leb soc_fields_length (length s)) (Err BufferTooShort) (Ok (Soc (soc_of s)))
