-- Reading the section of an ASnd frame (EPSG DS 301, 4.6.1.1.6) under a table of services (02, CR 1).
-- Assumes nothing.
use Rattle.std.specs.Prelude.{ℕ, List, length, get_or, drop, leb, eqb, Result, Ok, Err}
use Rattle.octets.specs.Trim.{trimmed_length}
use Rattle.types.specs.Codes.{pick, need}
use Rattle.types.specs.declared.hal.PowerlinkError.TheVariants.{BufferTooShort, InvalidServiceId}
use Rattle.services.specs.Table.{holds}
use Rattle.section.specs.Write.{min_section}
use Rattle.control.specs.ASnd.{asnd_fields_length}
use Rattle.control.specs.declared.asnd.ASndFrame.{ASndFrame}
use Rattle.frame.specs.declared.PowerlinkFrame.TheVariants.{ASnd}
use Rattle.frame.specs.declared.PowerlinkFrame.{PowerlinkFrame}
use Rattle.types.specs.declared.hal.PowerlinkError.{PowerlinkError}

-- octet 1 destination, 2 source, 3 service, then the payload
abbrev pub asnd_of : List ℕ → ASndFrame
asnd_of s =
    record {
      destination = record { 0 = get_or s 1 0 };
      source = record { 0 = get_or s 2 0 };
      service_id = record { 0 = get_or s 3 0 };
    }

-- the octets of the fields are needed, then a service that the table holds: "a service outside it is 6", with its octet
unfoldable pub read_asnd : List ℕ → List ℕ → Result PowerlinkFrame PowerlinkError
read_asnd services s =
    need (leb asnd_fields_length (length s)) (Err BufferTooShort)
    (need (holds services (get_or s 3 0)) (Err (InvalidServiceId (get_or s 3 0)))
    (Ok (ASnd (asnd_of s))))

-- a section of exactly the smallest size loses the zeros at its payload's end: powerlink-rs's rule, not DS 301's
unfoldable pub asnd_payload_length : List ℕ → ℕ
asnd_payload_length s = pick (eqb (length s) min_section) (trimmed_length (drop asnd_fields_length s)) (length (drop asnd_fields_length s))
