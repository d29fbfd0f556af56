-- Reading the section of an SoA frame (EPSG DS 301, 4.6.1.1.5, Tables 21 and 22).
-- Assumes nothing.
use Rattle.std.specs.Prelude.{ℕ, List, length, get_or, leb, Result, Ok, Err}
use Rattle.octets.specs.Numbers.{bit}
use Rattle.types.specs.Codes.{need}
use Rattle.types.specs.RequestedServices.{requested_of}
use Rattle.types.specs.States.{state_of}
use Rattle.types.specs.declared.hal.PowerlinkError.TheVariants.{BufferTooShort}
use Rattle.types.specs.declared.requested_service.RequestedServiceId.{RequestedServiceId}
use Rattle.types.specs.declared.states.NmtState.{NmtState}
use Rattle.control.specs.SoA.{ea_bit, er_bit, soa_fields_length}
use Rattle.control.specs.declared.soa.SoAFrame.{SoAFrame}
use Rattle.frame.specs.declared.PowerlinkFrame.TheVariants.{SoA}
use Rattle.types.specs.declared.hal.PowerlinkError.{PowerlinkError}
use Rattle.frame.specs.declared.PowerlinkFrame.{PowerlinkFrame}

-- octet 1 destination, 2 source, 3 state, 4 flags, 6 requested service, 7 target, 8 EPL version
abbrev pub soa_of : List ℕ → NmtState → RequestedServiceId → SoAFrame
soa_of s state service =
    record {
      destination = record { 0 = get_or s 1 0 };
      source = record { 0 = get_or s 2 0 };
      nmt_state = state;
      flags = record { ea = bit ea_bit (get_or s 4 0); er = bit er_bit (get_or s 4 0) };
      req_service_id = service;
      target_node_id = record { 0 = get_or s 7 0 };
      epl_version = record { 0 = get_or s 8 0 };
    }

abbrev pub soa_by_service : List ℕ → NmtState → Result RequestedServiceId PowerlinkError → Result PowerlinkFrame PowerlinkError
soa_by_service s state (Err e) = Err e
soa_by_service s state (Ok service) = Ok (SoA (soa_of s state service))

abbrev pub soa_by_state : List ℕ → Result NmtState PowerlinkError → Result PowerlinkFrame PowerlinkError
soa_by_state s (Err e) = Err e
soa_by_state s (Ok st) = soa_by_service s st (requested_of (get_or s 6 0))

-- the octets of the fields are needed; the state is tested before the service
unfoldable pub read_soa : List ℕ → Result PowerlinkFrame PowerlinkError
read_soa s = need (leb soa_fields_length (length s)) (Err BufferTooShort) (soa_by_state s (state_of (get_or s 3 0)))
