-- Writing an SoA frame (EPSG DS 301, 4.6.1.1.5, Tables 21 and 22).
-- Assumes nothing.
use Rattle.std.specs.Prelude.{ℕ, ◌+◌, List, [], ◌∷◌}
use Rattle.types.specs.Addresses.{multicast_soa}
use Rattle.types.specs.Header.{powerlink_header}
use Rattle.types.specs.Messages.{message_code}
use Rattle.types.specs.Nodes.{managing_node, broadcast_node}
use Rattle.types.specs.RequestedServices.{requested_code}
use Rattle.types.specs.States.{state_code}
use Rattle.types.specs.declared.EPLVersion.{EPLVersion}
use Rattle.types.specs.declared.NodeId.{NodeId}
use Rattle.types.specs.declared.basic.MacAddress.{MacAddress}
use Rattle.types.specs.declared.message_type.MessageType.TheVariants as message
use Rattle.types.specs.declared.requested_service.RequestedServiceId.{RequestedServiceId}
use Rattle.types.specs.declared.states.NmtState.{NmtState}
use Rattle.section.specs.Write.{at_bit, padded}
use Rattle.types.specs.declared.basic.NewFrame.{NewFrame}
use Rattle.control.specs.declared.soa.SoAFlags.{SoAFlags}
use Rattle.control.specs.declared.soa.SoAFrame.{SoAFrame}

-- from the managing node to all nodes, and to the multicast address of SoA
abbrev pub new_soa : MacAddress → NmtState → SoAFlags → RequestedServiceId → NodeId → EPLVersion → NewFrame SoAFrame
new_soa from state flags service target version =
    record {
      eth_header = powerlink_header (record { 0 = multicast_soa }) from;
      frame = record {
        destination = record { 0 = broadcast_node };
        source = record { 0 = managing_node };
        nmt_state = state;
        flags = flags;
        req_service_id = service;
        target_node_id = target;
        epl_version = version;
      };
    }

-- the bits of octet 4
abbrev pub ea_bit : ℕ
ea_bit = 2

abbrev pub er_bit : ℕ
er_bit = 1

abbrev pub soa_flag_bits : SoAFlags → ℕ
soa_flag_bits f = at_bit ea_bit f.ea + at_bit er_bit f.er

-- how many octets the fields have
abbrev pub soa_fields_length : ℕ
soa_fields_length = 9

-- the octets of the fields
abbrev pub soa_bytes : SoAFrame → List ℕ
soa_bytes f =
    message_code message.SoA ∷ f.destination.0 ∷ f.source.0 ∷ state_code f.nmt_state ∷ soa_flag_bits f.flags ∷ 0
    ∷ requested_code f.req_service_id ∷ f.target_node_id.0 ∷ f.epl_version.0 ∷ []

unfoldable pub soa_section : SoAFrame → List ℕ
soa_section f = padded (soa_bytes f)
