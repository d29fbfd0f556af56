-- Writing a PRes frame (EPSG DS 301, 4.6.1.1.4, Table 20).
-- Assumes nothing.
use Rattle.std.specs.Prelude.{ℕ, ◌+◌, ◌%◌, List, ◌∷◌, ◌++◌}
use Rattle.octets.specs.Numbers.{le_bytes}
use Rattle.types.specs.Addresses.{multicast_pres}
use Rattle.types.specs.Header.{powerlink_header}
use Rattle.types.specs.Messages.{message_code}
use Rattle.types.specs.Nodes.{broadcast_node}
use Rattle.types.specs.PollFlags.{poll_octet}
use Rattle.types.specs.States.{state_code}
use Rattle.types.specs.declared.NodeId.{NodeId}
use Rattle.types.specs.declared.basic.MacAddress.{MacAddress}
use Rattle.types.specs.declared.mapping.PDOVersion.{PDOVersion}
use Rattle.types.specs.declared.message_type.MessageType.TheVariants as message
use Rattle.types.specs.declared.states.NmtState.{NmtState}
use Rattle.section.specs.Write.{at_bit, padded}
use Rattle.poll.specs.Poll.{ms_bit, rd_bit}
use Rattle.types.specs.declared.basic.NewFrame.{NewFrame}
use Rattle.poll.specs.declared.pres.PResFlags.{PResFlags}
use Rattle.poll.specs.declared.pres.PResFrame.{PResFrame}

-- to all nodes and the multicast address of PRes; the size is the payload's length n modulo 65,536
abbrev pub new_pres : MacAddress → NodeId → NmtState → PResFlags → PDOVersion → ℕ → NewFrame PResFrame
new_pres from source state flags version n =
    record {
      eth_header = powerlink_header (record { 0 = multicast_pres }) from;
      frame = record {
        destination = record { 0 = broadcast_node };
        source = source;
        nmt_state = state;
        flags = flags;
        pdo_version = version;
        payload_size = n % 65536;
      };
    }

-- the bits of octet 4: ms, en, rd
abbrev pub en_bit : ℕ
en_bit = 4

abbrev pub pres_flag_bits : PResFlags → ℕ
pres_flag_bits f = at_bit ms_bit f.ms + at_bit en_bit f.en + at_bit rd_bit f.rd

-- the octets of the fields
abbrev pub pres_bytes : PResFrame → List ℕ
pres_bytes f =
    message_code message.PRes ∷ f.destination.0 ∷ f.source.0 ∷ state_code f.nmt_state ∷ pres_flag_bits f.flags
    ∷ poll_octet f.flags.pr f.flags.rs.0 ∷ f.pdo_version.0 ∷ 0 ∷ le_bytes 2 f.payload_size

-- the size is written as given, equal to the payload's length or not
unfoldable pub pres_section : PResFrame → List ℕ → List ℕ
pres_section f payload = padded (pres_bytes f ++ payload)
