-- Writing a PReq frame (EPSG DS 301, 4.6.1.1.3, Table 18).
-- Assumes nothing.
use Rattle.std.specs.Prelude.{ℕ, ◌+◌, ◌%◌, List, ◌∷◌, ◌++◌}
use Rattle.octets.specs.Numbers.{le_bytes}
use Rattle.types.specs.Header.{powerlink_header}
use Rattle.types.specs.Messages.{message_code}
use Rattle.types.specs.Nodes.{managing_node}
use Rattle.types.specs.declared.NodeId.{NodeId}
use Rattle.types.specs.declared.basic.MacAddress.{MacAddress}
use Rattle.types.specs.declared.mapping.PDOVersion.{PDOVersion}
use Rattle.types.specs.declared.message_type.MessageType.TheVariants as message
use Rattle.section.specs.Write.{at_bit, padded}
use Rattle.poll.specs.Poll.{ms_bit, rd_bit}
use Rattle.types.specs.declared.basic.NewFrame.{NewFrame}
use Rattle.poll.specs.declared.preq.PReqFlags.{PReqFlags}
use Rattle.poll.specs.declared.preq.PReqFrame.{PReqFrame}

-- from the managing node, with both addresses given; the size is the payload's length n modulo 65,536
abbrev pub new_preq : MacAddress → MacAddress → NodeId → PReqFlags → PDOVersion → ℕ → NewFrame PReqFrame
new_preq from to target flags version n =
    record {
      eth_header = powerlink_header to from;
      frame = record {
        destination = target;
        source = record { 0 = managing_node };
        flags = flags;
        pdo_version = version;
        payload_size = n % 65536;
      };
    }

-- the bits of octet 4: ms, ea, rd
abbrev pub ea_bit : ℕ
ea_bit = 2

abbrev pub preq_flag_bits : PReqFlags → ℕ
preq_flag_bits f = at_bit ms_bit f.ms + at_bit ea_bit f.ea + at_bit rd_bit f.rd

-- the octets of the fields
abbrev pub preq_bytes : PReqFrame → List ℕ
preq_bytes f =
    message_code message.PReq ∷ f.destination.0 ∷ f.source.0 ∷ 0 ∷ preq_flag_bits f.flags ∷ 0 ∷ f.pdo_version.0 ∷ 0
    ∷ le_bytes 2 f.payload_size

-- the size is written as given, equal to the payload's length or not
unfoldable pub preq_section : PReqFrame → List ℕ → List ℕ
preq_section f payload = padded (preq_bytes f ++ payload)
