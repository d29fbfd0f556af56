-- Writing a SoC frame (EPSG DS 301, 4.6.1.1.2, Tables 15 and 16).
-- Assumes nothing.
use Rattle.std.specs.Prelude.{ℕ, ◌+◌, List, ◌∷◌, ◌++◌}
use Rattle.octets.specs.Numbers.{le_bytes}
use Rattle.types.specs.Addresses.{multicast_soc}
use Rattle.types.specs.Header.{powerlink_header}
use Rattle.types.specs.Messages.{message_code}
use Rattle.types.specs.Nodes.{managing_node, broadcast_node}
use Rattle.types.specs.declared.basic.MacAddress.{MacAddress}
use Rattle.types.specs.declared.common.NetTime.{NetTime}
use Rattle.types.specs.declared.common.RelativeTime.{RelativeTime}
use Rattle.types.specs.declared.message_type.MessageType.TheVariants as message
use Rattle.section.specs.Write.{at_bit, padded}
use Rattle.types.specs.declared.basic.NewFrame.{NewFrame}
use Rattle.control.specs.declared.soc.SocFlags.{SocFlags}
use Rattle.control.specs.declared.soc.SocFrame.{SocFrame}

-- from the managing node to all nodes, and to the multicast address of SoC
abbrev pub new_soc : MacAddress → SocFlags → NetTime → RelativeTime → NewFrame SocFrame
new_soc from flags net relative =
    record {
      eth_header = powerlink_header (record { 0 = multicast_soc }) from;
      frame = record {
        destination = record { 0 = broadcast_node };
        source = record { 0 = managing_node };
        flags = flags;
        net_time = net;
        relative_time = relative;
      };
    }

-- the bits of octet 4
abbrev pub mc_bit : ℕ
mc_bit = 7

abbrev pub ps_bit : ℕ
ps_bit = 6

abbrev pub soc_flag_bits : SocFlags → ℕ
soc_flag_bits f = at_bit mc_bit f.mc + at_bit ps_bit f.ps

-- how many octets the fields have
abbrev pub soc_fields_length : ℕ
soc_fields_length = 22

-- the octets of the fields
abbrev pub soc_bytes : SocFrame → List ℕ
soc_bytes f =
    message_code message.SoC ∷ f.destination.0 ∷ f.source.0 ∷ 0 ∷ soc_flag_bits f.flags ∷ 0
    ∷ le_bytes 4 f.net_time.seconds ++ le_bytes 4 f.net_time.nanoseconds ++ le_bytes 8 f.relative_time.0

unfoldable pub soc_section : SocFrame → List ℕ
soc_section f = padded (soc_bytes f)
