-- Writing an ASnd frame (EPSG DS 301, 4.6.1.1.6), if a table holds its service (02, CR 1).
-- Assumes nothing.
use Rattle.std.specs.Prelude.{ℕ, ◌+◌, List, [], ◌∷◌, ◌++◌, length}
use Rattle.types.specs.Codes.{pick}
use Rattle.types.specs.Header.{eth_length, powerlink_header}
use Rattle.types.specs.Messages.{message_code}
use Rattle.types.specs.declared.NodeId.{NodeId}
use Rattle.types.specs.declared.basic.MacAddress.{MacAddress}
use Rattle.types.specs.declared.hal.PowerlinkError.TheVariants.{InvalidServiceId}
use Rattle.types.specs.declared.message_type.MessageType.TheVariants as message
use Rattle.services.specs.Table.{holds}
use Rattle.services.specs.declared.ServiceId.{ServiceId}
use Rattle.section.specs.Write.{padded, Coded, octets, unnamed}
use Rattle.control.specs.declared.asnd.ASndFrame.{ASndFrame}
use Rattle.types.specs.declared.basic.NewFrame.{NewFrame}

-- all addresses and IDs are given
abbrev pub new_asnd : MacAddress → MacAddress → NodeId → NodeId → ServiceId → NewFrame ASndFrame
new_asnd from to target source service =
    record {
      eth_header = powerlink_header to from;
      frame = record { destination = target; source = source; service_id = service };
    }

-- how many octets stand in front of the payload, in its section and in its frame
abbrev pub asnd_fields_length : ℕ
asnd_fields_length = 4

abbrev pub asnd_payload_at : ℕ
asnd_payload_at = eth_length + asnd_fields_length

-- the octets of the fields
abbrev pub asnd_bytes : ASndFrame → List ℕ
asnd_bytes f = message_code message.ASnd ∷ f.destination.0 ∷ f.source.0 ∷ f.service_id.0 ∷ []

unfoldable pub asnd_section : ASndFrame → List ℕ → List ℕ
asnd_section f payload = padded (asnd_bytes f ++ payload)

-- the octets of an ASnd under a table: "a service outside it is 6", "tested after 1 when writing", with the service's octet
abbrev pub served : List ℕ → ServiceId → List ℕ → Coded
served services s bs = pick (holds services s.0) (octets bs) (unnamed (length bs) (InvalidServiceId s.0))
