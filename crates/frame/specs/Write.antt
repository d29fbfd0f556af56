-- The octets of a frame of any kind.
-- Assumes nothing.
use Rattle.std.specs.Prelude.{ℕ, List, [], ◌∷◌, ◌++◌}
use Rattle.types.specs.Header.{eth_bytes}
use Rattle.types.specs.Messages.{message_code}
use Rattle.types.specs.declared.NodeId.{NodeId}
use Rattle.types.specs.declared.basic.EthernetHeader.{EthernetHeader}
use Rattle.types.specs.declared.message_type.MessageType.{MessageType}
use Rattle.section.specs.Write.{Coded, octets}
use Rattle.control.specs.ASnd.{asnd_section, served}
use Rattle.control.specs.SoA.{soa_section}
use Rattle.control.specs.SoC.{soc_section}
use Rattle.poll.specs.PReq.{preq_section}
use Rattle.poll.specs.PRes.{pres_section}
use Rattle.frame.specs.declared.PowerlinkFrame.{PowerlinkFrame}
use Rattle.frame.specs.declared.PowerlinkFrame.TheVariants.{Soc, PReq, PRes, SoA, ASnd}

-- the octets that every section begins with
abbrev pub pl_header_bytes : MessageType → NodeId → NodeId → List ℕ
pl_header_bytes message destination source = message_code message ∷ destination.0 ∷ source.0 ∷ []

-- the section; SoC and SoA have no payload
abbrev pub frame_section : PowerlinkFrame → List ℕ → List ℕ
frame_section (Soc f) payload = soc_section f
frame_section (PReq f) payload = preq_section f payload
frame_section (PRes f) payload = pres_section f payload
frame_section (SoA f) payload = soa_section f
frame_section (ASnd f) payload = asnd_section f payload

-- the Ethernet header, then the section
unfoldable pub frame_bytes : EthernetHeader → PowerlinkFrame → List ℕ → List ℕ
frame_bytes h f payload = eth_bytes h ++ frame_section f payload

-- the octets of a frame under a table of services, which ASnd alone has (02, CR 1)
abbrev pub under_table : List ℕ → PowerlinkFrame → List ℕ → Coded
under_table services (Soc f) bs = octets bs
under_table services (PReq f) bs = octets bs
under_table services (PRes f) bs = octets bs
under_table services (SoA f) bs = octets bs
under_table services (ASnd f) bs = served services f.service_id bs
