-- A frame that is written is read back: header, fields and payload, under every table that holds its service.
-- Assumes nothing.
use Rattle.std.specs.Prelude.{ℕ, ◌^◌, ◌≤◌, ◌<◌, true, ◌≡◌, List, [], length, Ok}
use Rattle.octets.specs.Trim.{trimmed_length}
use Rattle.types.specs.Header.{ethertype_epl}
use Rattle.types.specs.Nodes.{broadcast_node}
use Rattle.types.specs.declared.basic.EthernetHeader.{EthernetHeader}
use Rattle.services.specs.Table.{holds}
use Rattle.control.specs.declared.soc.SocFrame.{SocFrame}
use Rattle.frame.specs.Write.{frame_bytes}
use Rattle.frame.specs.declared.PowerlinkFrame.{PowerlinkFrame}
use Rattle.frame.specs.declared.PowerlinkFrame.TheVariants.{Soc, PReq, PRes, SoA, ASnd}
use Rattle.codec.specs.Frame.{deserialize_frame, payload_of}
use Rattle.codec.specs.declared.PayloadPlace.{PayloadPlace}

-- the bytes read as this header and this frame, with a place where this payload lies
pub record ReadsAs (services bytes : List ℕ) (h : EthernetHeader) (f : PowerlinkFrame) (payload : List ℕ) : Type 0 where
  pub place : PayloadPlace
  pub read : deserialize_frame services bytes ≡ Ok (record { eth_header = h; frame = f; payload_place = place })
  pub octets : payload_of place bytes ≡ payload

-- two addresses of six octets, and the EtherType of POWERLINK: with another EtherType nothing is read
pub record IsHeader (h : EthernetHeader) : Type 0 where
  pub destination : length h.destination_mac.0 ≡ 6
  pub source : length h.source_mac.0 ≡ 6
  pub ethertype : h.ether_type ≡ ethertype_epl

-- the times are numbers of their widths
pub record SocInRange (f : SocFrame) : Type 0 where
  pub seconds : f.net_time.seconds < 2 ^ 32
  pub nanoseconds : f.net_time.nanoseconds < 2 ^ 32
  pub relative : f.relative_time.0 < 2 ^ 64

-- what 01 excepts: SoC and SoA have no payload; the size given is the payload's length, and a number of 16 bits; PRes goes to
-- node 255, with rs at most 7; the payload of an ASnd whose section has 46 octets does not end in a zero. And 02, CR 1: its service is one
-- that the table holds
abbrev pub Faithful : List ℕ → PowerlinkFrame → List ℕ → Type 0
Faithful services (Soc f) payload = SocInRange f × (payload ≡ [])
Faithful services (PReq f) payload = (f.payload_size ≡ length payload) × (length payload < 2 ^ 16)
Faithful services (PRes f) payload =
    (f.destination.0 ≡ broadcast_node) × ((f.flags.rs.0 ≤ 7) × ((f.payload_size ≡ length payload) × (length payload < 2 ^ 16)))
Faithful services (SoA f) payload = payload ≡ []
Faithful services (ASnd f) payload =
    (holds services f.service_id.0 ≡ true) × (length payload ≤ 42 → trimmed_length payload ≡ length payload)

pub record FramesReadBack : Type 0 where
  pub reads : (services : List ℕ) (h : EthernetHeader) (f : PowerlinkFrame) (payload : List ℕ) → IsHeader h → Faithful services f payload
      → ReadsAs services (frame_bytes h f payload) h f payload
  -- two frames that read back and have the same bytes are the same
  pub same : (services : List ℕ) (h k : EthernetHeader) (f g : PowerlinkFrame) (p q : List ℕ) → IsHeader h → Faithful services f p → IsHeader k
      → Faithful services g q
      → frame_bytes h f p ≡ frame_bytes k g q → (h ≡ k) × ((f ≡ g) × (p ≡ q))
