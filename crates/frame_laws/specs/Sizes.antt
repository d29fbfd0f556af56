-- 01: "Payload size is written as given, equal to the length or not". What a PReq or a PRes reads back as, whatever size it was given.
-- Assumes nothing.
use Rattle.std.specs.Prelude.{ℕ, ◌+◌, ◌-◌, ◌^◌, ◌≤◌, ◌<◌, ◌≡◌, List, ◌++◌, length, take, replicate, Err}
use Rattle.types.specs.Nodes.{broadcast_node}
use Rattle.types.specs.Header.{eth_header_of}
use Rattle.types.specs.declared.basic.EthernetHeader.{EthernetHeader}
use Rattle.types.specs.declared.hal.PowerlinkError.TheVariants.{BufferTooShort}
use Rattle.section.specs.Write.{min_section}
use Rattle.poll.specs.Poll.{poll_fields_length}
use Rattle.poll.specs.declared.preq.PReqFrame.{PReqFrame}
use Rattle.poll.specs.declared.pres.PResFrame.{PResFrame}
use Rattle.frame.specs.Write.{frame_bytes}
use Rattle.frame.specs.declared.PowerlinkFrame.{PowerlinkFrame}
use Rattle.frame.specs.declared.PowerlinkFrame.TheVariants.{PReq, PRes}
use Rattle.codec.specs.Frame.{deserialize_frame, place}
use Rattle.frame_laws.specs.ReadBack.{ReadsAs, IsHeader}

-- what stands behind the ten octets of the fields: the payload, and the zeros up to the smallest section
abbrev pub behind_fields : List ℕ → List ℕ
behind_fields payload = payload ++ replicate (min_section - (poll_fields_length + length payload)) 0

-- a frame of the size n: the first n of these octets are read as its payload, or are too few, which is 01's cause 1; the header reads as
-- itself then too
pub record SizeReadsBack (services : List ℕ) (h : EthernetHeader) (f : PowerlinkFrame) (n : ℕ) (payload : List ℕ) : Type 0 where
  pub enough : n ≤ length (behind_fields payload) → ReadsAs services (frame_bytes h f payload) h f (take n (behind_fields payload))
  pub too_few : length (behind_fields payload) < n
      → deserialize_frame services (frame_bytes h f payload) ≡ Err (record { eth_header = h; error = BufferTooShort; payload_place = place 0 0 })
  pub header : length (behind_fields payload) < n → eth_header_of (frame_bytes h f payload) ≡ h

-- the size is a number of 16 bits; PRes goes to node 255, with rs at most 7, as in `Faithful`
pub record SizesReadBack : Type 0 where
  pub preq : (services : List ℕ) (h : EthernetHeader) (f : PReqFrame) (payload : List ℕ) → IsHeader h → f.payload_size < 2 ^ 16
      → SizeReadsBack services h (PReq f) f.payload_size payload
  pub pres : (services : List ℕ) (h : EthernetHeader) (f : PResFrame) (payload : List ℕ) → IsHeader h → f.destination.0 ≡ broadcast_node → f.flags.rs.0 ≤ 7
      → f.payload_size < 2 ^ 16 → SizeReadsBack services h (PRes f) f.payload_size payload
