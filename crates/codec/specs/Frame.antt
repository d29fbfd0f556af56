-- Reading a frame, from its Ethernet header on (EPSG DS 301, 4.6.1; IEEE 802.3, 3.1.1), under a table of services, by which ASnd is read.
-- Assumes nothing.
use Rattle.std.specs.Prelude.{ℕ, ◌≡◌, List, [], length, take, drop, leb, ltb, eqb, Result, Ok, Err}
use Rattle.octets.specs.Numbers.{be_at}
use Rattle.types.specs.Causes.{Cause, row, cause_of}
use Rattle.types.specs.Codes.{need}
use Rattle.types.specs.Header.{eth_length, eth_header_of, ethertype_epl}
use Rattle.types.specs.Messages.{message_of}
use Rattle.types.specs.declared.hal.PowerlinkError.{PowerlinkError}
use Rattle.types.specs.declared.hal.PowerlinkError.TheVariants.{BufferTooShort, InvalidEthernetFrame, InvalidPlFrame}
use Rattle.types.specs.declared.message_type.MessageType.{MessageType}
use Rattle.types.specs.declared.message_type.MessageType.TheVariants as message
use Rattle.control.specs.ASnd.{asnd_payload_at}
use Rattle.poll.specs.Poll.{poll_payload_at}
use Rattle.codec.specs.ASnd.{read_asnd, asnd_payload_length}
use Rattle.codec.specs.Headers.{message_number}
use Rattle.codec.specs.PReq.{read_preq}
use Rattle.codec.specs.PRes.{read_pres}
use Rattle.codec.specs.SoA.{read_soa}
use Rattle.codec.specs.SoC.{read_soc}
use Rattle.codec.specs.declared.DeserializedFrame.{DeserializedFrame}
use Rattle.codec.specs.declared.PayloadPlace.{PayloadPlace}
use Rattle.codec.specs.declared.RefusedFrame.{RefusedFrame}
use Rattle.frame.specs.declared.PowerlinkFrame.{PowerlinkFrame}
use Rattle.frame.specs.declared.PowerlinkFrame.TheVariants.{Soc, PReq, PRes, SoA, ASnd}

-- ---- the tests of a frame before those of its kind

-- the message type is tested before any length that a kind needs
unfoldable pub kind_in : List ℕ → Result MessageType PowerlinkError
kind_in s = message_of (message_number s)

-- the Ethernet header, then the EtherType, then a section that is not empty, then its message type
unfoldable pub kind_of : List ℕ → Result MessageType PowerlinkError
kind_of f =
    need (leb eth_length (length f)) (Err BufferTooShort)
    (need (eqb (be_at 2 12 f) ethertype_epl) (Err InvalidEthernetFrame)
    (need (ltb eth_length (length f)) (Err InvalidPlFrame)
    (kind_in (drop eth_length f))))

-- ---- then the rules of the kind

abbrev pub by_kind : List ℕ → MessageType → List ℕ → Result PowerlinkFrame PowerlinkError
by_kind services message.SoC s = read_soc s
by_kind services message.PReq s = read_preq s
by_kind services message.PRes s = read_pres s
by_kind services message.SoA s = read_soa s
by_kind services message.ASnd s = read_asnd services s

-- what the section s is, after the tests before
abbrev pub kind_answer : List ℕ → Result MessageType PowerlinkError → List ℕ → Result PowerlinkFrame PowerlinkError
kind_answer services (Err e) s = Err e
kind_answer services (Ok k) s = by_kind services k s

-- a section by itself: its message type, then the rules of its kind
unfoldable pub read_section : List ℕ → List ℕ → Result PowerlinkFrame PowerlinkError
read_section services s = kind_answer services (kind_in s) s

-- a frame: the tests before those of its kind, then the kind's rules of what stands behind the Ethernet header
unfoldable pub read_frame : List ℕ → List ℕ → Result PowerlinkFrame PowerlinkError
read_frame services f = kind_answer services (kind_of f) (drop eth_length f)

-- ---- the payload's place, and what a reading promises

abbrev pub place : ℕ → ℕ → PayloadPlace
place at n = record { start = at; len = n }

-- the payload of a frame of a kind with the section s, counted from the Ethernet header on
abbrev pub place_in_frame : PowerlinkFrame → List ℕ → PayloadPlace
place_in_frame (Soc f) s = place 0 0
place_in_frame (PReq f) s = place poll_payload_at f.payload_size
place_in_frame (PRes f) s = place poll_payload_at f.payload_size
place_in_frame (SoA f) s = place 0 0
place_in_frame (ASnd f) s = place asnd_payload_at (asnd_payload_length s)

-- a frame that is read, with its Ethernet header and its payload's place; and beside a refusal the header that the octets give, those past
-- the end counting as 0, and no payload
abbrev pub deserialized : List ℕ → Result PowerlinkFrame PowerlinkError → Result DeserializedFrame RefusedFrame
deserialized f (Ok x) = Ok (record { eth_header = eth_header_of f; frame = x; payload_place = place_in_frame x (drop eth_length f) })
deserialized f (Err e) = Err (record { eth_header = eth_header_of f; error = e; payload_place = place 0 0 })

unfoldable pub deserialize_frame : List ℕ → List ℕ → Result DeserializedFrame RefusedFrame
deserialize_frame services f = deserialized f (read_frame services f)

-- the frame of what was read, or why it is refused
abbrev pub frame_in : Result DeserializedFrame RefusedFrame → Result PowerlinkFrame PowerlinkError
frame_in (Ok d) = Ok d.frame
frame_in (Err x) = Err x.error

-- the octets at a place; what would lie past the end is left out
abbrev pub payload_of : PayloadPlace → List ℕ → List ℕ
payload_of p f = take p.len (drop p.start f)

-- 01's number and values for each case: 0 for a frame that is read
abbrev pub frame_cause : Result PowerlinkFrame PowerlinkError → Cause
frame_cause (Ok f) = row 0 []
frame_cause (Err e) = cause_of e

-- r is what reading the octets f answers, with 01's number: 0 for a frame, and else that of the error, with what is returned
pub record ReadsFrame (services f : List ℕ) (r : Result PowerlinkFrame PowerlinkError) : Type 0 where
  pub answer : r ≡ read_frame services f
  pub good : (x : PowerlinkFrame) → read_frame services f ≡ Ok x → frame_cause r ≡ row 0 []
  pub refused : (e : PowerlinkError) → read_frame services f ≡ Err e → frame_cause r ≡ cause_of e

-- the same, with the Ethernet header and the payload's place
pub record Reads (services f : List ℕ) (r : Result DeserializedFrame RefusedFrame) : Type 0 where
  pub read : r ≡ deserialize_frame services f
  pub frame : ReadsFrame services f (frame_in r)
