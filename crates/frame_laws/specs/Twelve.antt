-- Under the table of DS 301 frames are read and written as 01 has it, on every input (02, CR 1: "The built-in twelve are replaced by a
-- loaded table"). What 01 says of the services of ASnd stands here, over `is_listed`; all else is in the definitions of the other crates.
-- Assumes nothing.
use Rattle.std.specs.Prelude.{ℕ, ◌≡◌, List, leb, length, get_or, drop, Result, Ok, Err}
use Rattle.types.specs.Codes.{pick, need}
use Rattle.types.specs.Header.{eth_length, eth_header_of}
use Rattle.types.specs.declared.hal.PowerlinkError.TheVariants.{BufferTooShort, InvalidServiceId}
use Rattle.types.specs.declared.hal.PowerlinkError.{PowerlinkError}
use Rattle.types.specs.declared.message_type.MessageType.{MessageType}
use Rattle.types.specs.declared.message_type.MessageType.TheVariants as message
use Rattle.services.specs.Ids.{is_listed}
use Rattle.services.specs.Table.{ds301}
use Rattle.section.specs.Write.{Coded, octets, unnamed}
use Rattle.control.specs.ASnd.{asnd_fields_length}
use Rattle.frame.specs.Write.{under_table}
use Rattle.frame.specs.declared.PowerlinkFrame.{PowerlinkFrame}
use Rattle.frame.specs.declared.PowerlinkFrame.TheVariants.{Soc, PReq, PRes, SoA, ASnd}
use Rattle.codec.specs.ASnd.{asnd_of}
use Rattle.codec.specs.Frame.{kind_of, place, place_in_frame, deserialize_frame}
use Rattle.codec.specs.PReq.{read_preq}
use Rattle.codec.specs.PRes.{read_pres}
use Rattle.codec.specs.SoA.{read_soa}
use Rattle.codec.specs.SoC.{read_soc}
use Rattle.codec.specs.declared.DeserializedFrame.{DeserializedFrame}
use Rattle.codec.specs.declared.RefusedFrame.{RefusedFrame}

-- "ASnd: 4 bytes needed. Byte 3 service: 1 to 5, 0B, 0D to 12 h"
abbrev pub asnd_in01 : List ℕ → Result PowerlinkFrame PowerlinkError
asnd_in01 s =
    need (leb asnd_fields_length (length s)) (Err BufferTooShort)
    (need (is_listed (get_or s 3 0)) (Err (InvalidServiceId (get_or s 3 0)))
    (Ok (ASnd (asnd_of s))))

abbrev pub kind_in01 : MessageType → List ℕ → Result PowerlinkFrame PowerlinkError
kind_in01 message.SoC s = read_soc s
kind_in01 message.PReq s = read_preq s
kind_in01 message.PRes s = read_pres s
kind_in01 message.SoA s = read_soa s
kind_in01 message.ASnd s = asnd_in01 s

abbrev pub section_in01 : Result MessageType PowerlinkError → List ℕ → Result PowerlinkFrame PowerlinkError
section_in01 (Err e) s = Err e
section_in01 (Ok k) s = kind_in01 k s

abbrev pub frame_in01 : List ℕ → Result PowerlinkFrame PowerlinkError
frame_in01 f = section_in01 (kind_of f) (drop eth_length f)

-- the whole reading of the octets f: the header that they give, the frame or why it is refused, and the payload's place
abbrev pub whole_in01 : List ℕ → Result PowerlinkFrame PowerlinkError → Result DeserializedFrame RefusedFrame
whole_in01 f (Ok x) = Ok (record { eth_header = eth_header_of f; frame = x; payload_place = place_in_frame x (drop eth_length f) })
whole_in01 f (Err e) = Err (record { eth_header = eth_header_of f; error = e; payload_place = place 0 0 })

abbrev pub deserialized_in01 : List ℕ → Result DeserializedFrame RefusedFrame
deserialized_in01 f = whole_in01 f (frame_in01 f)

-- the octets of a frame: those of an ASnd of another service are refused with 6, after 1
abbrev pub written_in01 : PowerlinkFrame → List ℕ → Coded
written_in01 (Soc f) bs = octets bs
written_in01 (PReq f) bs = octets bs
written_in01 (PRes f) bs = octets bs
written_in01 (SoA f) bs = octets bs
written_in01 (ASnd f) bs = pick (is_listed f.service_id.0) (octets bs) (unnamed (length bs) (InvalidServiceId f.service_id.0))

pub record TheTwelve : Type 0 where
  pub reads : (bytes : List ℕ) → deserialize_frame ds301 bytes ≡ deserialized_in01 bytes
  pub writes : (f : PowerlinkFrame) (bs : List ℕ) → under_table ds301 f bs ≡ written_in01 f bs
