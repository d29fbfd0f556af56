-- What stands behind a header that is written is read as a section, under every table, and the header as itself.
-- Assumes nothing.
use Prim.Native.Nat.{ℕ, ◌<◌}
use mathlib.Core.Path.{◌≡◌, ◌∙◌}
use mathlib.Core.List.{List, ◌++◌}
use native.Mathlib.Omega.{arith}
use lib.ListN.{length}
use lib.Seq.{take_all}
use borrow.Author.Tests.{le-leb, lt-ltb}
use Rattle.std.specs.Prelude.{Ok, Err}
use Rattle.octets.specs.Numbers.{be_at}
use Rattle.types.specs.Header.{eth_header_of, eth_bytes}
use Rattle.types.specs.declared.basic.EthernetHeader.{EthernetHeader}
use Rattle.types.specs.declared.hal.PowerlinkError.{PowerlinkError}
use Rattle.frame.specs.declared.PowerlinkFrame.{PowerlinkFrame}
use Rattle.codec.specs.Frame.{kind_of, read_frame, read_section, place, place_in_frame, deserialize_frame}
use Rattle.frame_laws.specs.ReadBack.{IsHeader}
use Rattle.octets.proofs.Elements.{elements, elements_are}

-- a list of six is its six elements
six : (l : List ℕ) → length l ≡ 6 → elements 6 0 l ≡ l
six l e = elements_are 6 0 l (omega arith) ∙ take_all 6 l (omega arith)

pub header_back : (h : EthernetHeader) (s : List ℕ) → IsHeader h → eth_header_of (eth_bytes h ++ s) ≡ h
unfolding eth_header_of eth_bytes be_at
header_back h s is =
    rw (six h.destination_mac.0 is.destination, six h.source_mac.0 is.source, is.ethertype)

module _ (services : List ℕ) (h : EthernetHeader) (s : List ℕ) (is : IsHeader h) where
  pub section_back : 0 < length s → read_frame services (eth_bytes h ++ s) ≡ read_section services s
  unfolding kind_of read_frame read_section eth_bytes be_at
  section_back k =
      rw (
        le-leb 14 (length (eth_bytes h ++ s)) (omega arith),
        is.ethertype,
        lt-ltb 14 (length (eth_bytes h ++ s)) (omega arith),
      )

  module _ (long : 0 < length s) where
    -- a frame is read with its header and the place of its payload, and a refusal is handed on
    pub frame_back : (f : PowerlinkFrame) → read_section services s ≡ Ok f
        → deserialize_frame services (eth_bytes h ++ s) ≡ Ok (record { eth_header = h; frame = f; payload_place = place_in_frame f s })
    unfolding deserialize_frame eth_bytes
    frame_back f e = rw (section_back long, e, header_back h s is)

    pub refused_back : (e : PowerlinkError) → read_section services s ≡ Err e
        → deserialize_frame services (eth_bytes h ++ s) ≡ Err (record { eth_header = h; error = e; payload_place = place 0 0 })
    unfolding deserialize_frame eth_bytes
    refused_back d e = rw (section_back long, e, header_back h s is)
