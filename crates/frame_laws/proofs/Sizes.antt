-- PReq and PRes read back by the size that they were given. A frame from its section.
-- Assumes nothing.
use Prim.Native.Nat.{ℕ, ◌≤◌, ◌<◌}
use mathlib.Core.Path.{◌≡◌, refl, ap}
use mathlib.Core.List.{List, ◌++◌}
use native.Mathlib.Omega.{arith}
use lib.ListN.{length, take}
use Rattle.std.specs.Prelude.{Ok, Err}
use Rattle.types.specs.Header.{eth_bytes}
use Rattle.types.specs.declared.basic.EthernetHeader.{EthernetHeader}
use Rattle.types.specs.declared.hal.PowerlinkError.TheVariants.{BufferTooShort}
use Rattle.section.specs.Write.{padded}
use Rattle.poll.specs.PReq.{preq_section}
use Rattle.poll.specs.PRes.{pres_section}
use Rattle.frame.specs.Write.{frame_section, frame_bytes}
use Rattle.frame.specs.declared.PowerlinkFrame.{PowerlinkFrame}
use Rattle.frame.specs.declared.PowerlinkFrame.TheVariants.{PReq, PRes}
use Rattle.codec.specs.Frame.{read_section, place_in_frame, payload_of}
use Rattle.frame_laws.specs.ReadBack.{ReadsAs, IsHeader}
use Rattle.frame_laws.specs.Sizes.{behind_fields, SizeReadsBack, SizesReadBack}
use Rattle.frame_laws.proofs.HeaderBack.{header_back, frame_back, refused_back}
use Rattle.frame_laws.proofs.PReqBack.{preq_back, preq_cut, preq_payload}
use Rattle.frame_laws.proofs.PResBack.{pres_back, pres_cut, pres_payload}

module _ (services : List ℕ) (h : EthernetHeader) (f : PowerlinkFrame) (p s : List ℕ) (is : IsHeader h) (es : frame_section f p ≡ s)
    (long : 0 < length s) where
  -- from the section: it is not empty, it reads as the frame, and the payload lies at its place
  pub from_section : (q : List ℕ) → read_section services s ≡ Ok f → payload_of (place_in_frame f s) (eth_bytes h ++ s) ≡ q
      → ReadsAs services (frame_bytes h f p) h f q
  unfolding frame_bytes
  from_section q read place =
      record { place = place_in_frame f s; read = rw es (frame_back services h s is long f read); octets = rw es place }

  -- where what stands behind the fields decides: read with the first n octets of it, or too short
  by_size : (n : ℕ) → payload_of (place_in_frame f s) (eth_bytes h ++ s) ≡ take n (behind_fields p)
      → (n ≤ length (behind_fields p) → read_section services s ≡ Ok f)
      → (length (behind_fields p) < n → read_section services s ≡ Err BufferTooShort) → SizeReadsBack services h f n p
  unfolding frame_bytes
  by_size n place read cut =
      record {
        enough = λ fits. from_section (take n (behind_fields p)) (read (omega arith)) place;
        too_few = λ lacks. rw es (refused_back services h s is long BufferTooShort (cut (omega arith)));
        header = λ lacks. rw es (header_back h s is);
      }

pub sizes_read_back : SizesReadBack
unfolding eth_bytes preq_section pres_section padded
sizes_read_back =
    record {
      preq =
          λ services h f p is small.
          by_size services h (PReq f) p (preq_section f p) is refl (omega arith) f.payload_size
          (ap (take f.payload_size) (preq_payload services f p small)) (preq_back services f p small) (preq_cut services f p small);
      pres =
          λ services h f p is to seven small.
          by_size services h (PRes f) p (pres_section f p) is refl (omega arith) f.payload_size
          (ap (take f.payload_size) (pres_payload services f p to small)) (pres_back services f p to small seven)
          (pres_cut services f p to small);
    }
