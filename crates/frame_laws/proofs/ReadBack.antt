-- A frame that is written is read back: header, fields and payload, under every table that holds its service.
-- Assumes nothing.
use Prim.Native.Nat.{ℕ, ◌+◌, ◌-◌}
use mathlib.Core.Path.{◌≡◌, refl, sym, ap, ◌∙◌}
use mathlib.Core.List.{List}
use native.Mathlib.Omega.{arith}
use lib.ListN.{length, replicate, length-append}
use lib.Seq.{take_at}
use Rattle.std.specs.Prelude.{Ok}
use Rattle.types.specs.Header.{eth_bytes}
use Rattle.types.specs.declared.basic.EthernetHeader.{EthernetHeader}
use Rattle.section.specs.Write.{padded}
use Rattle.control.specs.ASnd.{asnd_section}
use Rattle.control.specs.SoA.{soa_section}
use Rattle.control.specs.SoC.{soc_section}
use Rattle.control.specs.declared.asnd.ASndFrame.{ASndFrame}
use Rattle.frame.specs.Write.{frame_bytes}
use Rattle.frame.specs.declared.PowerlinkFrame.{PowerlinkFrame}
use Rattle.frame.specs.declared.PowerlinkFrame.TheVariants.{Soc, PReq, PRes, SoA, ASnd}
use Rattle.codec.specs.Frame.{read_frame}
use Rattle.frame_laws.specs.ReadBack.{ReadsAs, IsHeader, Faithful, FramesReadBack}
use Rattle.frame_laws.specs.Sizes.{SizeReadsBack}
use Rattle.frame_laws.proofs.ASndBack.{asnd_back, asnd_payload}
use Rattle.frame_laws.proofs.Sizes.{from_section, sizes_read_back}
use Rattle.frame_laws.proofs.SoABack.{soa_back}
use Rattle.frame_laws.proofs.SoCBack.{soc_back}
use Rattle.frame_laws.proofs.Tests.{one_value}
use Rattle.frame_laws.proofs.Whole.{frame_in_it}

module _ (services : List ℕ) where
  -- a size that is the payload's length gives the payload
  own_size : (h : EthernetHeader) (f : PowerlinkFrame) (n : ℕ) (p : List ℕ) → SizeReadsBack services h f n p → n ≡ length p
      → ReadsAs services (frame_bytes h f p) h f p
  own_size h f n p sized e =
      let r = sized.enough (omega (arith, length-append p (replicate (46 - (10 + length p)) 0))) in
      record { place = r.place; read = r.read; octets = r.octets ∙ take_at p _ n (sym e) }

  -- under a table that holds its service
  asnd_reads : (h : EthernetHeader) (f : ASndFrame) (p : List ℕ) → IsHeader h → Faithful services (ASnd f) p
      → ReadsAs services (frame_bytes h (ASnd f) p) h (ASnd f) p
  unfolding eth_bytes asnd_section padded
  asnd_reads h f p is q =
      from_section services h (ASnd f) p (asnd_section f p) is refl (omega arith) p (asnd_back services f p q.0) (asnd_payload f p q.1)

  reads : (h : EthernetHeader) (f : PowerlinkFrame) (p : List ℕ) → IsHeader h → Faithful services f p → ReadsAs services (frame_bytes h f p) h f p
  unfolding eth_bytes soc_section soa_section padded
  reads h (Soc f) p is q = from_section services h (Soc f) p (soc_section f) is refl (omega arith) p (soc_back services f q.0) (sym q.1)
  reads h (PReq f) p is q = own_size h (PReq f) _ p (sizes_read_back.preq services h f p is (omega arith)) q.0
  reads h (PRes f) p is q =
      own_size h (PRes f) _ p (sizes_read_back.pres services h f p is q.0 q.1.0 (omega arith)) q.1.1.0
  reads h (SoA f) p is q = from_section services h (SoA f) p (soa_section f) is refl (omega arith) p (soa_back services f) (sym q)
  reads h (ASnd f) p is q = asnd_reads h f p is q

-- what is read as a frame is that frame
pub frame_read : {services bytes : List ℕ} {h : EthernetHeader} {f : PowerlinkFrame} {p : List ℕ} → ReadsAs services bytes h f p
    → read_frame services bytes ≡ Ok f
frame_read {services} {bytes} r = frame_in_it services bytes _ r.read

pub frames_read_back : FramesReadBack
frames_read_back =
    record {
      reads = reads;
      same =
          λ services h k f g p q ih ff ik fg e.
          let a = reads services h f p ih ff in
          let b = reads services k g q ik fg in
          let one = one_value (sym a.read ∙ rw e b.read) in
          let there = ap (λ d. d.payload_place) one in
          (ap (λ d. d.eth_header) one, (ap (λ d. d.frame) one, sym a.octets ∙ rw (e, there) b.octets));
    }
