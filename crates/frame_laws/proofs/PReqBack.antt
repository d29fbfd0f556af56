-- A PReq section that is written is read back, with what its size makes the payload, or refused where the size is too large.
-- Assumes nothing.
use Prim.Native.Nat.{ℕ, ◌-◌, ◌^◌, ◌≤◌, ◌<◌}
use mathlib.Core.Path.{◌≡◌, refl}
use mathlib.Core.List.{List}
use native.Mathlib.Omega.{arith}
use lib.ListN.{length, drop}
use borrow.Author.Tests.{le-leb, lt-leb}
use Rattle.std.specs.Prelude.{Ok, Err}
use Rattle.octets.specs.Numbers.{le_at}
use Rattle.octets.proofs.Le.{bytes_back}
use Rattle.types.specs.Messages.{message_of}
use Rattle.types.specs.declared.hal.PowerlinkError.TheVariants.{BufferTooShort}
use Rattle.section.specs.Write.{padded}
use Rattle.poll.specs.PReq.{preq_bytes, preq_section}
use Rattle.poll.specs.declared.preq.PReqFrame.{PReqFrame}
use Rattle.frame.specs.declared.PowerlinkFrame.TheVariants.{PReq}
use Rattle.codec.specs.Frame.{kind_in, read_section}
use Rattle.codec.specs.PReq.{read_preq}
use Rattle.frame_laws.specs.Sizes.{behind_fields}
use Rattle.frame_laws.proofs.Behind.{behind, behind_length}
use Rattle.frame_laws.proofs.Flags.{two, three, Reads3}

ms : Reads3 5 2 0 5 (λ x y z. x)
ms = three _ (two _ refl refl refl refl) (two _ refl refl refl refl)

ea : Reads3 5 2 0 2 (λ x y z. y)
ea = three _ (two _ refl refl refl refl) (two _ refl refl refl refl)

rd : Reads3 5 2 0 0 (λ x y z. z)
rd = three _ (two _ refl refl refl refl) (two _ refl refl refl refl)

module _ (services : List ℕ) (f : PReqFrame) (p : List ℕ) (small : f.payload_size < 2 ^ 16) where
  size : le_at 2 8 (preq_section f p) ≡ f.payload_size
  unfolding preq_section padded le_at
  size = bytes_back 2 f.payload_size (omega arith)

  left : length (preq_section f p) - 10 ≡ length (behind_fields p)
  unfolding preq_section
  left = behind_length (preq_bytes f) p refl

  pub preq_back : f.payload_size ≤ length (behind_fields p) → read_section services (preq_section f p) ≡ Ok (PReq f)
  unfolding message_of kind_in read_section read_preq preq_section padded
  preq_back fits =
      rw (
        le-leb 10 (length (preq_section f p)) (omega arith),
        size,
        left,
        le-leb f.payload_size (length (behind_fields p)) fits,
        ms f.flags.ms f.flags.ea f.flags.rd,
        ea f.flags.ms f.flags.ea f.flags.rd,
        rd f.flags.ms f.flags.ea f.flags.rd,
      )

  pub preq_cut : length (behind_fields p) < f.payload_size → read_section services (preq_section f p) ≡ Err BufferTooShort
  unfolding message_of kind_in read_section read_preq preq_section padded
  preq_cut lacks =
      rw (
        le-leb 10 (length (preq_section f p)) (omega arith),
        size,
        left,
        lt-leb f.payload_size (length (behind_fields p)) lacks,
      )

  pub preq_payload : drop 10 (preq_section f p) ≡ behind_fields p
  unfolding preq_section
  preq_payload = behind (preq_bytes f) p refl
