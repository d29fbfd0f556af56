-- A PRes section that is written is read back, with what its size makes the payload, or refused where the size is too large.
-- Assumes nothing.
use Prim.Native.Nat.{ℕ, ◌-◌, ◌^◌, ◌≤◌, ◌<◌}
use mathlib.Core.Path.{◌≡◌, refl}
use mathlib.Core.List.{List}
use native.Mathlib.Omega.{arith}
use lib.ListN.{length, drop}
use borrow.Author.Tests.{le-leb, lt-leb}
use Rattle.std.specs.Prelude.{Ok, Err}
use Rattle.octets.specs.Numbers.{le_at}
use Rattle.octets.proofs.Le.{bytes_back}
use Rattle.types.specs.Messages.{message_of}
use Rattle.types.specs.PollFlags.{poll_octet}
use Rattle.types.specs.declared.hal.PowerlinkError.TheVariants.{BufferTooShort}
use Rattle.types.proofs.PollBack.{poll_priority, poll_requests}
use Rattle.types.proofs.ReadBack.{state_known}
use Rattle.section.specs.Write.{padded}
use Rattle.poll.specs.PRes.{pres_flag_bits, pres_bytes, pres_section}
use Rattle.poll.specs.declared.pres.PResFlags.{PResFlags}
use Rattle.poll.specs.declared.pres.PResFrame.{PResFrame}
use Rattle.frame.specs.declared.PowerlinkFrame.TheVariants.{PRes}
use Rattle.codec.specs.Frame.{kind_in, read_section}
use Rattle.codec.specs.PRes.{pres_flags_of, read_pres}
use Rattle.frame_laws.specs.Sizes.{behind_fields}
use Rattle.frame_laws.proofs.Behind.{behind, behind_length}
use Rattle.frame_laws.proofs.Flags.{two, three, Reads3}

ms : Reads3 5 4 0 5 (λ x y z. x)
ms = three _ (two _ refl refl refl refl) (two _ refl refl refl refl)

en : Reads3 5 4 0 4 (λ x y z. y)
en = three _ (two _ refl refl refl refl) (two _ refl refl refl refl)

rd : Reads3 5 4 0 0 (λ x y z. z)
rd = three _ (two _ refl refl refl refl) (two _ refl refl refl refl)

pub flags_back : (g : PResFlags) → g.rs.0 ≤ 7 → pres_flags_of (pres_flag_bits g) (poll_octet g.pr g.rs.0) ≡ g
unfolding pres_flags_of
flags_back g h =
    rw (
      ms g.ms g.en g.rd,
      en g.ms g.en g.rd,
      rd g.ms g.en g.rd,
      poll_priority g.pr g.rs.0 h,
      poll_requests g.pr g.rs.0 h,
    )

module _ (services : List ℕ) (f : PResFrame) (p : List ℕ) (to : f.destination.0 ≡ 255) (small : f.payload_size < 2 ^ 16) where
  size : le_at 2 8 (pres_section f p) ≡ f.payload_size
  unfolding pres_section padded le_at
  size = bytes_back 2 f.payload_size (omega arith)

  left : length (pres_section f p) - 10 ≡ length (behind_fields p)
  unfolding pres_section
  left = behind_length (pres_bytes f) p refl

  pub pres_back : f.flags.rs.0 ≤ 7 → f.payload_size ≤ length (behind_fields p) → read_section services (pres_section f p) ≡ Ok (PRes f)
  unfolding message_of kind_in read_section read_pres pres_section padded le_at
  pres_back seven fits =
      rw (
        le-leb 10 (length (pres_section f p)) (omega arith),
        to,
        state_known f.nmt_state,
        size,
        left,
        le-leb f.payload_size (length (behind_fields p)) fits,
        flags_back f.flags seven,
      )

  pub pres_cut : length (behind_fields p) < f.payload_size → read_section services (pres_section f p) ≡ Err BufferTooShort
  unfolding message_of kind_in read_section read_pres pres_section padded le_at
  pres_cut lacks =
      rw (
        le-leb 10 (length (pres_section f p)) (omega arith),
        to,
        state_known f.nmt_state,
        size,
        left,
        lt-leb f.payload_size (length (behind_fields p)) lacks,
      )

  pub pres_payload : drop 10 (pres_section f p) ≡ behind_fields p
  unfolding pres_section
  pres_payload = behind (pres_bytes f) p refl
