-- An SoA section that is written is read back.
-- Assumes nothing.
use Prim.Native.Nat.{ℕ}
use mathlib.Core.Path.{◌≡◌, refl}
use mathlib.Core.List.{List}
use Rattle.std.specs.Prelude.{Ok}
use Rattle.types.specs.Messages.{message_of}
use Rattle.types.proofs.ReadBack.{state_known, requested_known}
use Rattle.section.specs.Write.{padded}
use Rattle.control.specs.SoA.{soa_section}
use Rattle.control.specs.declared.soa.SoAFrame.{SoAFrame}
use Rattle.frame.specs.declared.PowerlinkFrame.TheVariants.{SoA}
use Rattle.codec.specs.Frame.{kind_in, read_section}
use Rattle.codec.specs.SoA.{read_soa}
use Rattle.frame_laws.proofs.Flags.{two, Reads2}

ea : Reads2 2 1 2 (λ x y. x)
ea = two _ refl refl refl refl

er : Reads2 2 1 1 (λ x y. y)
er = two _ refl refl refl refl

pub soa_back : (services : List ℕ) (f : SoAFrame) → read_section services (soa_section f) ≡ Ok (SoA f)
unfolding message_of kind_in read_section read_soa soa_section padded
soa_back services f =
    rw (
      state_known f.nmt_state,
      requested_known f.req_service_id,
      ea f.flags.ea f.flags.er,
      er f.flags.ea f.flags.er,
    )
