-- A SoC section that is written is read back.
-- Assumes nothing.
use Prim.Native.Nat.{ℕ}
use mathlib.Core.Path.{◌≡◌, refl}
use mathlib.Core.List.{List}
use Rattle.std.specs.Prelude.{Ok}
use Rattle.octets.specs.Numbers.{le_at}
use Rattle.octets.proofs.Le.{bytes_back}
use Rattle.types.specs.Messages.{message_of}
use Rattle.section.specs.Write.{padded}
use Rattle.control.specs.SoC.{soc_section}
use Rattle.control.specs.declared.soc.SocFrame.{SocFrame}
use Rattle.frame.specs.declared.PowerlinkFrame.TheVariants.{Soc}
use Rattle.codec.specs.Frame.{kind_in, read_section}
use Rattle.codec.specs.SoC.{read_soc}
use Rattle.frame_laws.specs.ReadBack.{SocInRange}
use Rattle.frame_laws.proofs.Flags.{two, Reads2}

mc : Reads2 7 6 7 (λ x y. x)
mc = two _ refl refl refl refl

ps : Reads2 7 6 6 (λ x y. y)
ps = two _ refl refl refl refl

pub soc_back : (services : List ℕ) (f : SocFrame) → SocInRange f → read_section services (soc_section f) ≡ Ok (Soc f)
unfolding message_of kind_in read_section read_soc soc_section padded le_at
soc_back services f r =
    rw (
      mc f.flags.mc f.flags.ps,
      ps f.flags.mc f.flags.ps,
      bytes_back 4 f.net_time.seconds r.seconds,
      bytes_back 4 f.net_time.nanoseconds r.nanoseconds,
      bytes_back 8 f.relative_time.0 r.relative,
    )
