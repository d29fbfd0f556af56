-- The answer of a writer can be read back from its number and values.
-- Assumes nothing.
use mathlib.Core.Path.{◌≡◌, refl}
use mathlib.Mathlib.Logic.Function.Defs.{LeftInverse-Injective}
use mathlib.Core.Bool.{Bool, true, false}
use lib.Dec.{eqb}
use Rattle.types.specs.declared.hal.PowerlinkError.TheVariants.{BufferTooShort}
use Rattle.types.specs.Codes.{need}
use Rattle.std.specs.Prelude.{Result, Ok, Err, ℕ}
use Rattle.types.specs.Causes.{Cause}
use Rattle.types.proofs.CausesTell.{value, refused_or, refused_back, no_0}
use Rattle.section.specs.CausesTell.{CausesTell}
use Rattle.section.specs.Write.{write_cause}
use Rattle.types.specs.declared.hal.PowerlinkError.{PowerlinkError}

abbrev pub write_back : Cause → Result ℕ PowerlinkError
write_back c = refused_or Err (Ok (value c)) c

pub write_back_lem : (a : Result ℕ PowerlinkError) → write_back (write_cause a) ≡ a
write_back_lem (Ok n) = refl
write_back_lem (Err e) = refused_back Err _ e

pub causes_tell : CausesTell
causes_tell = record { written = λ n. refl; refused = λ e. refl; apart = LeftInverse-Injective write_back write_cause write_back_lem }

-- a value that cannot be written is not answered by 0
pub refused_number : (fits : Bool) (e : PowerlinkError) → eqb (write_cause (need fits (Err BufferTooShort) (Err e))).number 0 ≡ false
refused_number true e = no_0 e
refused_number false e = refl
