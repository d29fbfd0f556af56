-- The answer of reading an entry can be read back from its number and values.
-- Assumes nothing.
use mathlib.Core.Path.{◌≡◌, refl, ap}
use mathlib.Mathlib.Logic.Function.Defs.{LeftInverse-Injective}
use Rattle.std.specs.Prelude.{Result, Ok, Err}
use Rattle.types.specs.Causes.{Cause}
use Rattle.types.proofs.CausesTell.{refused_or, refused_back}
use Rattle.error_entry.specs.CausesTell.{CausesTell}
use Rattle.error_entry.specs.Entry.{entry_cause}
use Rattle.error_entry.specs.Values.{entry_told}
use Rattle.error_entry.proofs.Values.{values_tell}
use Rattle.error_entry.specs.declared.ErrorEntry.{ErrorEntry}
use Rattle.types.specs.declared.hal.PowerlinkError.{PowerlinkError}

abbrev pub entry_back : Cause → Result ErrorEntry PowerlinkError
entry_back c = refused_or Err (Ok (entry_told c.returned)) c

entry_back_lem : (a : Result ErrorEntry PowerlinkError) → entry_back (entry_cause a) ≡ a
entry_back_lem (Ok e) = ap Ok (values_tell.entries e)
entry_back_lem (Err e) = refused_back Err _ e

pub causes_tell : CausesTell
causes_tell = record { entry = λ e. refl; no_entry = λ e. refl; apart = LeftInverse-Injective entry_back entry_cause entry_back_lem }
