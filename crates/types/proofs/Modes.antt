-- A mode's code has two bits.
-- Assumes nothing.
use Prim.Native.Nat.{◌≤◌}
use native.Mathlib.Omega.{arith}
use Rattle.types.specs.Modes.{mode_code}
use Rattle.types.specs.declared.error_mode.ErrorEntryMode.{ErrorEntryMode}
use Rattle.types.specs.declared.error_mode.ErrorEntryMode.TheVariants.{Terminator, ErrorActive, ErrorCleared, EventOccurred}

pub mode_small : (m : ErrorEntryMode) → mode_code m ≤ 3
mode_small Terminator = omega arith
mode_small ErrorActive = omega arith
mode_small ErrorCleared = omega arith
mode_small EventOccurred = omega arith
