-- A priority's code has three bits.
-- Assumes nothing.
use Prim.Native.Nat.{◌≤◌}
use native.Mathlib.Omega.{arith}
use Rattle.types.specs.PollFlags.{priority_code}
use Rattle.types.specs.declared.poll_flags.PRFlag.{PRFlag}
use Rattle.types.specs.declared.poll_flags.PRFlag.TheVariants.{PrioNmtRequest, High3, High2, High1, PrioGenericRequest, Low3, Low2, Low1}

pub priority_small : (p : PRFlag) → priority_code p ≤ 7
priority_small PrioNmtRequest = omega arith
priority_small High3 = omega arith
priority_small High2 = omega arith
priority_small High1 = omega arith
priority_small PrioGenericRequest = omega arith
priority_small Low3 = omega arith
priority_small Low2 = omega arith
priority_small Low1 = omega arith
