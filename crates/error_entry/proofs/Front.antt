-- An entry is read from its own octets, whatever stands behind them.
-- Assumes nothing.
use Prim.Native.Nat.{ℕ, ◌≤◌}
use mathlib.Core.Path.{◌≡◌}
use mathlib.Core.List.{List, ◌++◌}
use native.Mathlib.Omega.{arith}
use lib.ListN.{length}
use Rattle.octets.proofs.Le.{number_front}
use Rattle.error_entry.specs.Entry.{entry_of}

pub entry_front : (s rest : List ℕ) → 20 ≤ length s → entry_of (s ++ rest) ≡ entry_of s
unfolding entry_of
entry_front s rest h =
    rw (
      number_front 2 0 s rest (omega arith),
      number_front 2 2 s rest (omega arith),
      number_front 4 4 s rest (omega arith),
      number_front 4 8 s rest (omega arith),
      number_front 8 12 s rest (omega arith),
    )
