-- `list` meets its contract. The loop's invariant: how far the program stands. The measure is what is left of the part.
-- Assumes nothing.
use Prim.Native.Nat.{◌-◌}
use mathlib.Core.Path.{◌≡◌}
use lib.ListN.{length}
use Rattle.journal.proofs.Parts.{SoFar}
use Rattle.journal.proofs.list.Given as goal

abbrev pub invariant-loop-to_come : goal.invariant-loop-to_come
invariant-loop-to_come g l = SoFar l.bytes l.initial.streams l.to_come l.at l.streams × (length l.out ≡ length l.initial.out)

abbrev pub decreases-loop-to_come : goal.decreases-loop-to_come
decreases-loop-to_come g l = length l.bytes - l.at
