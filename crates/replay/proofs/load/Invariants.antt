-- `load` is safe and ends: the place stays in the array, and what is left of it falls.
-- Assumes nothing.
use Rattle.std.proofs.Common.{◌-◌, ◌≤◌}
use Rattle.replay.proofs.load.Given as goal

abbrev pub invariant-loop-done : goal.invariant-loop-done
invariant-loop-done g l = l.done ≤ 2097152

abbrev pub decreases-loop-done : goal.decreases-loop-done
decreases-loop-done g l = 2097152 - l.done
