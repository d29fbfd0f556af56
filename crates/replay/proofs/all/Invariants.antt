-- No more cases differ than were replayed.
-- Assumes nothing.
use Rattle.std.proofs.Common.{◌<◌}
use Rattle.replay.proofs.all.Given as goal

abbrev pub invariant-loop-case : goal.invariant-loop-case
invariant-loop-case g l = l.differ < l.case-counter
