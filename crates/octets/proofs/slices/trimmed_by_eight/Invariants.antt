-- `slices::trimmed_by_eight` meets its contract. The loop's invariant: only zeros stand behind what is kept. The measure is its length.
-- Assumes nothing.
use lib.ListN.{length, take}
use mathlib.Core.Path.{◌≡◌}
use Rattle.octets.specs.Trim.{TrimsTo}
use Rattle.octets.proofs.slices.trimmed_by_eight.Given as goal

abbrev pub invariant-loop-before : goal.invariant-loop-before
invariant-loop-before l = (l.kept ≡ take (length l.kept) l.s) × TrimsTo l.s (length l.kept)

abbrev pub decreases-loop-before : goal.decreases-loop-before
decreases-loop-before l = length l.kept
