-- `given::put_groups` meets its contract. The loop's invariant: `at` is a multiple of an entry's octets, and as many are put.
-- The measure is what is left of the octets.
-- Assumes nothing.
use Prim.Native.Nat.{◌-◌, ◌%◌, ◌≤◌}
use mathlib.Core.Path.{◌≡◌}
use lib.ListN.{length, take}
use lib.Seq.{sets}
use Rattle.status_response.proofs.given.put_groups.Given as goal

abbrev pub invariant-loop-at : goal.invariant-loop-at
invariant-loop-at l = (l.at ≤ length l.entries) × ((l.at % 20 ≡ 0) × ((l.target ≡ sets l.initial.target 14 (take l.at l.entries)) × (length l.target ≡ length l.initial.target)))

abbrev pub decreases-loop-at : goal.decreases-loop-at
decreases-loop-at l = length l.entries - l.at
