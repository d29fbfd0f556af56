-- `list_part` meets its contract. The loop's invariant: what is done so far, in front of what the rest comes to, is the whole.
-- The measure is what is left of the part.
-- Assumes nothing.
use Prim.Native.Nat.{◌-◌}
use lib.ListN.{length}
use Rattle.journal_records.proofs.PartLaws.{Held}
use Rattle.journal_records.proofs.listing.list_part.Given as goal

abbrev pub invariant-loop-answer : goal.invariant-loop-answer
invariant-loop-answer l = Held l.initial.to_come l.bytes l.last l.initial.out l.out l.to_come l.consumed l.written

abbrev pub decreases-loop-answer : goal.decreases-loop-answer
decreases-loop-answer l = length l.bytes - l.consumed
