-- `count_entries`: what was counted and what is still to be counted of the entries that are left are together what the contract says.
-- Assumes nothing.
use Prim.Native.Nat.{◌+◌}
use mathlib.Core.Path.{◌≡◌}
use lib.ListN.{length}
use Rattle.status_response.specs.Steps.{entries_from}
use Rattle.collector.specs.Rules.{bookable, said_in}
use Rattle.collector.proofs.book.count_entries.Given as goal

abbrev pub invariant-loop-entry : goal.invariant-loop-entry
invariant-loop-entry l =
    l.n + length (bookable (entries_from l.entry-iterator.payload.now l.entry-iterator.offset)) ≡ length (said_in l.payload).entries
