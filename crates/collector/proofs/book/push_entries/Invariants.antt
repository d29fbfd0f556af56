-- `push_entries`: the entries that are left join the book, and then it is what the contract says.
-- Assumes nothing.
use Rattle.status_response.specs.Steps.{entries_from}
use Rattle.collector.specs.Layout.{pushed_all}
use Rattle.collector.specs.Rules.{said_in}
use Rattle.collector.proofs.BookableLaws.{Joins}
use Rattle.collector.proofs.book.push_entries.Given as goal

abbrev pub invariant-loop-e : goal.invariant-loop-e
invariant-loop-e l =
    Joins l.block (pushed_all l.initial.state l.block (said_in l.payload).entries) l.state
    (entries_from l.e-iterator.payload.now l.e-iterator.offset)
