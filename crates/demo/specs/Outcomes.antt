-- What a call that is not refused comes to.
-- Assumes nothing.
use Rattle.collector.specs.declared.ReadOutcome.{ReadOutcome}
use Rattle.collector.specs.declared.ReadOutcome.TheVariants.{Booked, Known}
use Rattle.reporter.specs.declared.ReadOutcome as head
use Rattle.reporter.specs.declared.ReadOutcome.TheVariants.{Closed, Kept, Ignored}
use Rattle.demo.specs.declared.outcome.Success.{Success}
use Rattle.demo.specs.declared.outcome.Success.TheVariants as success

-- the box has read a frame
abbrev pub of_box : ReadOutcome → Success
of_box Booked = success.Done
of_box Known = success.Known

-- a head has
abbrev pub of_head : head.ReadOutcome → Success
of_head Closed = success.Done
of_head Kept = success.Kept
of_head Ignored = success.Ignored
