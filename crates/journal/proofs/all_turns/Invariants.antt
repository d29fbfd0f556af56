-- `all_turns` meets its contract. Its loop's invariant: how far the program stands, with less than a record held, and the input goes on.
-- Each turn reads something: what is left to be counted falls.
-- Assumes nothing.
use Prim.Native.Nat.{◌+◌, ◌-◌, ◌<◌}
use mathlib.Core.Bool.{false}
use mathlib.Core.Path.{◌≡◌}
use lib.ListN.{take}
use Rattle.journal.specs.Rest.{Stands, record_len}
use Rattle.journal.specs.Streams.{count_most}
use Rattle.journal.proofs.all_turns.Given as goal

abbrev pub invariant-loop-to_come : goal.invariant-loop-to_come
invariant-loop-to_come g l =
    (Stands l.streams l.to_come (take l.held l.text) × (l.streams.ended ≡ false)) × (l.held < record_len)

abbrev pub decreases-loop-to_come : goal.decreases-loop-to_come
decreases-loop-to_come g l = count_most + 1 - l.streams.got
