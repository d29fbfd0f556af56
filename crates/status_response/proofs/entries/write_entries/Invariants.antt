-- `entries::write_entries`: the first i entries are put, each at its place. The measure is what is left of the list.
-- Assumes nothing.
use Rattle.std.proofs.Common.{◌≡◌, ◌-◌, ◌≤◌, length}
use Rattle.status_response.specs.Parts.{entries_put}
use Rattle.status_response.proofs.entries.write_entries.Given as goal

abbrev pub invariant-loop-i : goal.invariant-loop-i
invariant-loop-i l = record {
  counted : l.n ≡ length l.entries;
  within : l.i ≤ l.n;
  put : l.target ≡ entries_put l.entries l.initial.target l.i;
}

abbrev pub decreases-loop-i : goal.decreases-loop-i
decreases-loop-i l = l.n - l.i
