-- `load::mark` meets its contract: at each turn what is marked by then, with the IDs that are left, gives the whole.
-- Assumes nothing.
use mathlib.Core.Path.{◌≡◌}
use lib.ListN.{drop}
use Rattle.services.specs.Table.{marked}
use Rattle.services.proofs.load.mark.Given as goal

abbrev pub invariant-loop-id : goal.invariant-loop-id
invariant-loop-id l = marked l.initial.services l.ids ≡ marked l.services (drop l.id-index l.ids)
