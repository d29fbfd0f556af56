-- `list_held` meets its contract: what is kept is what `list` left.
-- Assumes nothing.
use mathlib.Core.Path.{refl, ap}
use Rattle.std.specs.Prelude.{Ok}
use Rattle.journal.proofs.Parts.{listed_as}
use Rattle.journal.proofs.Turns.{keeps}
use Rattle.journal.proofs.list_held.Goals as goal

pub returns : goal.returns
returns g c =
    keeps c.args.text.now c.args.n (listed_as _ _ _ _ _ _ c.front.ensures.octets (ap Ok c.in-Some.is) c.in_ok-rest.ensures) c.requires.counted.1 refl
    c.copy_within.ensures.after
