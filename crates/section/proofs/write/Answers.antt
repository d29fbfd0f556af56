-- `section::write` meets its contract.
-- Assumes nothing.
use mathlib.Core.Path.{refl}
use Rattle.section.proofs.Sections.{refuses, writes}
use Rattle.section.proofs.write.Goals as goal

pub returns-then-target-len : goal.returns-then-target-len
returns-then-target-len c = refuses _ _ c.if-target-len.true

pub returns : goal.returns
returns c =
    rw c.put.ensures (writes _ _ _ refl c.if-target-len.false)
