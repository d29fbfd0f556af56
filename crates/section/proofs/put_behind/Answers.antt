-- `section::put_behind` meets its contract.
-- Assumes nothing.
use Rattle.section.specs.Write.{min_section, padded}
use Rattle.section.proofs.Sections.{four_copies}
use Rattle.section.proofs.put_behind.Goals as goal

pub returns : goal.returns
unfolding padded
returns c =
    let a = c.args in
    rw (c.put-3.ensures, c.put-2.ensures, c.put.ensures, c.clear.ensures)
    (four_copies min_section a.front.now a.header.now a.payload.now a.target.now c.requires)
