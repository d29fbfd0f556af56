-- `SocFrame::serialize` meets its contract.
-- Assumes nothing.
use Rattle.control.specs.SoC.{soc_section}
use Rattle.control.proofs.soc.SocFrame.serialize.Goals as goal

pub returns : goal.returns
unfolding soc_section
returns c =
    rw c.to_bytes.ensures at c.write_section.ensures
