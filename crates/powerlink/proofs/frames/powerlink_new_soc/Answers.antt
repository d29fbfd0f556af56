-- `frames::powerlink_new_soc` meets its contract.
-- Assumes nothing.
use Rattle.control.specs.SoC.{soc_section}
use Rattle.frame.specs.Write.{frame_bytes}
use Rattle.powerlink.proofs.Writers.{writes_to}
use Rattle.powerlink.proofs.frames.powerlink_new_soc.Goals as goal

pub returns : goal.returns
unfolding frame_bytes soc_section
returns c =
    writes_to _ _ _ _ _ _ _ (rw (c.to_bytes.ensures, c.new-new.ensures) at c.put_frame-answer.ensures) (c.written_or.ensures.value, c.written_or.ensures.written_after)
