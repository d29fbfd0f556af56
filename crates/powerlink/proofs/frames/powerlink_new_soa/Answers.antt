-- `frames::powerlink_new_soa` meets its contract.
-- Assumes nothing.
use Rattle.control.specs.SoA.{soa_section}
use Rattle.frame.specs.Write.{frame_bytes}
use Rattle.powerlink.proofs.Writers.{writes_coded}
use Rattle.powerlink.proofs.frames.powerlink_new_soa.Goals as goal

pub returns-in-Ok-try_from : goal.returns-in-Ok-try_from
unfolding frame_bytes soa_section
returns-in-Ok-try_from c =
    writes_coded _ _ _ _ _ _ _ _ _ (rw (← c.try_from.ensures.answer, c.in-Ok.is, ← c.try_from-in-Ok.ensures.answer, c.in-Ok-try_from.is))
    (rw (c.to_bytes.ensures, c.new-new.ensures) at c.put_frame-answer.ensures) (c.written_or.ensures.value, c.written_or.ensures.written_after)
