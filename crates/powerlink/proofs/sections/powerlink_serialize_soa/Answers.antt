-- `sections::powerlink_serialize_soa` meets its contract.
-- Assumes nothing.
use Rattle.powerlink.proofs.Writers.{writes_coded}
use Rattle.powerlink.proofs.sections.powerlink_serialize_soa.Goals as goal

pub returns-in-Ok-try_from : goal.returns-in-Ok-try_from
returns-in-Ok-try_from c =
    writes_coded _ _ _ _ _ _ _ _ _ (rw (← c.try_from.ensures.answer, c.in-Ok.is, ← c.try_from-in-Ok.ensures.answer, c.in-Ok-try_from.is)) c.serialize-answer.ensures (c.written_or.ensures.value, c.written_or.ensures.written_after)
