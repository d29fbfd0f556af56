-- `frames::powerlink_new_pres` meets its contract.
-- Assumes nothing.
use mathlib.Core.Path.{sym, ◌∙◌}
use Rattle.types.proofs.CodeCauses.{state_code_lem}
use Rattle.poll.specs.PRes.{pres_section}
use Rattle.frame.specs.Write.{frame_bytes}
use Rattle.powerlink.proofs.Writers.{writes_coded}
use Rattle.powerlink.proofs.frames.powerlink_new_pres.Goals as goal

pub returns-in-Ok : goal.returns-in-Ok
unfolding frame_bytes pres_section
returns-in-Ok c =
    let known = sym c.try_from.ensures.answer ∙ c.in-Ok.is in
    let code = state_code_lem _ _ known in
    writes_coded _ _ _ _ _ _ _ _ _ (rw (known, c.from.ensures, code)) (rw (c.to_bytes-fields.ensures, c.new-new.ensures) at c.put_frame-answer.ensures) (c.written_or.ensures.value, c.written_or.ensures.written_after)
