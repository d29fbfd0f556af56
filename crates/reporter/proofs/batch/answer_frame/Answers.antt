-- `batch::answer_frame` meets its contract: the payload is written behind the front's place, and then the front.
-- Assumes nothing.
use native.Mathlib.Omega.{arith}
use mathlib.Core.Path.{refl}
use mathlib.Core.List.{◌++◌}
use lib.ListN.{length-append}
use Rattle.std.proofs.lemmas.Result.{err_from_is_err_and}
use Rattle.section.proofs.Behind.{behind_refused, behind_written}
use Rattle.section.proofs.Sections.{refuses}
use Rattle.reporter.specs.Layout.{head_of}
use Rattle.reporter.specs.Rules.{opened, filled_payload, answer_front}
use Rattle.reporter.proofs.AnswerLaws.{frame_parts, front_length}
use Rattle.reporter.proofs.batch.answer_frame.Goals as goal

pub returns-then-target-lt-PAYLOAD_AT : goal.returns-then-target-lt-PAYLOAD_AT
returns-then-target-lt-PAYLOAD_AT c =
    let a = c.args in
    let h = opened (head_of a.state.now) in
    let front = answer_front a.fields h.id in
    let payload = filled_payload a.fields h in
    rw (frame_parts a.fields h)
    (refuses (front ++ payload) a.target.now (omega (arith, length-append front payload, front_length a.fields h.id)))

pub returns-in_err-n : goal.returns-in_err-n
returns-in_err-n c =
    let a = c.args in
    let h = opened (head_of a.state.now) in
    let p = err_from_is_err_and c.from_residual.result c.from_residual.ensures.1 in
    rw (frame_parts a.fields h, p.1, p.2)
    (behind_refused (answer_front a.fields h.id) (filled_payload a.fields h) a.target.now 18 (front_length a.fields h.id) c.if-target-lt-PAYLOAD_AT.false _ _
    c.in_err-n.ensures _ refl)

pub returns : goal.returns
returns c =
    let a = c.args in
    let h = opened (head_of a.state.now) in
    rw (frame_parts a.fields h)
    (behind_written (answer_front a.fields h.id) (filled_payload a.fields h) a.target.now 18 (front_length a.fields h.id) c.if-target-lt-PAYLOAD_AT.false _ _
    c.in_ok-n.ensures _ refl _ c.put_front.ensures)
