-- `batch::write_payload` meets its contract.
-- Assumes nothing.
use Rattle.std.proofs.lemmas.Result.{err_from_is_err_and}
use Rattle.reporter.specs.Layout.{head_of}
use Rattle.reporter.specs.Rules.{opened, answer_payload}
use Rattle.reporter.proofs.AnswerLaws.{filled_short, filled_refused, filled_written, carried_fits, carried_taken, payload_writes}
use Rattle.reporter.proofs.batch.write_payload.Goals as goal

pub returns-then-target-lt-PAYLOAD_MIN : goal.returns-then-target-lt-PAYLOAD_MIN
returns-then-target-lt-PAYLOAD_MIN c =
    let a = c.args in
    filled_short (answer_payload a.fields (opened (head_of a.state.now))) a.target.now 42 c.if-target-lt-PAYLOAD_MIN.true

pub slice_bounds-batch-end : goal.slice_bounds-batch-end
slice_bounds-batch-end c = carried_fits c.args.fields c.args.state.now _ _ c.first_four-batch.ensures c.carried-n.ensures

pub slice_bounds-serialize-end : goal.slice_bounds-serialize-end
slice_bounds-serialize-end c = carried_taken c.args.fields c.args.state.now _ _ c.first_four-batch.ensures c.carried-n.ensures

pub returns-in_err-len : goal.returns-in_err-len
returns-in_err-len c =
    let a = c.args in
    let p = err_from_is_err_and c.from_residual.result c.from_residual.ensures.1 in
    rw (p.1, p.2)
    (filled_refused (answer_payload a.fields (opened (head_of a.state.now))) a.target.now 42 _ _
    (payload_writes a.fields a.state.now _ _ c.first_four-batch.ensures c.carried-n.ensures _ _ _ _ c.status_fields-front.ensures c.in_err-len.ensures))

pub returns : goal.returns
returns c =
    let a = c.args in
    rw c.fill.ensures.0
    (filled_written (answer_payload a.fields (opened (head_of a.state.now))) a.target.now 42 _ _ _
    (payload_writes a.fields a.state.now _ _ c.first_four-batch.ensures c.carried-n.ensures _ _ _ _ c.status_fields-front.ensures c.in_ok-len.ensures)
    c.if-target-lt-PAYLOAD_MIN.false
    c.fill.ensures.1)
