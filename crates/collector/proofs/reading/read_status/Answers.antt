-- `read_status` meets its contract.
-- Assumes nothing.
use mathlib.Core.Path.{sym}
use Rattle.std.proofs.lemmas.Result.{err_from_is_err_and}
use Rattle.collector.proofs.CallLaws.{status_unknown, status_refused, status_books}
use Rattle.collector.proofs.IdLaws.{found_is, found_not}
use Rattle.collector.proofs.reading.read_status.Goals as goal

pub returns-in_default : goal.returns-in_default
returns-in_default c =
    status_unknown c.args.state.now c.args.source c.args.payload.now (found_not _ c.in_default.ensures)

pub returns-in_err-fields : goal.returns-in_err-fields
returns-in_err-fields c =
    let a = c.args in
    let at = found_is _ _ c.in-Some.ensures in
    let p = err_from_is_err_and c.from_residual.result c.from_residual.ensures.1 in
    rw (p.1, p.2)
    (status_refused a.state.now a.source a.payload.now at.1 c.in_err-fields.field-0.0 c.in_err-fields.ensures.answer)

pub returns : goal.returns
returns c =
    let a = c.args in
    let at = found_is _ _ c.in-Some.ensures in
    status_books a.state.now a.source a.payload.now at.1 c.in_ok-fields.fields c.in_ok-fields.ensures.answer c.in-Some.block (sym at.0) _ _
    c.book.ensures
