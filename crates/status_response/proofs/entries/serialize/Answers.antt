-- `entries::serialize` meets its contract: a list, then what stands in front.
-- Assumes nothing.
use Rattle.std.proofs.lemmas.Result.{err_from_is_err_and}
use Rattle.status_response.proofs.WriteLaws.{head_refused, head_written}
use Rattle.status_response.proofs.entries.serialize.Goals as goal

pub returns-in_err-len : goal.returns-in_err-len
returns-in_err-len c =
    let p = err_from_is_err_and c.from_residual.result c.from_residual.ensures.1 in
    rw (p.1, p.2) (head_refused c.args.fields c.args.field c.args.entries.now c.args.target.now _ _ c.in_err-len.ensures)

pub returns : goal.returns
returns c =
    rw (c.put.ensures, c.to_bytes.ensures)
    (head_written c.args.fields c.args.field c.args.entries.now c.args.target.now _ _ c.in_ok-len.ensures)
