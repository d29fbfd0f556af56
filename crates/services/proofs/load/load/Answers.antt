-- `load::load` meets its contract.
-- Assumes nothing.
use Rattle.std.proofs.lemmas.Result.{err_from_is_err_and}
use Rattle.services.proofs.Loading.{loads}
use Rattle.services.proofs.load.load.Goals as goal

pub returns-then-not-is_table : goal.returns-then-not-is_table
returns-then-not-is_table c = search loads

pub returns-in_err-judge : goal.returns-in_err-judge
returns-in_err-judge c =
    let p = err_from_is_err_and c.from_residual.result c.from_residual.ensures.1 in rw (p.1, p.2) (search (loads, c.in_err-judge.was))

pub returns : goal.returns
returns c = search (loads, c.in_ok-judge.was)
