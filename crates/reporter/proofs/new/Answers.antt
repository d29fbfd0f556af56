-- `new` meets its contract.
-- Assumes nothing.
use mathlib.Core.Path.{sym, ◌∙◌}
use Rattle.reporter.proofs.CallLaws.{makes, id_good}
use Rattle.reporter.proofs.new.Goals as goal

pub returns : goal.returns
returns c =
    let a = c.args in
    makes a.id a.state.now (id_good a.id a.state.now (sym c.is_cn.ensures ∙ c.if-not-is_cn.false))
