-- `answer` meets its contract.
-- Assumes nothing.
use borrow.Author.Rules.{rules}
use mathlib.Core.Path.{refl, ap, ◌∙◌}
use Rattle.std.proofs.lemmas.Result.{err_from_is_err_and}
use Rattle.reporter.specs.Layout.{head_of}
use Rattle.reporter.proofs.AnswerLaws.{answers}
use Rattle.reporter.proofs.Meaning.{opens_means}
use Rattle.reporter.proofs.answer.Goals as goal

pub returns-in_err-n : goal.returns-in_err-n
returns-in_err-n c =
    let a = c.args in
    let p = err_from_is_err_and c.from_residual.result c.from_residual.ensures.1 in
    rw (p.1, p.2) (answers a.fields a.state.now a.services.now (search rules) _ _ _ _ c.in_err-n.ensures refl refl)

pub returns : goal.returns
returns c =
    let a = c.args in
    let s = a.state.now in
    let o = c.open_batch.ensures in
    answers a.fields s a.services.now (search rules) _ _ _ _ c.in_ok-n.ensures (ap head_of o ∙ opens_means s c.told-state) o
