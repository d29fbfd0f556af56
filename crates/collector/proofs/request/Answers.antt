-- `request` meets its contract.
-- Assumes nothing.
use mathlib.Core.Path.{sym, ap, ◌∙◌}
use mathlib.Core.Bool.{Bool}
use borrow.Author.Rules.{rules}
use Rattle.section.specs.Write.{overwritten}
use Rattle.collector.specs.Layout.{ea_in}
use Rattle.collector.specs.Rules.{request_frame, request_written}
use Rattle.collector.proofs.CallLaws.{requests}
use Rattle.collector.proofs.IdLaws.{found_is, found_not, place_none, place_some}
use Rattle.collector.proofs.request.Goals as goal

pub returns-in_default : goal.returns-in_default
returns-in_default c =
    let a = c.args in
    let p = place_none a.state.now a.id.0 (found_not _ c.in_default.ensures) in
    requests a.id a.fields (search rules) _ a.state.now a.target.now _ (rw p) (rw p)

pub returns : goal.returns
returns c =
    let a = c.args in
    let s = a.state.now in
    let at = found_is _ _ c.in-Some.ensures in
    let p = place_some s a.id.0 at.1 in
    let e = c.ea.ensures ∙ ap (ea_in s) (sym at.0) in
    requests a.id a.fields (search rules) _ s a.target.now _
    (rw p (c.write_request.ensures.0 ∙ ap (λ (x : Bool). request_written (request_frame a.id.0 a.fields x) a.target.now) e))
    (rw p (c.write_request.ensures.1 ∙ ap (λ (x : Bool). overwritten (request_frame a.id.0 a.fields x) a.target.now) e))
