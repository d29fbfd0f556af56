-- `read` meets its contract.
-- Assumes nothing.
use mathlib.Core.Path.{sym, ap, ◌∙◌}
use native.Mathlib.Omega.{arith}
use borrow.Author.Rules.{rules}
use lib.ListN.{length, drop, length-drop}
use lib.Seq.{take_all}
use Rattle.std.proofs.lemmas.Result.{err_from_is_err_and}
use Rattle.std.specs.Prelude.{Ok}
use Rattle.control.specs.ASnd.{asnd_payload_at}
use Rattle.collector.proofs.CallLaws.{reads_refused, reads_other, reads_status}
use Rattle.collector.proofs.read.Goals as goal

pub returns-in_err-source : goal.returns-in_err-source
returns-in_err-source c =
    let a = c.args in
    let p = err_from_is_err_and c.from_residual.result c.from_residual.ensures.1 in
    rw (p.1, p.2) (reads_refused a.services.now a.state.now a.buffer.now _ c.in_err-source.ensures)

pub returns-in_default : goal.returns-in_default
returns-in_default c =
    let a = c.args in
    reads_other a.services.now a.state.now a.buffer.now (ap Ok (sym c.in_default.is) ∙ c.in_ok-source.ensures)

pub returns : goal.returns
returns c =
    let a = c.args in
    reads_status a.services.now a.state.now a.buffer.now c.told-state (λ i. search rules)
    c.in-Some.source (ap Ok (sym c.in-Some.is) ∙ c.in_ok-source.ensures) _
    (c.payload.ensures.octets ∙ take_all (length a.buffer.now) (drop asnd_payload_at a.buffer.now) (simp length-drop (omega arith))) _ _
    c.read_status.ensures
