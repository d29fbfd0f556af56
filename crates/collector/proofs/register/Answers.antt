-- `register` meets its contract.
-- Assumes nothing.
use Prim.Native.Nat.{ℕ}
use mathlib.Core.Path.{refl, sym, ap, ◌∙◌}
use Rattle.std.specs.Prelude.{is_some}
use borrow.Author.Tests.{ltb-true, ltb-false}
use Rattle.collector.specs.Layout.{placed_bytes}
use Rattle.collector.proofs.AnswerLaws.{register_bad, register_known, register_full, register_new}
use Rattle.collector.proofs.CallLaws.{registers, registers_none}
use Rattle.collector.proofs.IdLaws.{found_is, found_not, found_any}
use Rattle.collector.proofs.register.Goals as goal

pub returns-then-not-is_cn : goal.returns-then-not-is_cn
returns-then-not-is_cn c =
    let a = c.args in
    registers_none a.id a.state.now (register_bad a.state.now a.id.0 (sym c.if-not-is_cn.ensures))

pub returns-then-is_some : goal.returns-then-is_some
returns-then-is_some c =
    let a = c.args in
    registers a.id _ a.state.now _ c.told-state
    (register_known a.state.now a.id.0 (sym c.if-not-is_cn.ensures) (ltb-true _ _ (sym (found_any _ _ (c.if-is_some.ensures ∙ ap is_some c.find.ensures)))))
    refl

pub returns-in_default : goal.returns-in_default
returns-in_default c =
    let a = c.args in
    registers a.id _ a.state.now _ c.told-state
    (register_full a.state.now a.id.0 (sym c.if-not-is_cn.ensures)
    (ltb-false _ _ (sym (found_any _ _ (c.if-is_some.ensures ∙ ap is_some c.find.ensures)))) (found_not _ c.in_default.ensures))
    refl

pub returns : goal.returns
returns c =
    let a = c.args in
    let at = found_is _ _ c.in-Some.ensures in
    registers a.id _ a.state.now _ c.told-state
    (register_new a.state.now a.id.0 (sym c.if-not-is_cn.ensures)
    (ltb-false _ _ (sym (found_any _ _ (c.if-is_some.ensures ∙ ap is_some c.find.ensures)))) at.1)
    (c.place_node.ensures ∙ ap (λ (k : ℕ). placed_bytes a.state.now k a.id.0) (sym at.0))
