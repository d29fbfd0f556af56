-- `acknowledge::acknowledge` meets its contract.
-- Assumes nothing.
use borrow.Author.Rules.{rules}
use mathlib.Core.Path.{refl}
use Rattle.reporter.specs.declared.ReadOutcome.TheVariants.{Closed, Kept}
use Rattle.reporter.proofs.CallLaws.{acknowledges, none_open, other_ea, same_ea}
use Rattle.reporter.proofs.acknowledge.acknowledge.Goals as goal

pub returns-then-open-eq0 : goal.returns-then-open-eq0
returns-then-open-eq0 c =
    let a = c.args in
    let s = a.state.now in
    acknowledges a.ea s (search rules) Kept (none_open a.ea s _ c.«open».ensures c.if-open-eq0.true) _ refl

pub returns-then-en-ea : goal.returns-then-en-ea
returns-then-en-ea c =
    let a = c.args in
    let s = a.state.now in
    acknowledges a.ea s (search rules) Kept
    (other_ea a.ea s _ c.«open».ensures c.if-open-eq0.false _ c.en.ensures c.if-en-ea.true)
    _ refl

pub returns : goal.returns
returns c =
    let a = c.args in
    let s = a.state.now in
    acknowledges a.ea s (search rules) Closed
    (same_ea a.ea s _ c.«open».ensures c.if-open-eq0.false _ c.en.ensures c.if-en-ea.false)
    _ c.close.ensures
