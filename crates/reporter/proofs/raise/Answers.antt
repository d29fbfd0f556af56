-- `raise` meets its contract.
-- Assumes nothing.
use borrow.Author.Rules.{rules}
use mathlib.Core.Path.{sym, ◌∙◌}
use Rattle.reporter.proofs.CallLaws.{raise_invalid, raise_status, raise_full, raise_good, not_raised, raised}
use Rattle.reporter.proofs.raise.Goals as goal

pub returns-then-not-raisable : goal.returns-then-not-raisable
returns-then-not-raisable c =
    let a = c.args in
    let s = a.state.now in
    not_raised a.entry s (search rules) _ (raise_invalid a.entry s _ c.raisable.ensures c.if-not-raisable.true)

pub returns-then-entry : goal.returns-then-entry
returns-then-entry c =
    let a = c.args in
    let s = a.state.now in
    not_raised a.entry s (search rules) _ (raise_status a.entry s _ c.raisable.ensures c.if-not-raisable.false (rw c.if-entry.true))

pub returns-then-not-has_room : goal.returns-then-not-has_room
returns-then-not-has_room c =
    let a = c.args in
    let s = a.state.now in
    not_raised a.entry s (search rules) _
    (raise_full a.entry s _ c.raisable.ensures c.if-not-raisable.false (rw c.if-entry.false) (sym c.has_room.ensures ∙ c.if-not-has_room.true))

pub returns : goal.returns
returns c =
    let a = c.args in
    let s = a.state.now in
    raised a.entry s (search rules) _ (search rules)
    (raise_good a.entry s _ c.raisable.ensures c.if-not-raisable.false (rw c.if-entry.false) (sym c.has_room.ensures ∙ c.if-not-has_room.false))
    c.push.ensures
