-- `collecting::powerlink_collector_request` meets its contract.
-- Assumes nothing.
use mathlib.Core.Path.{sym, ◌∙◌}
use Rattle.types.proofs.CausesTell.{not_0}
use Rattle.powerlink.proofs.Collectors.{asks_nobody, asks_none, asks_told}
use Rattle.powerlink.proofs.collecting.powerlink_collector_request.Goals as goal

pub returns-then-not-is_registered : goal.returns-then-not-is_registered
returns-then-not-is_registered c =
    asks_nobody _ _ _ _ _ (sym c.try_from.ensures.answer ∙ c.in-Err.is) _ _ _ (sym c.if-not-is_registered.true ∙ c.is_registered.ensures)

pub returns-else-not-is_registered : goal.returns-else-not-is_registered
returns-else-not-is_registered c =
    asks_none _ _ _ _ _ (sym c.try_from.ensures.answer ∙ c.in-Err.is) _ _ _ _ _ (sym c.if-not-is_registered.false ∙ c.is_registered.ensures) (c.unnamed.ensures.value, c.unnamed.ensures.octet_after)

pub returns-in-Ok-request : goal.returns-in-Ok-request
returns-in-Ok-request c =
    let q = c.in-Ok-request.is in
    asks_told _ _ _ _ (sym c.try_from.ensures.answer ∙ c.in-Ok.is) _ _ _ _ _ _ _ _ c.request.ensures (rw q) (rw q)

pub returns-in-Err-NotRegistered : goal.returns-in-Err-NotRegistered
returns-in-Err-NotRegistered c =
    asks_told _ _ _ _ (sym c.try_from.ensures.answer ∙ c.in-Ok.is) _ _ _ _ _ _ _ _ c.request.ensures (rw (c.in-Err-NotRegistered.is, c.in-Err-NotRegistered.field-0-is)) (rw (c.in-Err-NotRegistered.is, c.in-Err-NotRegistered.field-0-is))

pub returns-in-Err-Frame : goal.returns-in-Err-Frame
returns-in-Err-Frame c =
    asks_told _ _ _ _ (sym c.try_from.ensures.answer ∙ c.in-Ok.is) _ _ _ _ _ _ _ _ c.request.ensures (c.number.ensures ∙ rw (c.in-Err-Frame.is, c.in-Err-Frame.field-0-is)) (rw (c.in-Err-Frame.is, c.in-Err-Frame.field-0-is) (sym (not_0 c.in-Err-Frame.e _ _)))
