-- `status::powerlink_deserialize_status` meets its contract.
-- Assumes nothing.
use mathlib.Core.Path.{sym, ap, ◌∙◌}
use Rattle.status_response.specs.BitField.{field_of, field_bytes}
use Rattle.powerlink.proofs.Readers.{status_fields_lem}
use Rattle.powerlink.proofs.States.{state_told}
use Rattle.powerlink.proofs.status.powerlink_deserialize_status.Goals as goal

pub returns-in-Ok : goal.returns-in-Ok
returns-in-Ok c =
    let read = sym c.in-Ok.is ∙ c.read_fields.ensures.answer in
    status_fields_lem _ _ _ _ _ _ _ read (state_told _ _ read _ c.status_values-numbers.ensures) (c.to_bytes.ensures ∙ ap field_bytes (c.field_at.ensures ∙ ap field_of c.tail.ensures.octets))
