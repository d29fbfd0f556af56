-- `bit_field::field_at` meets its contract.
-- Assumes nothing.
use mathlib.Core.Path.{◌∙◌}
use native.Mathlib.Omega.{arith}
use Rattle.status_response.proofs.Padded.{field_padded}
use Rattle.status_response.proofs.bit_field.field_at.Goals as goal

pub returns : goal.returns
returns c =
    c.field_in-2.ensures ∙ field_padded 8 _ _ (omega arith) c.put.ensures
