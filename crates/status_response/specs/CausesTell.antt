-- 01's numbers and values of what reading a StatusResponse and its error field answers: 0, or the error's, and no two errors have the same.
-- Assumes nothing.
use Rattle.std.specs.Prelude.{◌≡◌, [], Ok, Err}
use Rattle.types.specs.Causes.{row, cause_of}
use Rattle.types.specs.declared.hal.PowerlinkError.{PowerlinkError}
use Rattle.status_response.specs.BitField.{field_cause}
use Rattle.status_response.specs.Fields.{status_cause}
use Rattle.status_response.specs.declared.bit_field.RefusedErrorField.{RefusedErrorField}
use Rattle.status_response.specs.declared.bit_field.StaticErrorBitField.{StaticErrorBitField}
use Rattle.status_response.specs.declared.fields.StatusFields.{StatusFields}

pub record CausesTell : Type 0 where
  -- the fields of a StatusResponse are its values
  pub status : (f : StatusFields) → status_cause (Ok f) ≡ row 0 []
  pub no_status : (e : PowerlinkError) → status_cause (Err e) ≡ cause_of e
  pub statuses_apart : (d e : PowerlinkError) → status_cause (Err d) ≡ status_cause (Err e) → d ≡ e
  pub status_or_not : (f : StatusFields) (e : PowerlinkError) → status_cause (Ok f) ≡ status_cause (Err e) → ⊥
  -- and so is the error field
  pub error_field : (f : StaticErrorBitField) → field_cause (Ok f) ≡ row 0 []
  pub no_error_field : (x : RefusedErrorField) → field_cause (Err x) ≡ cause_of x.error
  pub error_fields_apart : (x y : RefusedErrorField) → field_cause (Err x) ≡ field_cause (Err y) → x.error ≡ y.error
  pub error_field_or_not : (f : StaticErrorBitField) (x : RefusedErrorField) → field_cause (Ok f) ≡ field_cause (Err x) → ⊥
