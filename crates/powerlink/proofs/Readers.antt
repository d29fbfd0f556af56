-- What a caller of a reader is told, from what the reader answers.
-- Assumes nothing.
use Prim.Native.Nat.{ℕ}
use mathlib.Core.Path.{◌≡◌, sym, ap, ◌∙◌}
use mathlib.Core.List.{List}
use mathlib.Core.Bool.{true≢false}
use lib.ListN.{drop}
use Rattle.std.specs.Prelude.{Result, Ok, Err}
use Rattle.types.specs.declared.hal.PowerlinkError.{PowerlinkError}
use Rattle.frame.specs.declared.PowerlinkFrame.{PowerlinkFrame}
use Rattle.codec.specs.Frame.{place_in_frame}
use Rattle.status_response.specs.BitField.{field_of, field_bytes}
use Rattle.status_response.specs.Fields.{read_fields, read_status, with_field}
use Rattle.status_response.specs.declared.bit_field.StaticErrorBitField.{StaticErrorBitField}
use Rattle.status_response.specs.declared.fields.DeserializedStatus.{DeserializedStatus}
use Rattle.status_response.specs.declared.fields.StatusFields.{StatusFields}
use Rattle.c_values.specs.Values.{frame_numbers, status_numbers}
use Rattle.powerlink.specs.Reading.{SectionRead, StatusRead}

module _ (a : Result PowerlinkFrame PowerlinkError) (s v : List ℕ) where
  pub section_frame : (v' : List ℕ) (o : ℕ) (x : PowerlinkFrame) → Ok x ≡ a → v' ≡ frame_numbers x (place_in_frame x s) → SectionRead a s 0 v v' o o
  section_frame v' o x q ev = record { cause = rw (← q); values = rw (← q) ev; octet = rw (← q) }

fields_read : (field : StaticErrorBitField) (a : Result StatusFields PowerlinkError) (d : DeserializedStatus) → with_field field a ≡ Ok d
    → (a ≡ Ok d.fields) × (field ≡ d.static_error_bit_field)
fields_read field (Ok f) d q =
    let same : record { fields = f; static_error_bit_field = field } ≡ d = cc in
    (ap (λ (x : DeserializedStatus). Ok x.fields) same, ap (λ (x : DeserializedStatus). x.static_error_bit_field) same)
fields_read field (Err e) d q = absurd (true≢false cc)

pub read_in : (s : List ℕ) (d : DeserializedStatus) → read_status s ≡ Ok d → Ok d.fields ≡ read_fields s
read_in s d q = sym (fields_read _ (read_fields s) d q).0

module _ (s v g : List ℕ) where
  pub status_fields_lem : (v' g' : List ℕ) (o : ℕ) (f : StatusFields) → Ok f ≡ read_fields s
      → v' ≡ status_numbers f → g' ≡ field_bytes (field_of (drop 6 s)) → StatusRead s 0 v v' g g' o o
  status_fields_lem v' g' o f q ev eg = record { cause = rw (← q); values = rw (← q) ev; field = rw (← q) eg; octet = rw (← q) }

  -- the same of the two readings joined
  pub status_read_lem : (v' g' : List ℕ) (o : ℕ) (d : DeserializedStatus) → read_status s ≡ Ok d
      → v' ≡ status_numbers d.fields → g' ≡ field_bytes d.static_error_bit_field → StatusRead s 0 v v' g g' o o
  status_read_lem v' g' o d q ev eg =
      status_fields_lem v' g' o d.fields (read_in s d q) ev (eg ∙ ap field_bytes (sym (fields_read _ (read_fields s) d q).1))
