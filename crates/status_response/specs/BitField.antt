-- The static error bit field (EPSG DS 301, 6.5.8.1): octet 0 error register, 1 to 7 specific errors.
-- Assumes nothing.
use Rattle.std.specs.Prelude.{ℕ, List, [], ◌∷◌, ◌≡◌, length, get_or, leb, Result, Ok, Err}
use Rattle.types.specs.CauseNumbers.{too_short}
use Rattle.types.specs.Causes.{Cause, row, cause_of}
use Rattle.types.specs.Codes.{need}
use Rattle.types.specs.declared.hal.PowerlinkError.TheVariants.{BufferTooShort}
use Rattle.types.specs.declared.hal.PowerlinkError.{PowerlinkError}
use Rattle.status_response.specs.declared.bit_field.RefusedErrorField.{RefusedErrorField}
use Rattle.status_response.specs.declared.bit_field.StaticErrorBitField.{StaticErrorBitField}

-- octets past the end count as 0
unfoldable pub field_of : List ℕ → StaticErrorBitField
field_of s =
    record {
      error_register = get_or s 0 0;
      specific_errors = get_or s 1 0 ∷ get_or s 2 0 ∷ get_or s 3 0 ∷ get_or s 4 0 ∷ get_or s 5 0 ∷ get_or s 6 0 ∷ get_or s 7 0 ∷ [];
    }

unfoldable pub field_bytes : StaticErrorBitField → List ℕ
field_bytes f =
    f.error_register ∷ get_or f.specific_errors 0 0 ∷ get_or f.specific_errors 1 0 ∷ get_or f.specific_errors 2 0
    ∷ get_or f.specific_errors 3 0 ∷ get_or f.specific_errors 4 0 ∷ get_or f.specific_errors 5 0
    ∷ get_or f.specific_errors 6 0 ∷ []

-- 8 octets are needed; beside a refusal stands the field that the octets give
abbrev pub read_field : List ℕ → Result StaticErrorBitField RefusedErrorField
read_field s = need (leb 8 (length s)) (Err (record { field = field_of s; error = BufferTooShort })) (Ok (field_of s))

-- 01's number and values for each case: 0 for what is read
abbrev pub read_cause : {A : Type 0} → Result A PowerlinkError → Cause
read_cause (Ok x) = row 0 []
read_cause (Err e) = cause_of e

-- the same where an error field stands beside a refusal
abbrev pub beside_cause : {A : Type 0} → Result A RefusedErrorField → Cause
beside_cause (Ok x) = row 0 []
beside_cause (Err x) = cause_of x.error

abbrev pub field_cause : Result StaticErrorBitField RefusedErrorField → Cause
field_cause r = beside_cause r

-- r is what reading the error field from the octets s answers, with 01's number
pub record ReadsField (s : List ℕ) (r : Result StaticErrorBitField RefusedErrorField) : Type 0 where
  pub answer : r ≡ read_field s
  pub cause : field_cause r ≡ need (leb 8 (length s)) (row too_short []) (row 0 [])
