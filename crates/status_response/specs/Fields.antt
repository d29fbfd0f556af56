-- The 14 octets in front of the entries of a StatusResponse (EPSG DS 301, 7.3.3.3.1, Table 136).
-- Assumes nothing.
use Rattle.std.specs.Prelude.{ℕ, ◌+◌, List, [], ◌∷◌, ◌++◌, ◌≡◌, length, get_or, drop, leb, Result, Ok, Err}
use Rattle.octets.specs.Numbers.{bit}
use Rattle.types.specs.CauseNumbers.{too_short}
use Rattle.types.specs.Causes.{Cause, row, cause_of}
use Rattle.types.specs.Codes.{need}
use Rattle.types.specs.PollFlags.{poll_octet, priority_at, requests_at}
use Rattle.types.specs.States.{state_code, state_of}
use Rattle.types.specs.declared.hal.PowerlinkError.TheVariants.{BufferTooShort}
use Rattle.types.specs.declared.states.NmtState.{NmtState}
use Rattle.section.specs.Write.{at_bit}
use Rattle.status_response.specs.BitField.{field_of, field_bytes, read_cause, beside_cause}
use Rattle.status_response.specs.declared.bit_field.RefusedErrorField.{RefusedErrorField}
use Rattle.status_response.specs.declared.bit_field.StaticErrorBitField.{StaticErrorBitField}
use Rattle.status_response.specs.declared.fields.DeserializedStatus.{DeserializedStatus}
use Rattle.status_response.specs.declared.fields.StatusFields.{StatusFields}
use Rattle.types.specs.declared.hal.PowerlinkError.{PowerlinkError}

-- the octets in front
abbrev pub front_length : ℕ
front_length = 14

-- the bits of EN and EC in octet 0, as 01 has them (docs/DIFFERENCES.md: others read bits 4 and 3)
abbrev pub en_bit : ℕ
en_bit = 5

abbrev pub ec_bit : ℕ
ec_bit = 4

-- octet 0 EN and EC, 1 pr and rs as in PRes, 2 state
abbrev pub fields_of : List ℕ → NmtState → StatusFields
fields_of s state =
    record {
      en_flag = bit en_bit (get_or s 0 0);
      ec_flag = bit ec_bit (get_or s 0 0);
      pr = priority_at (get_or s 1 0);
      rs = requests_at (get_or s 1 0);
      nmt_state = state;
    }

abbrev pub status_by_state : List ℕ → Result NmtState PowerlinkError → Result StatusFields PowerlinkError
status_by_state s (Err e) = Err e
status_by_state s (Ok state) = Ok (fields_of s state)

-- all octets are needed, then a state
unfoldable pub read_fields : List ℕ → Result StatusFields PowerlinkError
read_fields s = need (leb front_length (length s)) (Err BufferTooShort) (status_by_state s (state_of (get_or s 2 0)))

-- 01's number and values for each case: 0 for what is read
abbrev pub status_cause : Result StatusFields PowerlinkError → Cause
status_cause r = read_cause r

-- that row, by the state that was read
abbrev pub row_by_state : Result NmtState PowerlinkError → Cause
row_by_state (Err e) = cause_of e
row_by_state (Ok state) = row 0 []

abbrev pub fields_row : List ℕ → Cause
fields_row s = need (leb front_length (length s)) (row too_short []) (row_by_state (state_of (get_or s 2 0)))

-- r is what reading the fields from the octets s answers, with 01's number and values
pub record ReadsFields (s : List ℕ) (r : Result StatusFields PowerlinkError) : Type 0 where
  pub answer : r ≡ read_fields s
  pub cause : status_cause r ≡ fields_row s

-- the fields, or why they are refused, with an error field beside them
abbrev pub with_field : StaticErrorBitField → Result StatusFields PowerlinkError → Result DeserializedStatus RefusedErrorField
with_field field (Ok f) = Ok (record { fields = f; static_error_bit_field = field })
with_field field (Err e) = Err (record { field = field; error = e })

-- octets 6 to 13 are the error field, those past the end counting as 0
abbrev pub read_status : List ℕ → Result DeserializedStatus RefusedErrorField
read_status s = with_field (field_of (drop 6 s)) (read_fields s)

-- as `ReadsFields`, with the error field
pub record ReadsStatusResponse (s : List ℕ) (r : Result DeserializedStatus RefusedErrorField) : Type 0 where
  pub answer : r ≡ read_status s
  pub cause : beside_cause r ≡ fields_row s

-- octets 3 to 5 are reserved
unfoldable pub head_bytes : StatusFields → StaticErrorBitField → List ℕ
head_bytes f field =
    ((at_bit en_bit f.en_flag + at_bit ec_bit f.ec_flag) ∷ poll_octet f.pr f.rs.0 ∷ state_code f.nmt_state ∷ 0 ∷ 0 ∷ 0 ∷ [])
    ++ field_bytes field
