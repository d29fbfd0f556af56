-- A StatusResponse that is written is read back.
-- Assumes nothing.
use Prim.Native.Nat.{ℕ, ◌+◌, ◌≤◌}
use mathlib.Core.Path.{◌≡◌, refl, ap, ◌∙◌}
use mathlib.Core.Bool.{Bool, true, false}
use mathlib.Core.List.{List, ◌++◌}
use native.Mathlib.Omega.{arith}
use lib.ListN.{length, drop}
use lib.Seq.{take_all}
use borrow.Author.Tests.{le-leb}
use Rattle.octets.proofs.Elements.{elements, elements_are}
use Rattle.std.specs.Prelude.{Ok}
use Rattle.octets.specs.Numbers.{bit}
use Rattle.types.proofs.ReadBack.{state_known}
use Rattle.section.specs.Write.{at_bit}
use Rattle.error_entry.specs.declared.ErrorEntry.{ErrorEntry}
use Rattle.status_response.specs.BitField.{field_of, field_bytes}
use Rattle.status_response.specs.Fields.{en_bit, ec_bit, head_bytes, read_fields}
use Rattle.status_response.specs.ReadBack.{StatusReadsBack}
use Rattle.status_response.specs.Steps.{status_bytes}
use Rattle.status_response.specs.declared.bit_field.StaticErrorBitField.{StaticErrorBitField}
use Rattle.status_response.specs.declared.fields.StatusFields.{StatusFields}
use Rattle.types.proofs.PollBack.{poll_priority, poll_requests}
use Rattle.status_response.proofs.StepsBack.{steps_back, walk_back, entries_back}

-- the two flags of octet 0
en_back : (x y : Bool) → bit en_bit (at_bit en_bit x + at_bit ec_bit y) ≡ x
en_back true true = refl
en_back true false = refl
en_back false true = refl
en_back false false = refl

ec_back : (x y : Bool) → bit ec_bit (at_bit en_bit x + at_bit ec_bit y) ≡ y
ec_back true true = refl
ec_back true false = refl
ec_back false true = refl
ec_back false false = refl

module _ (f : StatusFields) (field : StaticErrorBitField) (es : List ErrorEntry) (behind : List ℕ) where
  fields_back : f.rs.0 ≤ 7 → read_fields (status_bytes (head_bytes f field) es ++ behind) ≡ Ok f
  unfolding read_fields status_bytes head_bytes field_bytes
  fields_back h =
      rw (
        le-leb 14 (length (status_bytes (head_bytes f field) es ++ behind)) (omega arith),
        state_known f.nmt_state,
        en_back f.en_flag f.ec_flag,
        ec_back f.en_flag f.ec_flag,
        poll_priority f.pr f.rs.0 h,
        poll_requests f.pr f.rs.0 h,
      )

  field_back : length field.specific_errors ≡ 7 → field_of (drop 6 (status_bytes (head_bytes f field) es ++ behind)) ≡ field
  unfolding field_of status_bytes head_bytes field_bytes
  field_back h =
      let s : List ℕ = field.specific_errors in
      let e : elements 7 0 s ≡ s = elements_are 7 0 s (omega arith) ∙ take_all 7 s (omega arith) in
      ap (λ (l : List ℕ). record { error_register = field.error_register; specific_errors = l }) e

pub status_reads_back : StatusReadsBack
unfolding head_bytes field_bytes
status_reads_back =
    record {
      steps = steps_back;
      walk = walk_back;
      fields = fields_back;
      field = field_back;
      entries = λ f field es behind each. entries_back behind (head_bytes f field) es refl each;
    }
