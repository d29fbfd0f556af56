-- How many octets an answer has.
-- Assumes nothing.
use Prim.Native.Nat.{ℕ, ◌+◌, ◌*◌, ◌-◌}
use mathlib.Core.Path.{◌≡◌, refl}
use mathlib.Core.List.{List}
use native.Mathlib.Omega.{arith}
use lib.ListN.{length, length-append}
use Rattle.status_response.proofs.WriteLaws.{entries_length}
use Rattle.control.specs.ASnd.{asnd_bytes, asnd_section}
use Rattle.section.proofs.Sections.{padded_length}
use Rattle.types.specs.Header.{eth_bytes}
use Rattle.error_entry.specs.declared.ErrorEntry.{ErrorEntry}
use Rattle.frame.specs.Write.{frame_bytes}
use Rattle.status_response.specs.BitField.{field_bytes}
use Rattle.status_response.specs.Fields.{head_bytes}
use Rattle.status_response.specs.Steps.{status_bytes}
use Rattle.status_response.specs.declared.bit_field.StaticErrorBitField.{StaticErrorBitField}
use Rattle.status_response.specs.declared.fields.StatusFields.{StatusFields}
use Rattle.reporter.specs.Rules.{Head, answer_payload, answer_asnd, answer_frame}
use Rattle.reporter.specs.declared.AnswerFields.{AnswerFields}

front_length : (f : StatusFields) (field : StaticErrorBitField) → length (head_bytes f field) ≡ 14
unfolding head_bytes field_bytes
front_length f field = refl

pub status_length_lem : (f : StatusFields) (field : StaticErrorBitField) (es : List ErrorEntry) → length (status_bytes (head_bytes f field) es) ≡ 34 + 20 * length es
unfolding status_bytes
status_length_lem f field es = simp length-append (omega (arith, front_length f field, entries_length es))

pub payload_length : (f : AnswerFields) (h : Head) → length (answer_payload f h) ≡ 34 + 20 * length h.batch
unfolding answer_payload
payload_length f h = status_length_lem _ f.static_error_bit_field h.batch

-- 14 octets of the Ethernet header, 4 of the ASnd, the payload, and zeros up to 60
pub answer_octets : (f : AnswerFields) (h : Head) (n : ℕ) → length (answer_payload f h) ≡ n → length (answer_frame f h) ≡ 14 + (4 + n + (46 - (4 + n)))
unfolding answer_frame frame_bytes asnd_section eth_bytes
answer_octets f h n e =
    simp length-append (omega (arith, e, padded_length (asnd_bytes (answer_asnd f h.id).frame) (answer_payload f h)))
