-- The line of 01, "Lines to check", that is marked P and speaks of flags: "pr 7, rs 7: 3Fh". The octet is octet 5 of a PRes and octet 1
-- of a StatusResponse's payload, whatever else either holds.
-- Assumes nothing.
use Rattle.std.specs.Prelude.{ℕ, ◌≡◌, List, get_or, Ok}
use Rattle.types.specs.declared.poll_flags.PRFlag.{PRFlag}
use Rattle.types.specs.declared.poll_flags.PRFlag.TheVariants.{PrioNmtRequest}
use Rattle.types.specs.declared.poll_flags.RSFlag.{RSFlag}
use Rattle.poll.specs.PRes.{pres_section}
use Rattle.poll.specs.declared.pres.PResFrame.{PResFrame}
use Rattle.frame.specs.declared.PowerlinkFrame.TheVariants.{PRes}
use Rattle.codec.specs.Frame.{read_section}
use Rattle.error_entry.specs.declared.ErrorEntry.{ErrorEntry}
use Rattle.status_response.specs.Fields.{head_bytes, read_fields}
use Rattle.status_response.specs.Steps.{status_bytes}
use Rattle.status_response.specs.declared.bit_field.StaticErrorBitField.{StaticErrorBitField}
use Rattle.status_response.specs.declared.fields.StatusFields.{StatusFields}

-- "pr 7, rs 7"
pub record AllSet (pr : PRFlag) (rs : RSFlag) : Type 0 where
  pub priority : pr ≡ PrioNmtRequest
  pub requests : rs.0 ≡ 7

-- "3Fh"
abbrev pub all_set_octet : ℕ
all_set_octet = 0x3F

-- where the octet stands in a PRes section, and in a StatusResponse's payload
abbrev pub pres_poll_at : ℕ
pres_poll_at = 5

abbrev pub status_poll_at : ℕ
status_poll_at = 1

-- written so, and read so where it is read at all
pub record FlagLineHolds : Type 0 where
  pub pres_written : (f : PResFrame) (payload : List ℕ) → AllSet f.flags.pr f.flags.rs
      → get_or (pres_section f payload) pres_poll_at 0 ≡ all_set_octet
  pub pres_read : (services s : List ℕ) (f : PResFrame) → read_section services s ≡ Ok (PRes f) → get_or s pres_poll_at 0 ≡ all_set_octet
      → AllSet f.flags.pr f.flags.rs
  pub status_written : (f : StatusFields) (field : StaticErrorBitField) (es : List ErrorEntry) → AllSet f.pr f.rs
      → get_or (status_bytes (head_bytes f field) es) status_poll_at 0 ≡ all_set_octet
  pub status_read : (s : List ℕ) (f : StatusFields) → read_fields s ≡ Ok f → get_or s status_poll_at 0 ≡ all_set_octet → AllSet f.pr f.rs
