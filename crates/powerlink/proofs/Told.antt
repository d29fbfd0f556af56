-- What is told of a refusal, and of a code that names nothing.
-- Assumes nothing.
use Prim.Native.Nat.{ℕ}
use mathlib.Core.Bool.{Bool, true, false}
use mathlib.Core.Path.{◌≡◌, sym, ◌∙◌}
use Rattle.std.specs.Prelude.{Err}
use Rattle.types.specs.Causes.{cause_of, cause_number}
use Rattle.types.specs.Codes.{need}
use Rattle.types.specs.declared.hal.PowerlinkError.{PowerlinkError}
use Rattle.types.specs.declared.hal.PowerlinkError.TheVariants.{BufferTooShort}
use Rattle.section.specs.Write.{write_cause}
use Rattle.types.proofs.CausesTell.{not_0}
use Rattle.c_values.specs.Answers.{error_octet, octet_after, RowTold}

-- no value, and the octet that goes with the error
pub refused_told : (e : PowerlinkError) (r k o o' : ℕ) → r ≡ cause_number e → o' ≡ error_octet e o → RowTold (cause_of e) r k k o o'
refused_told e r k o o' er eo = record { cause = er; value = sym (not_0 e _ _); octet = eo ∙ sym (not_0 e _ _) }

-- 1, or the error of the code
pub unnamed_told : (fits : Bool) (e : PowerlinkError) (r k o o' : ℕ)
    → (r ≡ (write_cause (need fits (Err BufferTooShort) (Err e))).number) × (o' ≡ octet_after (need fits (Err BufferTooShort) (Err e)) o)
    → RowTold (write_cause (need fits (Err BufferTooShort) (Err e))) r k k o o'
unnamed_told true e r k o o' h = refused_told e r k o o' h.0 h.1
unnamed_told false e r k o o' h = refused_told BufferTooShort r k o o' h.0 h.1
