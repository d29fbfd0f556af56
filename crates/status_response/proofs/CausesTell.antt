-- The answers of reading can be read back from their numbers and values.
-- Assumes nothing.
use mathlib.Core.Path.{refl}
use mathlib.Mathlib.Logic.Function.Defs.{LeftInverse-Injective}
use Rattle.types.specs.Causes.{cause_of}
use Rattle.types.proofs.CausesTell.{error_told_lem, error_of, refused_not_0}
use Rattle.status_response.specs.CausesTell.{CausesTell}

pub causes_tell : CausesTell
causes_tell =
    record {
      status = λ f. refl;
      no_status = λ e. refl;
      statuses_apart = LeftInverse-Injective error_of cause_of (λ e. error_told_lem e 0);
      status_or_not = λ f e. refused_not_0 e _;
      error_field = λ f. refl;
      no_error_field = λ x. refl;
      error_fields_apart = λ x y. LeftInverse-Injective error_of cause_of (λ e. error_told_lem e 0) x.error y.error;
      error_field_or_not = λ f x. refused_not_0 x.error _;
    }
