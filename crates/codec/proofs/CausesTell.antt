-- The answers of reading can be read back from their numbers and values.
-- Assumes nothing.
use mathlib.Core.Path.{◌≡◌, refl, ap}
use lib.ListN.{get_or}
use mathlib.Mathlib.Logic.Function.Defs.{LeftInverse-Injective}
use Rattle.std.specs.Prelude.{Result, Ok, Err}
use Rattle.types.specs.Causes.{Cause, cause_of}
use Rattle.types.specs.Messages.{message_of}
use Rattle.types.proofs.CausesTell.{error_told_lem, error_of, refused_not_0, refused_or, refused_back}
use Rattle.types.proofs.ReadBack.{message_known}
use Rattle.codec.specs.CausesTell.{CausesTell}
use Rattle.codec.specs.Headers.{pl_header_cause}
use Rattle.types.specs.declared.message_type.MessageType.{MessageType}
use Rattle.types.specs.declared.hal.PowerlinkError.{PowerlinkError}
use Rattle.codec.specs.declared.headers.PlHeader.{PlHeader}

-- the header that three values are
abbrev pub pl_of : Cause → Result MessageType PowerlinkError → Result PlHeader PowerlinkError
pl_of c (Ok m) =
    Ok (record { message_type = m; destination = record { 0 = get_or c.returned 1 0 }; source = record { 0 = get_or c.returned 2 0 } })
pl_of c (Err e) = Err e

pl_back : Cause → Result PlHeader PowerlinkError
unfolding message_of
pl_back c = refused_or Err (pl_of c (message_of (get_or c.returned 0 0))) c

pl_back_lem : (a : Result PlHeader PowerlinkError) → pl_back (pl_header_cause a) ≡ a
unfolding pl_back
pl_back_lem (Ok h) = ap (pl_of (pl_header_cause (Ok h))) (message_known h.message_type)
pl_back_lem (Err e) = refused_back Err _ e

pub causes_tell : CausesTell
causes_tell =
    record {
      frame = λ f. refl;
      no_frame = λ e. refl;
      frames_apart = LeftInverse-Injective error_of cause_of (λ e. error_told_lem e 0);
      frame_or_not = λ f e. refused_not_0 e _;
      eth_header = λ h. refl;
      no_eth_header = λ x. refl;
      eth_headers_apart = λ x y. LeftInverse-Injective error_of cause_of (λ e. error_told_lem e 0) x.error y.error;
      eth_header_or_not = λ h x. refused_not_0 x.error _;
      pl_header = λ h. refl;
      no_pl_header = λ e. refl;
      pl_headers_apart = LeftInverse-Injective pl_back pl_header_cause pl_back_lem;
    }
