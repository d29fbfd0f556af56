-- Number and values of an answer tell which it is.
-- Assumes nothing.
use mathlib.Core.Path.{◌≡◌, refl, ap, ◌∙◌}
use mathlib.Mathlib.Logic.Function.Defs.{LeftInverse-Injective}
use Rattle.std.specs.Prelude.{Result, Ok, Err, Option, Some, None, ℕ}
use Rattle.types.specs.declared.hal.PowerlinkError.{PowerlinkError}
use Rattle.types.proofs.CausesTell.{not_0, below_8, error_told_lem}
use Rattle.error_entry.proofs.Values.{flag_told_lem, values_tell}
use Rattle.collector.specs.CausesTell.{register_told, read_told, flags_told, request_told, take_told, CausesTell}
use Rattle.collector.specs.Rules.{register_cause, read_cause, flags_cause, request_cause, take_cause}
use Rattle.collector.specs.declared.ReadError.TheVariants.{Frame, NotStatusResponse, NotRegistered, BookFull}
use Rattle.collector.specs.declared.ReadOutcome.TheVariants.{Booked, Known}
use Rattle.collector.specs.declared.RegisterError.TheVariants.{IdOutOfRange, IdRegistered, Full}
use Rattle.collector.specs.declared.RequestError.TheVariants as requesting
use Rattle.collector.specs.declared.TakeError.TheVariants as taking
use Rattle.collector.specs.declared.RegisterError.{RegisterError}
use Rattle.collector.specs.declared.RequestError.{RequestError}
use Rattle.error_entry.specs.declared.ErrorEntry.{ErrorEntry}
use Rattle.collector.specs.declared.TakeError.{TakeError}
use Rattle.control.specs.declared.soa.SoAFlags.{SoAFlags}
use Rattle.collector.specs.declared.ReadOutcome.{ReadOutcome}
use Rattle.collector.specs.declared.ReadError.{ReadError}

pub register_told_lem : (a : Result Unit RegisterError) → register_told (register_cause a) ≡ a
register_told_lem (Ok _) = refl
register_told_lem (Err IdOutOfRange) = refl
register_told_lem (Err IdRegistered) = refl
register_told_lem (Err Full) = refl

pub read_told_lem : (a : Result ReadOutcome ReadError) → read_told (read_cause a) ≡ a
read_told_lem (Ok Booked) = cc
read_told_lem (Ok Known) = cc
read_told_lem (Err (Frame e)) = not_0 e _ _ ∙ below_8 e _ _ ∙ ap (λ (x : PowerlinkError). Err (Frame x)) (error_told_lem e 0)
read_told_lem (Err NotStatusResponse) = cc
read_told_lem (Err NotRegistered) = cc
read_told_lem (Err BookFull) = cc

pub flags_told_lem : (a : Option SoAFlags) → flags_told (flags_cause a) ≡ a
flags_told_lem (Some f) = rw (flag_told_lem f.ea, flag_told_lem f.er)
flags_told_lem None = refl

pub request_told_lem : (a : Result ℕ RequestError) → request_told (request_cause a) ≡ a
request_told_lem (Ok n) = refl
request_told_lem (Err requesting.NotRegistered) = refl
request_told_lem (Err (requesting.Frame e)) = not_0 e _ _ ∙ below_8 e _ _ ∙ ap (λ (x : PowerlinkError). Err (requesting.Frame x)) (error_told_lem e 0)

pub take_told_lem : (a : Result ErrorEntry TakeError) → take_told (take_cause a) ≡ a
take_told_lem (Ok e) = ap Ok (values_tell.entries e)
take_told_lem (Err taking.NotRegistered) = refl
take_told_lem (Err taking.NothingBooked) = refl

pub causes_tell : CausesTell
causes_tell =
    record {
      registered = refl;
      id_out_of_range = refl;
      id_registered = refl;
      full = refl;
      known = refl;
      booked = refl;
      refused = λ e. refl;
      not_status_response = refl;
      read_not_registered = refl;
      book_full = refl;
      ea_and_er = refl;
      ea_alone = refl;
      er_alone = refl;
      neither = refl;
      flags_not_registered = refl;
      written = λ n. refl;
      request_not_registered = refl;
      not_written = λ e. refl;
      taken = λ e. refl;
      take_not_registered = refl;
      nothing_booked = refl;
      register = LeftInverse-Injective register_told register_cause register_told_lem;
      read = LeftInverse-Injective read_told read_cause read_told_lem;
      flags = LeftInverse-Injective flags_told flags_cause flags_told_lem;
      request = LeftInverse-Injective request_told request_cause request_told_lem;
      take = LeftInverse-Injective take_told take_cause take_told_lem;
    }
