-- Number and values of an answer tell which it is.
-- Assumes nothing.
use mathlib.Core.Path.{◌≡◌, refl, ap, ◌∙◌}
use mathlib.Mathlib.Logic.Function.Defs.{LeftInverse-Injective}
use Rattle.std.specs.Prelude.{Result, Ok, Err, ℕ}
use Rattle.section.specs.Write.{write_cause}
use Rattle.types.proofs.CausesTell.{not_0, error_told_lem}
use Rattle.reporter.specs.CausesTell.{new_told, raise_told, write_told, read_told, CausesTell}
use Rattle.reporter.specs.Rules.{new_cause, raise_cause, read_cause}
use Rattle.reporter.specs.declared.NewError.TheVariants.{IdOutOfRange}
use Rattle.reporter.specs.declared.RaiseError.TheVariants.{EntryInvalid, StatusEntry, QueueFull}
use Rattle.reporter.specs.declared.ReadOutcome.TheVariants.{Closed, Kept, Ignored}
use Rattle.types.specs.declared.hal.PowerlinkError.{PowerlinkError}
use Rattle.reporter.specs.declared.RaiseError.{RaiseError}
use Rattle.reporter.specs.declared.NewError.{NewError}
use Rattle.reporter.specs.declared.ReadOutcome.{ReadOutcome}

pub new_told_lem : (a : Result Unit NewError) → new_told (new_cause a) ≡ a
new_told_lem (Ok _) = refl
new_told_lem (Err IdOutOfRange) = refl

pub raise_told_lem : (a : Result Unit RaiseError) → raise_told (raise_cause a) ≡ a
raise_told_lem (Ok _) = refl
raise_told_lem (Err EntryInvalid) = refl
raise_told_lem (Err StatusEntry) = refl
raise_told_lem (Err QueueFull) = refl

pub write_told_lem : (a : Result ℕ PowerlinkError) → write_told (write_cause a) ≡ a
write_told_lem (Ok n) = refl
write_told_lem (Err e) = not_0 e _ _ ∙ ap Err (error_told_lem e 0)

pub read_told_lem : (a : Result ReadOutcome PowerlinkError) → read_told (read_cause a) ≡ a
read_told_lem (Ok Closed) = cc
read_told_lem (Ok Kept) = cc
read_told_lem (Ok Ignored) = cc
read_told_lem (Err e) = not_0 e _ _ ∙ ap Err (error_told_lem e 0)

pub causes_tell : CausesTell
causes_tell =
    record {
      made = refl;
      id_out_of_range = refl;
      raised = refl;
      entry_invalid = refl;
      status_entry = refl;
      queue_full = refl;
      written = λ n. refl;
      not_written = λ e. refl;
      ignored = refl;
      kept = refl;
      closed = refl;
      refused = λ e. refl;
      new = LeftInverse-Injective new_told new_cause new_told_lem;
      raise = LeftInverse-Injective raise_told raise_cause raise_told_lem;
      answer = LeftInverse-Injective write_told write_cause write_told_lem;
      read = LeftInverse-Injective read_told read_cause read_told_lem;
    }
