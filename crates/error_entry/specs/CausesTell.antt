-- 01's number and values of what reading an entry answers, and no two answers have the same.
-- Assumes nothing.
use Rattle.std.specs.Prelude.{◌≡◌, Result, Ok, Err}
use Rattle.types.specs.Causes.{row, cause_of}
use Rattle.types.specs.declared.hal.PowerlinkError.{PowerlinkError}
use Rattle.error_entry.specs.Entry.{entry_cause}
use Rattle.error_entry.specs.Values.{entry_numbers}
use Rattle.error_entry.specs.declared.ErrorEntry.{ErrorEntry}

pub record CausesTell : Type 0 where
  pub entry : (e : ErrorEntry) → entry_cause (Ok e) ≡ row 0 (entry_numbers e)
  pub no_entry : (e : PowerlinkError) → entry_cause (Err e) ≡ cause_of e
  pub apart : (a b : Result ErrorEntry PowerlinkError) → entry_cause a ≡ entry_cause b → a ≡ b
