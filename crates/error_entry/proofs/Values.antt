-- The numbers of an entry tell which it is.
-- Assumes nothing.
use mathlib.Core.Bool.{Bool, true, false}
use mathlib.Core.Path.{◌≡◌, refl}
use Rattle.types.specs.Modes.{mode_code, mode_in}
use Rattle.types.specs.declared.error_mode.ErrorEntryMode.{ErrorEntryMode}
use Rattle.types.specs.declared.error_mode.ErrorEntryMode.TheVariants.{Terminator, ErrorActive, ErrorCleared, EventOccurred}
use Rattle.error_entry.specs.Values.{as_number, flag_in, entry_numbers, entry_told, ValuesTell}
use Rattle.error_entry.specs.declared.ErrorEntry.{ErrorEntry}

pub flag_told_lem : (on : Bool) → flag_in (as_number on) ≡ on
flag_told_lem true = refl
flag_told_lem false = refl

mode_told : (m : ErrorEntryMode) → mode_in (mode_code m) ≡ m
unfolding mode_in
mode_told Terminator = refl
mode_told ErrorActive = refl
mode_told ErrorCleared = refl
mode_told EventOccurred = refl

entry_told_lem : (e : ErrorEntry) → entry_told (entry_numbers e) ≡ e
entry_told_lem e =
    let t = e.entry_type in
    rw (flag_told_lem t.is_status_entry, flag_told_lem t.send_to_queue, mode_told t.mode)

pub values_tell : ValuesTell
values_tell = record { entries = entry_told_lem }
