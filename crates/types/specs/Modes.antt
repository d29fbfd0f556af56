-- The modes of an error entry and their codes (EPSG DS 301, Table 96).
-- Assumes nothing.
use Rattle.std.specs.Prelude.{ℕ, ◌%◌, List, [], ◌∷◌, Result, Ok, Err}
use Rattle.types.specs.Codes.{decoded}
use Rattle.types.specs.declared.error_mode.ErrorEntryMode.{ErrorEntryMode}
use Rattle.types.specs.declared.error_mode.ErrorEntryMode.TheVariants.{Terminator, ErrorActive, ErrorCleared, EventOccurred}
use Rattle.types.specs.declared.error_mode.UnknownMode.{UnknownMode}

abbrev pub mode_code : ErrorEntryMode → ℕ
mode_code Terminator = 0
mode_code ErrorActive = 1
mode_code ErrorCleared = 2
mode_code EventOccurred = 3

-- a where the mode is that of an entry, and b where it is the terminator's
abbrev pub unless_terminator : {A : Type 0} → ErrorEntryMode → A → A → A
unless_terminator Terminator a b = b
unless_terminator ErrorActive a b = a
unless_terminator ErrorCleared a b = a
unless_terminator EventOccurred a b = a

abbrev pub modes : List ErrorEntryMode
modes = Terminator ∷ ErrorActive ∷ ErrorCleared ∷ EventOccurred ∷ []

-- the mode whose code is b, or b itself where it is the code of none
unfoldable pub mode_of : ℕ → Result ErrorEntryMode UnknownMode
mode_of b = decoded mode_code Ok (Err (record { 0 = b })) modes b

-- the mode in the two low bits of an octet
unfoldable pub mode_in : ℕ → ErrorEntryMode
mode_in b = decoded mode_code (λ m. m) EventOccurred modes (b % 4)
