-- An entry as numbers, and back: what goes with 01's numbers, to callers who have no other form of it.
-- Assumes nothing.
use Rattle.std.specs.Prelude.{ℕ, Bool, ◌≡◌, List, [], ◌∷◌, get_or, eqb}
use Rattle.types.specs.Codes.{pick}
use Rattle.types.specs.Modes.{mode_code, mode_in}
use Rattle.error_entry.specs.declared.ErrorEntry.{ErrorEntry}

-- a flag is 1 or 0
abbrev pub as_number : Bool → ℕ
as_number on = pick on 1 0

abbrev pub flag_in : ℕ → Bool
flag_in n = eqb n 1

-- status entry, send to queue, mode, profile, code, seconds, nanoseconds, information
abbrev pub entry_numbers : ErrorEntry → List ℕ
entry_numbers e =
    as_number e.entry_type.is_status_entry ∷ as_number e.entry_type.send_to_queue ∷ mode_code e.entry_type.mode
    ∷ e.entry_type.profile ∷ e.error_code ∷ e.timestamp.seconds ∷ e.timestamp.nanoseconds ∷ e.additional_information ∷ []

-- the entry that has these numbers
abbrev pub entry_told : List ℕ → ErrorEntry
entry_told ns =
    record {
      entry_type = record {
        is_status_entry = flag_in (get_or ns 0 0);
        send_to_queue = flag_in (get_or ns 1 0);
        mode = mode_in (get_or ns 2 0);
        profile = get_or ns 3 0;
      };
      error_code = get_or ns 4 0;
      timestamp = record { seconds = get_or ns 5 0; nanoseconds = get_or ns 6 0 };
      additional_information = get_or ns 7 0;
    }

pub record ValuesTell : Type 0 where
  pub entries : (e : ErrorEntry) → entry_told (entry_numbers e) ≡ e
