-- 01's numbers for the answers of a collector's calls, in 01's figures, and that number and values tell the answers apart.
-- Assumes nothing.
use Rattle.std.specs.Prelude.{ℕ, ◌≡◌, true, false, [], ◌∷◌, get_or, eqb, ltb, Result, Ok, Err, Option, Some, None}
use Rattle.types.specs.Causes.{Cause, row, cause_of, error_told}
use Rattle.types.specs.Codes.{pick}
use Rattle.types.specs.declared.hal.PowerlinkError.{PowerlinkError}
use Rattle.error_entry.specs.Values.{flag_in, entry_numbers, entry_told}
use Rattle.error_entry.specs.declared.ErrorEntry.{ErrorEntry}
use Rattle.collector.specs.Rules.{register_cause, read_cause, flags_cause, request_cause, take_cause}
use Rattle.collector.specs.declared.ReadError.TheVariants.{Frame, NotStatusResponse, NotRegistered, BookFull}
use Rattle.collector.specs.declared.ReadOutcome.TheVariants.{Booked, Known}
use Rattle.collector.specs.declared.RegisterError.TheVariants.{IdOutOfRange, IdRegistered, Full}
use Rattle.collector.specs.declared.RequestError.TheVariants as requesting
use Rattle.collector.specs.declared.TakeError.TheVariants as taking
use Rattle.collector.specs.declared.RegisterError.{RegisterError}
use Rattle.collector.specs.declared.RequestError.{RequestError}
use Rattle.collector.specs.declared.TakeError.{TakeError}
use Rattle.control.specs.declared.soa.SoAFlags.{SoAFlags}
use Rattle.collector.specs.declared.ReadOutcome.{ReadOutcome}
use Rattle.collector.specs.declared.ReadError.{ReadError}

-- ---- the answer that a row tells

abbrev pub register_told : Cause → Result Unit RegisterError
register_told c =
    pick (eqb c.number 0) (Ok tt) (pick (eqb c.number 13) (Err IdOutOfRange) (pick (eqb c.number 14) (Err IdRegistered) (Err Full)))

abbrev pub read_told : Cause → Result ReadOutcome ReadError
read_told c =
    pick (eqb c.number 0) (pick (eqb (get_or c.returned 0 0) 0) (Ok Known) (Ok Booked))
    (pick (ltb c.number 8) (Err (Frame (error_told c.number (get_or c.returned 0 0))))
    (pick (eqb c.number 10) (Err NotStatusResponse) (pick (eqb c.number 11) (Err NotRegistered) (Err BookFull))))

abbrev pub flags_told : Cause → Option SoAFlags
flags_told c =
    pick (eqb c.number 0) (Some (record { ea = flag_in (get_or c.returned 0 0); er = flag_in (get_or c.returned 1 0) }))
    None

abbrev pub request_told : Cause → Result ℕ RequestError
request_told c =
    pick (eqb c.number 0) (Ok (get_or c.returned 0 0))
    (pick (ltb c.number 8) (Err (requesting.Frame (error_told c.number (get_or c.returned 0 0)))) (Err requesting.NotRegistered))

abbrev pub take_told : Cause → Result ErrorEntry TakeError
take_told c =
    pick (eqb c.number 0) (Ok (entry_told c.returned))
    (pick (eqb c.number 11) (Err taking.NotRegistered) (Err taking.NothingBooked))

-- "a definition tells this paper's number and values for each of its cases"
pub record CausesTell : Type 0 where
  pub registered : register_cause (Ok tt) ≡ row 0 []
  pub id_out_of_range : register_cause (Err IdOutOfRange) ≡ row 13 []
  pub id_registered : register_cause (Err IdRegistered) ≡ row 14 []
  pub full : register_cause (Err Full) ≡ row 15 []
  pub known : read_cause (Ok Known) ≡ row 0 (0 ∷ [])
  pub booked : read_cause (Ok Booked) ≡ row 0 (1 ∷ [])
  pub refused : (e : PowerlinkError) → read_cause (Err (Frame e)) ≡ cause_of e
  pub not_status_response : read_cause (Err NotStatusResponse) ≡ row 10 []
  pub read_not_registered : read_cause (Err NotRegistered) ≡ row 11 []
  pub book_full : read_cause (Err BookFull) ≡ row 12 []
  pub ea_and_er : flags_cause (Some (record { ea = true; er = true })) ≡ row 0 (1 ∷ 1 ∷ [])
  pub ea_alone : flags_cause (Some (record { ea = true; er = false })) ≡ row 0 (1 ∷ 0 ∷ [])
  pub er_alone : flags_cause (Some (record { ea = false; er = true })) ≡ row 0 (0 ∷ 1 ∷ [])
  pub neither : flags_cause (Some (record { ea = false; er = false })) ≡ row 0 (0 ∷ 0 ∷ [])
  pub flags_not_registered : flags_cause None ≡ row 11 []
  pub written : (n : ℕ) → request_cause (Ok n) ≡ row 0 (n ∷ [])
  pub request_not_registered : request_cause (Err requesting.NotRegistered) ≡ row 11 []
  pub not_written : (e : PowerlinkError) → request_cause (Err (requesting.Frame e)) ≡ cause_of e
  pub taken : (e : ErrorEntry) → take_cause (Ok e) ≡ row 0 (entry_numbers e)
  pub take_not_registered : take_cause (Err taking.NotRegistered) ≡ row 11 []
  pub nothing_booked : take_cause (Err taking.NothingBooked) ≡ row 16 []
  -- no two cases of an answer have the same
  pub register : (a b : Result Unit RegisterError) → register_cause a ≡ register_cause b → a ≡ b
  pub read : (a b : Result ReadOutcome ReadError) → read_cause a ≡ read_cause b → a ≡ b
  pub flags : (a b : Option SoAFlags) → flags_cause a ≡ flags_cause b → a ≡ b
  pub request : (a b : Result ℕ RequestError) → request_cause a ≡ request_cause b → a ≡ b
  pub take : (a b : Result ErrorEntry TakeError) → take_cause a ≡ take_cause b → a ≡ b
