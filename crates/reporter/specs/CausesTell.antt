-- 01's numbers for the answers of a reporter's calls, in 01's figures, and that number and values tell the answers apart.
-- Assumes nothing.
use Rattle.std.specs.Prelude.{ℕ, ◌≡◌, [], ◌∷◌, get_or, eqb, Result, Ok, Err}
use Rattle.types.specs.Causes.{Cause, row, cause_of, error_told}
use Rattle.types.specs.Codes.{pick}
use Rattle.types.specs.declared.hal.PowerlinkError.{PowerlinkError}
use Rattle.section.specs.Write.{write_cause}
use Rattle.reporter.specs.Rules.{new_cause, raise_cause, read_cause}
use Rattle.reporter.specs.declared.NewError.TheVariants.{IdOutOfRange}
use Rattle.reporter.specs.declared.RaiseError.TheVariants.{EntryInvalid, StatusEntry, QueueFull}
use Rattle.reporter.specs.declared.ReadOutcome.TheVariants.{Closed, Kept, Ignored}
use Rattle.reporter.specs.declared.RaiseError.{RaiseError}
use Rattle.reporter.specs.declared.NewError.{NewError}
use Rattle.reporter.specs.declared.ReadOutcome.{ReadOutcome}

-- ---- the answer that a row tells

abbrev pub new_told : Cause → Result Unit NewError
new_told c = pick (eqb c.number 0) (Ok tt) (Err IdOutOfRange)

abbrev pub raise_told : Cause → Result Unit RaiseError
raise_told c = pick (eqb c.number 0) (Ok tt) (pick (eqb c.number 8) (Err EntryInvalid) (pick (eqb c.number 23) (Err StatusEntry) (Err QueueFull)))

abbrev pub write_told : Cause → Result ℕ PowerlinkError
write_told c =
    pick (eqb c.number 0) (Ok (get_or c.returned 0 0)) (Err (error_told c.number (get_or c.returned 0 0)))

abbrev pub outcome_told : ℕ → ReadOutcome
outcome_told k = pick (eqb k 0) Ignored (pick (eqb k 1) Kept Closed)

abbrev pub read_told : Cause → Result ReadOutcome PowerlinkError
read_told c =
    pick (eqb c.number 0) (Ok (outcome_told (get_or c.returned 0 0))) (Err (error_told c.number (get_or c.returned 0 0)))

-- "a definition tells this paper's number and values for each of its cases"
pub record CausesTell : Type 0 where
  pub made : new_cause (Ok tt) ≡ row 0 []
  pub id_out_of_range : new_cause (Err IdOutOfRange) ≡ row 13 []
  pub raised : raise_cause (Ok tt) ≡ row 0 []
  pub entry_invalid : raise_cause (Err EntryInvalid) ≡ row 8 []
  pub status_entry : raise_cause (Err StatusEntry) ≡ row 23 []
  pub queue_full : raise_cause (Err QueueFull) ≡ row 9 []
  pub written : (n : ℕ) → write_cause (Ok n) ≡ row 0 (n ∷ [])
  pub not_written : (e : PowerlinkError) → write_cause (Err e) ≡ cause_of e
  pub ignored : read_cause (Ok Ignored) ≡ row 0 (0 ∷ [])
  pub kept : read_cause (Ok Kept) ≡ row 0 (1 ∷ [])
  pub closed : read_cause (Ok Closed) ≡ row 0 (2 ∷ [])
  pub refused : (e : PowerlinkError) → read_cause (Err e) ≡ cause_of e
  -- no two cases of an answer have the same
  pub new : (a b : Result Unit NewError) → new_cause a ≡ new_cause b → a ≡ b
  pub raise : (a b : Result Unit RaiseError) → raise_cause a ≡ raise_cause b → a ≡ b
  pub answer : (a b : Result ℕ PowerlinkError) → write_cause a ≡ write_cause b → a ≡ b
  pub read : (a b : Result ReadOutcome PowerlinkError) → read_cause a ≡ read_cause b → a ≡ b
