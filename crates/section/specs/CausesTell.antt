-- 01's number and values of what a writer answers, and no two answers have the same.
-- Assumes nothing.
use Rattle.std.specs.Prelude.{ℕ, ◌≡◌, [], ◌∷◌, Result, Ok, Err}
use Rattle.types.specs.Causes.{row, cause_of}
use Rattle.types.specs.declared.hal.PowerlinkError.{PowerlinkError}
use Rattle.section.specs.Write.{write_cause}

pub record CausesTell : Type 0 where
  pub written : (n : ℕ) → write_cause (Ok n) ≡ row 0 (n ∷ [])
  pub refused : (e : PowerlinkError) → write_cause (Err e) ≡ cause_of e
  pub apart : (a b : Result ℕ PowerlinkError) → write_cause a ≡ write_cause b → a ≡ b
