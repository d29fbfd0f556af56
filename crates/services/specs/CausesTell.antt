-- 02's number for each answer of loading a table, in 02's figures, and no two answers have the same.
-- Assumes nothing.
use Rattle.std.specs.Prelude.{◌≡◌, [], Result, Ok, Err}
use Rattle.types.specs.Causes.{row}
use Rattle.services.specs.Load.{load_cause}
use Rattle.services.specs.declared.load.LoadError.TheVariants.{NotATable, NotAscending, WithoutStatusResponse}
use Rattle.services.specs.declared.load.LoadError.{LoadError}

pub record CausesTell : Type 0 where
  pub loaded : load_cause (Ok tt) ≡ row 0 []
  pub not_a_table : load_cause (Err NotATable) ≡ row 20 []
  pub not_ascending : load_cause (Err NotAscending) ≡ row 21 []
  pub without_status_response : load_cause (Err WithoutStatusResponse) ≡ row 22 []
  pub apart : (a b : Result Unit LoadError) → load_cause a ≡ load_cause b → a ≡ b
