-- What the calls of a table of services leave to a caller in C: all that the call below promises, and its answer's number.
-- Assumes nothing.
use Rattle.std.specs.Prelude.{ℕ, Bool, ◌≡◌, List}
use Rattle.services.specs.Load.{load_answer, load_cause, Loads}
use Rattle.services.specs.Table.{holds}

pub record ServicesLoad (f : List ℕ) (r : ℕ) (services after : List ℕ) : Type 0 where
  pub cause : r ≡ (load_cause (load_answer f)).number
  pub loads : Loads f (load_answer f) services after

-- the table is lent to be read: it stays
pub record ServicesContain (id r : ℕ) (services : List ℕ) (h' : Bool) : Type 0 where
  pub cause : r ≡ 0
  pub held : h' ≡ holds services id
