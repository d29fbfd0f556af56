-- The answer of loading a table can be read back from its number.
-- Assumes nothing.
use mathlib.Core.Path.{◌≡◌, refl}
use lib.Dec.{eqb}
use mathlib.Mathlib.Logic.Function.Defs.{LeftInverse-Injective}
use Rattle.std.specs.Prelude.{Result, Ok, Err}
use Rattle.types.specs.Causes.{Cause}
use Rattle.types.specs.Codes.{pick}
use Rattle.services.specs.CausesTell.{CausesTell}
use Rattle.services.specs.Load.{load_cause}
use Rattle.services.specs.declared.load.LoadError.TheVariants.{NotATable, NotAscending, WithoutStatusResponse}
use Rattle.services.specs.declared.load.LoadError.{LoadError}

abbrev pub load_back : Cause → Result Unit LoadError
load_back c =
    pick (eqb c.number 0) (Ok tt)
    (pick (eqb c.number 20) (Err NotATable) (pick (eqb c.number 21) (Err NotAscending) (Err WithoutStatusResponse)))

pub load_back_lem : (a : Result Unit LoadError) → load_back (load_cause a) ≡ a
load_back_lem (Ok _) = refl
load_back_lem (Err NotATable) = refl
load_back_lem (Err NotAscending) = refl
load_back_lem (Err WithoutStatusResponse) = refl

pub causes_tell : CausesTell
causes_tell =
    record {
      loaded = refl;
      not_a_table = refl;
      not_ascending = refl;
      without_status_response = refl;
      apart = LeftInverse-Injective load_back load_cause load_back_lem;
    }
