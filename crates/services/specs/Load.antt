-- Loading a table of services (02, CR 1).
-- Assumes nothing.
use Rattle.std.specs.Prelude.{ℕ, ◌<◌, Bool, true, ◌&&◌, ◌≡◌, List, [], ◌∷◌, ◌++◌, leb, ltb, eqb, length, drop, Result, Ok, Err}
use Rattle.octets.specs.Mark.{is_marked}
use Rattle.octets.specs.Numbers.{le_at}
use Rattle.types.specs.CauseNumbers.{not_a_table, not_ascending, without_status_response}
use Rattle.types.specs.Causes.{Cause, row}
use Rattle.types.specs.Codes.{need}
use Rattle.services.specs.Ids.{status_response, ds301_ids, is_in}
use Rattle.services.specs.Table.{holds, services_length, table_of, ds301}
use Rattle.services.specs.declared.load.LoadError.TheVariants.{NotATable, NotAscending, WithoutStatusResponse}
use Rattle.services.specs.declared.load.LoadError.{LoadError}

-- the octets of mark and version
abbrev pub table_start : ℕ
table_start = 5

-- "`PLS`, 16-bit version 1 low byte first"
unfoldable pub is_table : List ℕ → Bool
is_table f = leb table_start (length f) && (is_marked (0x50 ∷ 0x4C ∷ 0x53 ∷ []) f && eqb (le_at 2 3 f) 1)

-- "then the IDs, one byte each"
abbrev pub ids_in : List ℕ → List ℕ
ids_in f = drop table_start f

-- "strictly ascending"
unfoldable pub is_ascending : List ℕ → Bool
is_ascending [] = true
is_ascending (x ∷ []) = true
is_ascending (x ∷ y ∷ ids) = ltb x y && is_ascending (y ∷ ids)

-- 21, then 22
unfoldable pub ids_answer : List ℕ → Result Unit LoadError
ids_answer ids = need (is_ascending ids) (Err NotAscending) (need (is_in status_response ids) (Err WithoutStatusResponse) (Ok tt))

-- "A table under 5 bytes, or with a wrong mark or version, is 20; IDs not strictly ascending are 21; a table without 2 is 22, tested last"
unfoldable pub load_answer : List ℕ → Result Unit LoadError
load_answer f = need (is_table f) (Err NotATable) (ids_answer (ids_in f))

-- 02's number for each case: 0 where nothing is refused
abbrev pub load_cause : Result Unit LoadError → Cause
load_cause (Ok _) = row 0 []
load_cause (Err NotATable) = row not_a_table []
load_cause (Err NotAscending) = row not_ascending []
load_cause (Err WithoutStatusResponse) = row without_status_response []

-- the table of the IDs, or what was lent
abbrev pub load_bytes : Result Unit LoadError → List ℕ → List ℕ → List ℕ
load_bytes (Ok _) f services = table_of (ids_in f)
load_bytes (Err _) f services = services

pub record Loads (f : List ℕ) (r : Result Unit LoadError) (services after : List ℕ) : Type 0 where
  pub answer : r ≡ load_answer f
  pub cause :
      load_cause r
      ≡ need (is_table f) (row not_a_table [])
      (need (is_ascending (ids_in f)) (row not_ascending [])
      (need (is_in status_response (ids_in f)) (row without_status_response []) (row 0 [])))
  -- "A service is from then on a number that the table holds": those of the file, and no other
  pub held : r ≡ Ok tt → (b : ℕ) → b < services_length → holds after b ≡ is_in b (ids_in f)
  pub bytes : after ≡ load_bytes r f services

-- "`PLS`, 16-bit version 1 low byte first", octet by octet
abbrev pub table_mark : List ℕ
table_mark = 0x50 ∷ 0x4C ∷ 0x53 ∷ 1 ∷ 0 ∷ []

-- that the tests above let a file through, and where they do not
pub record TablesLoad : Type 0 where
  -- IDs as 02 asks for them: they load, and the table is theirs, whatever was lent
  pub loads : (ids : List ℕ) → is_ascending ids ≡ true → is_in status_response ids ≡ true → load_answer (table_mark ++ ids) ≡ Ok tt
  pub table :
      (ids services : List ℕ) → is_ascending ids ≡ true → is_in status_response ids ≡ true
      → load_bytes (load_answer (table_mark ++ ids)) (table_mark ++ ids) services ≡ table_of ids
  -- so the twelve of DS 301 can be loaded
  pub twelve : load_answer (table_mark ++ ds301_ids) ≡ Ok tt
  pub twelve_table : (services : List ℕ) → load_bytes (load_answer (table_mark ++ ds301_ids)) (table_mark ++ ds301_ids) services ≡ ds301
  -- "A table under 5 bytes .. is 20"; five good octets alone have no 2 among their IDs, which is 22
  pub short : (f : List ℕ) → length f < table_start → load_answer f ≡ Err NotATable
  pub alone : load_answer table_mark ≡ Err WithoutStatusResponse
