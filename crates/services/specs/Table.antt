-- A loaded table of services: an octet for each ID, and any but 0 means that the table holds it. Every table holds StatusResponse, which
-- 02 asks of what is loaded ("2 among them"), so that octets of any pattern are a table.
-- Assumes nothing.
use Rattle.std.specs.Prelude.{ℕ, Bool, true, not, ◌||◌, ◌≡◌, List, [], ◌∷◌, eqb, get_or, replicate, set}
use Rattle.services.specs.Ids.{status_response, ds301_ids, is_listed}

unfoldable pub holds : List ℕ → ℕ → Bool
holds services b = eqb b status_response || not (eqb (get_or services b 0) 0)

-- an octet for each ID
abbrev pub services_length : ℕ
services_length = 256

-- 1 at the place of each of the IDs
unfoldable pub marked : List ℕ → List ℕ → List ℕ
marked services [] = services
marked services (x ∷ ids) = marked (set services x 1) ids

-- a table of these IDs and no other
abbrev pub table_of : List ℕ → List ℕ
table_of ids = marked (replicate services_length 0) ids

-- the twelve of DS 301
abbrev pub ds301 : List ℕ
ds301 = table_of ds301_ids

pub record TablesHold : Type 0 where
  -- the error exchange runs under every table
  pub status : (services : List ℕ) → holds services status_response ≡ true
  -- that of DS 301 holds the numbers that 01 lists, and no other
  pub twelve : (b : ℕ) → holds ds301 b ≡ is_listed b
