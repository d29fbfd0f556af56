-- What an answer leaves to a caller in C beside its number: a length, or the octet that 01's table returns.
-- Assumes nothing.
use Rattle.std.specs.Prelude.{ℕ, Bool, ◌≡◌, List, get_or, eqb, Result, Ok, Err}
use Rattle.types.specs.Causes.{Cause, cause_of}
use Rattle.types.specs.Codes.{pick}
use Rattle.types.specs.declared.hal.PowerlinkError.{PowerlinkError}
use Rattle.error_entry.specs.Values.{flag_in}

-- the length that is told: how many octets were written, or what stood there before
abbrev pub length_after : Result ℕ PowerlinkError → ℕ → ℕ
length_after (Ok n) before = n
length_after (Err e) before = before

-- the octet that 01's table returns with an error, or what stood there before
abbrev pub error_octet : PowerlinkError → ℕ → ℕ
error_octet e before = get_or (cause_of e).returned 0 before

abbrev pub octet_after : Result ℕ PowerlinkError → ℕ → ℕ
octet_after (Ok n) before = before
octet_after (Err e) before = error_octet e before

-- ---- what a row of 01's table leaves: its values where the number is 0, its octet where it is another; else what stood there before

abbrev pub values_told : Cause → List ℕ → List ℕ
values_told c before = pick (eqb c.number 0) c.returned before

abbrev pub flag_told : Cause → ℕ → Bool → Bool
flag_told c k before = pick (eqb c.number 0) (flag_in (get_or c.returned k 0)) before

abbrev pub octet_told : Cause → ℕ → ℕ
octet_told c before = pick (eqb c.number 0) before (get_or c.returned 0 before)

-- r is the number, k' the value that is told where k stood, and o' the octet that is told where o stood
pub record RowTold (c : Cause) (r k k' o o' : ℕ) : Type 0 where
  pub cause : r ≡ c.number
  pub value : k' ≡ pick (eqb c.number 0) (get_or c.returned 0 k) k
  pub octet : o' ≡ octet_told c o
