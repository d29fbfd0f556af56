-- What a writer gives: all of its octets at the front of the target, or a refusal that leaves the target as it was.
-- Assumes nothing.
use Rattle.std.specs.Prelude.{ℕ, ◌+◌, ◌-◌, ◌^◌, Bool, ◌≡◌, List, [], ◌∷◌, ◌++◌, length, drop, replicate, leb, Result, Ok, Err}
use Rattle.types.specs.Causes.{Cause, row, cause_of}
use Rattle.types.specs.CauseNumbers.{too_short}
use Rattle.types.specs.Codes.{pick, need}
use Rattle.types.specs.Header.{eth_length}
use Rattle.types.specs.declared.hal.PowerlinkError.{PowerlinkError}
use Rattle.types.specs.declared.hal.PowerlinkError.TheVariants.{BufferTooShort}

-- a flag at bit k of its octet
abbrev pub at_bit : ℕ → Bool → ℕ
at_bit k on = pick on (2 ^ k) 0

-- the smallest section, and with the Ethernet header the smallest frame (IEEE 802.3, 3.2.8: 60 octets without the checksum)
abbrev pub min_section : ℕ
min_section = 46

abbrev pub min_frame : ℕ
min_frame = eth_length + min_section

-- with zeros after them up to the smallest section
unfoldable pub padded : List ℕ → List ℕ
padded bs = bs ++ replicate (min_section - length bs) 0

-- the octets fit, and their number is returned; or 01's cause 1
unfoldable pub write_answer : List ℕ → List ℕ → Result ℕ PowerlinkError
write_answer bs target = pick (leb (length bs) (length target)) (Ok (length bs)) (Err BufferTooShort)

-- the octets, then what the target held behind them; or the target as it was
unfoldable pub overwritten : List ℕ → List ℕ → List ℕ
overwritten bs target = pick (leb (length bs) (length target)) (bs ++ drop (length bs) target) target

-- 01's number and values for each case: 0 with how many octets were written, or the cause
abbrev pub write_cause : Result ℕ PowerlinkError → Cause
write_cause (Ok n) = row 0 (n ∷ [])
write_cause (Err e) = cause_of e

-- r is what writing bs to `target` answers, with 01's number, and `after` what the target then holds
pub record Writes (bs : List ℕ) (r : Result ℕ PowerlinkError) (target after : List ℕ) : Type 0 where
  pub answer : r ≡ write_answer bs target
  pub cause : write_cause r ≡ pick (leb (length bs) (length target)) (row 0 (length bs ∷ [])) (row too_short [])
  pub holds : after ≡ overwritten bs target

-- ---- codes that may name nothing

-- the octets to write; or how many they would be, and why they are none
pub data Coded : Type 0 where
  octets : List ℕ → Coded
  unnamed : ℕ → PowerlinkError → Coded

-- a code that names nothing, where n octets would go into len: cause 1 is tested first, so a target that is too short is 1
-- whatever the codes are
abbrev pub unnamed_answer : ℕ → PowerlinkError → ℕ → Result ℕ PowerlinkError
unnamed_answer n e len = need (leb n len) (Err BufferTooShort) (Err e)

abbrev pub coded_answer : Coded → List ℕ → Result ℕ PowerlinkError
coded_answer (octets bs) target = write_answer bs target
coded_answer (unnamed n e) target = unnamed_answer n e (length target)

abbrev pub coded_target : Coded → List ℕ → List ℕ
coded_target (octets bs) target = overwritten bs target
coded_target (unnamed n e) target = target

-- 01's row for what is answered
abbrev pub coded_row : Coded → List ℕ → Cause
coded_row (octets bs) target = pick (leb (length bs) (length target)) (row 0 (length bs ∷ [])) (row too_short [])
coded_row (unnamed n e) target = pick (leb n (length target)) (cause_of e) (row too_short [])

-- as `Writes`, of octets of which a code may name nothing
pub record Serializes (w : Coded) (r : Result ℕ PowerlinkError) (target after : List ℕ) : Type 0 where
  pub answer : r ≡ coded_answer w target
  pub cause : write_cause r ≡ coded_row w target
  pub holds : after ≡ coded_target w target
