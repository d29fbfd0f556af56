-- The priority and the number of waiting requests that a node shows (EPSG DS 301, 4.2.4.1.2.2 and Appendix 3.2).
-- Assumes nothing.
use Rattle.std.specs.Prelude.{ℕ, ◌+◌, ◌*◌, ◌/◌, ◌%◌, min, List, [], ◌∷◌}
use Rattle.types.specs.Codes.{decoded}
use Rattle.types.specs.declared.poll_flags.PRFlag.{PRFlag}
use Rattle.types.specs.declared.poll_flags.PRFlag.TheVariants.{PrioNmtRequest, High3, High2, High1, PrioGenericRequest, Low3, Low2, Low1}
use Rattle.types.specs.declared.poll_flags.RSFlag.{RSFlag}

abbrev pub priority_code : PRFlag → ℕ
priority_code PrioNmtRequest = 7
priority_code High3 = 6
priority_code High2 = 5
priority_code High1 = 4
priority_code PrioGenericRequest = 3
priority_code Low3 = 2
priority_code Low2 = 1
priority_code Low1 = 0

abbrev pub priorities : List PRFlag
priorities = PrioNmtRequest ∷ High3 ∷ High2 ∷ High1 ∷ PrioGenericRequest ∷ Low3 ∷ Low2 ∷ Low1 ∷ []

-- the priority in the three low bits of an octet
unfoldable pub priority_in : ℕ → PRFlag
priority_in b = decoded priority_code (λ p. p) Low1 priorities (b % 8)

-- above 7 counts as 7
abbrev pub requests_to_send : ℕ → ℕ
requests_to_send n = min n 7

-- the octet that holds both: bits 5 to 3 the priority, bits 2 to 0 the number of requests
unfoldable pub poll_octet : PRFlag → ℕ → ℕ
poll_octet p n = 8 * priority_code p + requests_to_send n

-- and each of them, read from it
abbrev pub priority_at : ℕ → PRFlag
priority_at octet = priority_in (octet / 8)

abbrev pub requests_at : ℕ → RSFlag
requests_at octet = record { 0 = octet % 8 }
