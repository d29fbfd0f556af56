-- The services of ASnd frames by their IDs, one octet each: a service is a number (02, CR 1).
-- Assumes nothing.
use Rattle.std.specs.Prelude.{ℕ, Bool, ◌||◌, ◌&&◌, List, [], ◌∷◌, eqb, leb}
use Rattle.std.specs.List.{list_any}

abbrev pub status_response : ℕ
status_response = 0x02

-- b is one of the numbers lo to hi
abbrev pub within : ℕ → ℕ → ℕ → Bool
within lo hi b = leb lo b && leb b hi

-- 01: "Byte 3 service: 1 to 5, 0B, 0D to 12 h"
unfoldable pub is_listed : ℕ → Bool
is_listed b = within 0x01 0x05 b || (eqb b 0x0B || within 0x0D 0x12 b)

-- the same by their names, ascending: IdentResponse, StatusResponse, NmtRequest, NmtCommand, Sdo; NMTPublishTime; NMTPublishNMTState,
-- NMTPublishNodeState, NMTPublishNodeList, NMTPublishEmergNew, NMTPublishHeartbeat, NMTPublishActiveNodes (EPSG DS 301, Appendix 3.3
-- and Table 138)
abbrev pub ds301_ids : List ℕ
ds301_ids = 0x01 ∷ 0x02 ∷ 0x03 ∷ 0x04 ∷ 0x05 ∷ 0x0B ∷ 0x0D ∷ 0x0E ∷ 0x0F ∷ 0x10 ∷ 0x11 ∷ 0x12 ∷ []

-- whether b is one of the IDs
abbrev pub is_in : ℕ → List ℕ → Bool
is_in b ids = list_any (λ x. eqb x b) ids
