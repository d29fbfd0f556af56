-- Ethernet addresses (IEEE 802.3, 3.2.3), and the multicast addresses of POWERLINK (EPSG DS 301, Appendix 3).
-- Assumes nothing.
use Rattle.std.specs.Prelude.{ℕ, zero, suc, Bool, true, false, List, [], ◌∷◌, eqb, get_or, drop}
use Rattle.octets.specs.Numbers.{bit}
use Rattle.types.specs.Codes.{need}

-- the address of a group: the lowest bit of the first octet is set
abbrev pub is_multicast : List ℕ → Bool
is_multicast a = bit 0 (get_or a 0 0)

-- the first n octets are FF h
abbrev pub ones : ℕ → List ℕ → Bool
ones zero a = true
ones (suc n) a = need (eqb (get_or a 0 0) 0xFF) false (ones n (drop 1 a))

-- the address of all stations: every octet is FF h
unfoldable pub is_broadcast : List ℕ → Bool
is_broadcast a = ones 6 a

abbrev pub multicast_soc : List ℕ
multicast_soc = 0x01 ∷ 0x11 ∷ 0x1E ∷ 0x00 ∷ 0x00 ∷ 0x01 ∷ []

abbrev pub multicast_pres : List ℕ
multicast_pres = 0x01 ∷ 0x11 ∷ 0x1E ∷ 0x00 ∷ 0x00 ∷ 0x02 ∷ []

abbrev pub multicast_soa : List ℕ
multicast_soa = 0x01 ∷ 0x11 ∷ 0x1E ∷ 0x00 ∷ 0x00 ∷ 0x03 ∷ []

abbrev pub multicast_asnd : List ℕ
multicast_asnd = 0x01 ∷ 0x11 ∷ 0x1E ∷ 0x00 ∷ 0x00 ∷ 0x04 ∷ []
