-- The Ethernet header of a frame (IEEE 802.3, 3.1.1): octets 0 to 5 destination, 6 to 11 source, 12 and 13 EtherType.
-- Assumes nothing.
use Rattle.std.specs.Prelude.{ℕ, Bool, List, [], ◌∷◌, ◌++◌, eqb, get_or, drop}
use Rattle.octets.specs.Numbers.{be_at, be_bytes}
use Rattle.types.specs.declared.basic.EthernetHeader.{EthernetHeader}
use Rattle.types.specs.declared.basic.MacAddress.{MacAddress}

-- the octets of the header
abbrev pub eth_length : ℕ
eth_length = 14

-- the EtherType of POWERLINK
abbrev pub ethertype_epl : ℕ
ethertype_epl = 0x88AB

-- the address that the first six octets are; those past the end count as 0
abbrev pub mac_of : List ℕ → MacAddress
mac_of s = record { 0 = get_or s 0 0 ∷ get_or s 1 0 ∷ get_or s 2 0 ∷ get_or s 3 0 ∷ get_or s 4 0 ∷ get_or s 5 0 ∷ [] }

-- the header that the first 14 octets are; those past the end count as 0
unfoldable pub eth_header_of : List ℕ → EthernetHeader
eth_header_of f = record { destination_mac = mac_of f; source_mac = mac_of (drop 6 f); ether_type = be_at 2 12 f }

abbrev pub is_powerlink : EthernetHeader → Bool
is_powerlink h = eqb h.ether_type ethertype_epl

-- the header of a POWERLINK frame
abbrev pub powerlink_header : MacAddress → MacAddress → EthernetHeader
powerlink_header dest src = record { destination_mac = dest; source_mac = src; ether_type = ethertype_epl }

-- the six octets of an address
abbrev pub mac_bytes : MacAddress → List ℕ
mac_bytes m = get_or m.0 0 0 ∷ get_or m.0 1 0 ∷ get_or m.0 2 0 ∷ get_or m.0 3 0 ∷ get_or m.0 4 0 ∷ get_or m.0 5 0 ∷ []

-- the 14 octets of a header
unfoldable pub eth_bytes : EthernetHeader → List ℕ
eth_bytes h = mac_bytes h.destination_mac ++ mac_bytes h.source_mac ++ be_bytes 2 h.ether_type
