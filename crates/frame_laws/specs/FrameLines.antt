-- The lines of 01, "Lines to check", that are marked P and speak of frames.
-- Assumes nothing.
use Rattle.std.specs.Prelude.{ℕ, List, [], ◌∷◌, ◌++◌, replicate}

-- a frame; 01's number for it (0 where it is read), what is returned with the number, and the payload's length
pub record FrameLine : Type 0 where
  pub bytes : List ℕ
  pub number : ℕ
  pub returned : List ℕ
  pub payload : ℕ

abbrev pub refused : List ℕ → ℕ → List ℕ → FrameLine
refused f n bs = record { bytes = f; number = n; returned = bs; payload = 0 }

abbrev pub read : List ℕ → ℕ → FrameLine
read f n = record { bytes = f; number = 0; returned = []; payload = n }

-- twelve octets of addresses, the EtherType and a section
abbrev pub framed : ℕ → ℕ → List ℕ → List ℕ
framed hi lo section = replicate 12 0 ++ hi ∷ lo ∷ section

abbrev pub powerlink : List ℕ → List ℕ
powerlink section = framed 0x88 0xAB section

-- "13 bytes: 1"
abbrev pub header_cut : FrameLine
header_cut = refused (replicate 13 0) 1 []

-- "14 bytes, 88AB h: 3"
abbrev pub no_section : FrameLine
no_section = refused (powerlink []) 3 []

-- "14 bytes, 0800 h: 2"
abbrev pub other_ether_type : FrameLine
other_ether_type = refused (framed 0x08 0x00 []) 2 []

-- "section 81h alone: 1"
abbrev pub soc_alone : FrameLine
soc_alone = refused (powerlink (0x81 ∷ [])) 1 []

-- "section 82h alone: 4, byte 2"
abbrev pub unknown_alone : FrameLine
unknown_alone = refused (powerlink (0x82 ∷ [])) 4 (2 ∷ [])

-- "ten-byte PRes to 254 with state FFh: 3"
abbrev pub pres_to254 : FrameLine
pres_to254 = refused (powerlink (4 ∷ 254 ∷ 1 ∷ 0xFF ∷ 0 ∷ 0 ∷ 0 ∷ 0 ∷ 0 ∷ 0 ∷ [])) 3 []

-- "ten-byte PReq of size 1: 1"
abbrev pub preq_cut : FrameLine
preq_cut = refused (powerlink (3 ∷ 1 ∷ 240 ∷ 0 ∷ 0 ∷ 0 ∷ 0 ∷ 0 ∷ 1 ∷ 0 ∷ [])) 1 []

-- "with an 11th byte: read"
abbrev pub preq_whole : FrameLine
preq_whole = read (powerlink (3 ∷ 1 ∷ 240 ∷ 0 ∷ 0 ∷ 0 ∷ 0 ∷ 0 ∷ 1 ∷ 0 ∷ 0xAA ∷ [])) 1

-- "ASnd section 46, payload AAh then zeros: length 1"
abbrev pub asnd_padded : FrameLine
asnd_padded = read (powerlink (6 ∷ 255 ∷ 1 ∷ 2 ∷ 0xAA ∷ replicate 41 0)) 1

-- "section 47: length 43"
abbrev pub asnd_longer : FrameLine
asnd_longer = read (powerlink (6 ∷ 255 ∷ 1 ∷ 2 ∷ 0xAA ∷ replicate 42 0)) 43

-- "SoA, state and service both bad: 5"; the state's octet is returned
abbrev pub soa_both_bad : FrameLine
soa_both_bad = refused (powerlink (5 ∷ 255 ∷ 240 ∷ 0xFF ∷ 0 ∷ 0 ∷ 9 ∷ 1 ∷ 0x20 ∷ [])) 5 (0xFF ∷ [])

abbrev pub frame_lines : List FrameLine
frame_lines =
    header_cut ∷ no_section ∷ other_ether_type ∷ soc_alone ∷ unknown_alone ∷ pres_to254 ∷ preq_cut ∷ preq_whole ∷ asnd_padded ∷ asnd_longer
    ∷ soa_both_bad ∷ []
