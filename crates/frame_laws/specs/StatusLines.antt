-- The lines of 01, "Lines to check", that are marked P and speak of a StatusResponse.
-- Assumes nothing.
use Rattle.std.specs.Prelude.{ℕ, List, [], ◌∷◌, ◌++◌, replicate}

-- a payload; 01's number for it (0 where it is read), what is returned with the number, and how many entries it has
pub record StatusLine : Type 0 where
  pub payload : List ℕ
  pub number : ℕ
  pub returned : List ℕ
  pub entries : ℕ

abbrev pub read_with : List ℕ → ℕ → StatusLine
read_with s n = record { payload = s; number = 0; returned = []; entries = n }

-- the 14 octets in front of the entries, with state 1Dh
abbrev pub front : List ℕ
front = 0 ∷ 0 ∷ 0x1D ∷ replicate 11 0

-- "14-byte StatusResponse, state 1Dh: no entries"
abbrev pub front_alone : StatusLine
front_alone = read_with front 0

-- "33 bytes: none"; the 19 octets would be an entry if there were 20
abbrev pub entry_cut : StatusLine
entry_cut = read_with (front ++ replicate 19 0xFF) 0

abbrev pub status_lines : List StatusLine
status_lines = front_alone ∷ entry_cut ∷ []
