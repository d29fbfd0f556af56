-- What it means that a call agrees with its record.
-- Assumes nothing.
use Rattle.std.specs.Prelude.{ℕ, ◌≤◌, ◌<◌, ◌≡◌, ◌≢◌, List, Option, Some, None, get_or, length}
use Rattle.replay.specs.Record.{fill_of, cause_in, octet_in, values_in, value_of, output_of}

-- k is the first place below n at which f and g differ
pub record IsFirstOther (n : ℕ) (f g : ℕ → ℕ) (k : ℕ) : Type 0 where
  pub within : k < n
  pub before : (i : ℕ) → i < k → f i ≡ g i
  pub here : f k ≢ g k

-- the first such place, or none
abbrev pub FirstOther : ℕ → (ℕ → ℕ) → (ℕ → ℕ) → Option ℕ → Type 0
FirstOther n f g None = (i : ℕ) → i < n → f i ≡ g i
FirstOther n f g (Some k) = IsFirstOther n f g k

-- the octets t as they came, and as the record has them: its own, and behind those the fill
abbrev pub FirstOctet : List ℕ → List ℕ → ℕ → Option ℕ → Type 0
FirstOctet t e b = FirstOther (length t) (λ i. get_or t i 0) (λ i. get_or e i b)

abbrev pub FirstValue : List ℕ → List ℕ → Option ℕ → Type 0
FirstValue s v = FirstOther (length v) (λ i. get_or v i 0) (value_of s)

-- the octets that came, t, begin as the record says, and those behind are the fill
pub record SameOutput (s t : List ℕ) : Type 0 where
  pub room : length (output_of s) ≤ length t
  pub octets : (i : ℕ) → i < length t → get_or t i 0 ≡ get_or (output_of s) i (fill_of s)

-- so are the values v
pub record SameOutcome (s v t : List ℕ) : Type 0 where
  pub places : values_in s ≤ length v
  pub values : (i : ℕ) → i < length v → get_or v i 0 ≡ value_of s i
  pub output : SameOutput s t

-- and so are the cause r and `octet` o
pub record Agreement (s : List ℕ) (r o : ℕ) (v t : List ℕ) : Type 0 where
  pub cause : r ≡ cause_in s
  pub octet : o ≡ octet_in s
  pub outcome : SameOutcome s v t
