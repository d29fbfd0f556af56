-- The length of a list of octets without the zeros at its end.
-- Assumes nothing.
use Rattle.std.specs.Prelude.{ℕ, zero, suc, ◌<◌, ◌≤◌, ◌≡◌, List, [], ◌∷◌, length, take, get_or}

-- the length of x ∷ xs without the zeros at its end, where that of xs is n
abbrev pub extended : ℕ → ℕ → ℕ
extended zero zero = zero
extended (suc x) zero = 1
extended x (suc n) = suc (suc n)

abbrev pub trimmed_length : List ℕ → ℕ
trimmed_length [] = 0
trimmed_length (x ∷ xs) = extended x (trimmed_length xs)

-- only zeros stand behind the first n octets
pub record TrimsTo (s : List ℕ) (n : ℕ) : Type 0 where
  pub within : n ≤ length s
  pub same : trimmed_length (take n s) ≡ trimmed_length s

-- from place n on there are only zeros
abbrev pub ZerosFrom : List ℕ → ℕ → Type 0
ZerosFrom s n = (k : ℕ) → n ≤ k → k < length s → get_or s k 0 ≡ 0
