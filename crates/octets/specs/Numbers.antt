-- Numbers of several octets, in either order. Octets past the end of the bytes count as 0.
-- Assumes nothing.
use Rattle.std.specs.Prelude.{ℕ, zero, suc, ◌+◌, ◌*◌, ◌/◌, ◌%◌, ◌^◌, Bool, List, [], ◌∷◌, reverse, eqb, get_or, take, drop}

-- the number that the octets make, low octet first
abbrev pub le : List ℕ → ℕ
le [] = 0
le (b ∷ bs) = b + 256 * le bs

-- the number that the n octets from place at on make, low octet first
unfoldable pub le_at : ℕ → ℕ → List ℕ → ℕ
le_at n at s = le (take n (drop at s))

-- the n low octets of v, low octet first
abbrev pub le_bytes : ℕ → ℕ → List ℕ
le_bytes zero v = []
le_bytes (suc n) v = v % 256 ∷ le_bytes n (v / 256)

-- the number that the first n octets make, high octet first
abbrev pub be : ℕ → List ℕ → ℕ
be zero s = 0
be (suc n) s = 256 ^ n * get_or s 0 0 + be n (drop 1 s)

-- the number that the n octets from place at on make, high octet first
unfoldable pub be_at : ℕ → ℕ → List ℕ → ℕ
be_at n at s = be n (drop at s)

-- the n low octets of v, high octet first
abbrev pub be_bytes : ℕ → ℕ → List ℕ
be_bytes n v = reverse (le_bytes n v)

-- bit k of an octet, bit 0 the lowest
abbrev pub bit : ℕ → ℕ → Bool
bit k b = eqb (b / 2 ^ k % 2) 1
