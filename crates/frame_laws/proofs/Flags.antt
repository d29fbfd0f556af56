-- A flag that is written at its bit is read from it.
-- Assumes nothing.
use Prim.Native.Nat.{ℕ, ◌+◌}
use mathlib.Core.Path.{◌≡◌}
use mathlib.Core.Bool.{Bool, true, false}
use Rattle.octets.specs.Numbers.{bit}
use Rattle.section.specs.Write.{at_bit}

-- two or three flags, case by case
pub two : (P : Bool → Bool → Type 0) → P true true → P true false → P false true → P false false → (x y : Bool) → P x y
two P a b c d true true = a
two P a b c d true false = b
two P a b c d false true = c
two P a b c d false false = d

pub three : (P : Bool → Bool → Bool → Type 0) → ((x y : Bool) → P x y true) → ((x y : Bool) → P x y false) → (x y z : Bool) → P x y z
three P a b x y true = a x y
three P a b x y false = b x y

module _ (i j : ℕ) where
  -- what is read at bit n of the octet with two flags, at bits i and j
  abbrev pub Reads2 : ℕ → (Bool → Bool → Bool) → Type 0
  Reads2 n f = (x y : Bool) → bit n (at_bit i x + at_bit j y) ≡ f x y

  module _ (k : ℕ) where
    -- the same for three flags, at bits i, j and k
    abbrev pub Reads3 : ℕ → (Bool → Bool → Bool → Bool) → Type 0
    Reads3 n f = (x y z : Bool) → bit n (at_bit i x + at_bit j y + at_bit k z) ≡ f x y z
