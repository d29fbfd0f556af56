-- A ring: n elements from a place on, of a store of `size` places, the first of which follows the last.
-- Assumes nothing.
use Rattle.std.specs.Prelude.{ℕ, zero, suc, ◌%◌, List, [], ◌∷◌}

unfoldable pub ring : {A : Type 0} → (ℕ → A) → ℕ → ℕ → ℕ → List A
ring element size at zero = []
ring element size at (suc n) = element (at % size) ∷ ring element size (suc at) n
