-- A test over a range of numbers, and each number of the range.
-- Assumes nothing.
use Prim.Native.Nat.{ℕ, zero, suc, ◌+◌, ◌≤◌, ◌<◌}
use mathlib.Core.Path.{◌≡◌, refl, subst}
use mathlib.Core.Bool.{Bool, true, false}
use mathlib.Core.Logic.{◌⊎◌, inl, inr}
use native.Mathlib.Nat.{eq-or-lt_of_le}
use native.Mathlib.Omega.{arith}
use lib.Dec.{T}
use Rattle.types.specs.Codes.{pick}

-- the test passes at each of the n numbers from i on
abbrev pub every : (ℕ → Bool) → ℕ → ℕ → Bool
every f zero i = true
every f (suc n) i = pick (f i) (every f n (suc i)) false

at_step : (f : ℕ → Bool) (i b : ℕ) (e l : Bool) → f i ≡ e → (T l → i < b → T (f b)) → T (pick e l false) → (i ≡ b) ⊎ (i < b) → T (f b)
at_step f i b false l q rest t w = absurd t
at_step f i b true l q rest t (inl e) = subst (λ (k : ℕ). T (f k)) e (rw q tt)
at_step f i b true l q rest t (inr h) = rest t h

-- a test that antt computes over a range holds at each number of it
pub at : (f : ℕ → Bool) (n i b : ℕ) → T (every f n i) → i ≤ b → b < i + n → T (f b)
at f zero i b t low high = absurd (omega arith)
at f (suc n) i b t low high =
    at_step f i b (f i) (every f n (suc i)) refl (λ u h. at f n (suc i) b u h (omega arith)) t (eq-or-lt_of_le low)
