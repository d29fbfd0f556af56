-- A code read back: the one of a list of values that has it.
-- Assumes nothing.
use Rattle.std.specs.Prelude.{ℕ, Bool, true, false, List, [], ◌∷◌, eqb}

-- a where the test holds, and else b
abbrev pub pick : {A : Type 0} → Bool → A → A → A
pick true a b = a
pick false a b = b

-- the refusal where the test fails, and else what follows
abbrev pub need : {A : Type 0} → Bool → A → A → A
need true refusal next = next
need false refusal next = refusal

-- the first of the values whose code is b, as `known` gives it, or `other`
abbrev pub decoded : {A R : Type 0} → (A → ℕ) → (A → R) → R → List A → ℕ → R
decoded code known other [] b = other
decoded code known other (x ∷ xs) b = pick (eqb b (code x)) (known x) (decoded code known other xs b)
