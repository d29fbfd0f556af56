-- A part of a list, element by element, and parts that stand one behind the other; zeros.
-- Assumes nothing.
use Prim.Native.Nat.{ℕ, zero, suc, ◌+◌, ◌≤◌}
use mathlib.Core.Path.{◌≡◌, refl, ap}
use mathlib.Core.List.{List, [], ◌∷◌, ◌++◌}
use native.Mathlib.Omega.{arith}
use lib.ListN.{length, get_or, take, drop, replicate}
use lib.Seq.{drop-cons, take-add}

-- n elements of a list, from place i on
abbrev pub elements : ℕ → ℕ → List ℕ → List ℕ
elements zero i l = []
elements (suc n) i l = get_or l i 0 ∷ elements n (suc i) l

pub elements_are : (n i : ℕ) (l : List ℕ) → i + n ≤ length l → elements n i l ≡ take n (drop i l)
elements_are zero i l h = refl
elements_are (suc n) i l h =
    rw (drop-cons l i 0 (omega arith)) (ap (λ (r : List ℕ). get_or l i 0 ∷ r) (elements_are n (suc i) l (omega arith)))

pub joined : (n m : ℕ) (l u v : List ℕ) → u ≡ take n l → v ≡ take m (drop n l) → u ++ v ≡ take (n + m) l
joined n m l u v eu ev = rw (eu, ev, take-add n m l)

-- an element of zeros, or past their end
pub zeros : (i k : ℕ) → ◌≡◌ {A = ℕ} (get_or (replicate k 0) i 0) 0
zeros i zero = refl
zeros zero (suc k) = refl
zeros (suc i) (suc k) = zeros i k
