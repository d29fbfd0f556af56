-- A number that was read from octets is written as them.
-- Assumes nothing.
use Prim.Native.Nat.{ℕ, zero, suc, ◌+◌, ◌*◌, ◌/◌, ◌%◌, ◌^◌, ◌≤◌, ◌<◌}
use mathlib.Core.Path.{◌≡◌, refl}
use mathlib.Core.List.{List, [], ◌∷◌}
use native.Mathlib.Nat.{pow-zero, pow-succ', le_of_suc-le-suc}
use native.Mathlib.Omega.{arith}
use lib.ListN.{length, get_or, take, drop, length-drop}
use lib.Seq.{get_or-drop}
use Rattle.octets.specs.Numbers.{le, le_at, le_bytes}

-- octets are below 256
abbrev pub Octets : List ℕ → Type 0
Octets s = (i : ℕ) → get_or s i 0 < 256

le_again : (n : ℕ) (s : List ℕ) → n ≤ length s → Octets s → le_bytes n (le (take n s)) ≡ take n s
le_again zero s h o = refl
le_again (suc n) [] h o = absurd (omega arith)
le_again (suc n) (b ∷ s) h o =
    let r : ℕ = le (take n s) in
    let l : (b + 256 * r) % 256 ≡ b = omega (arith, o 0) in
    let k : (b + 256 * r) / 256 ≡ r = omega (arith, o 0) in
    rw (l, k, le_again n s (le_of_suc-le-suc h) (λ i. o (suc i)))

le_small : (n : ℕ) (s : List ℕ) → Octets s → le (take n s) < 256 ^ n
le_small zero s o = rw pow-zero (omega arith)
le_small (suc n) [] o = rw pow-succ' (omega (arith, le_small n [] o))
le_small (suc n) (b ∷ s) o = rw pow-succ' (omega (arith, o 0, le_small n s (λ i. o (suc i))))

module _ (s : List ℕ) (o : Octets s) (n at : ℕ) where
  behind : Octets (drop at s)
  behind i = rw (get_or-drop at s i 0) (o (at + i))

  pub number_again : at + n ≤ length s → le_bytes n (le_at n at s) ≡ take n (drop at s)
  unfolding le_at
  number_again h = le_again n (drop at s) (simp length-drop (omega arith)) behind

  pub number_small : le_at n at s < 256 ^ n
  unfolding le_at
  number_small = le_small n (drop at s) behind
