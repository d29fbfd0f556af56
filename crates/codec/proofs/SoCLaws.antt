-- The cases of `read_soc`, each from the tests that lead to it.
-- Assumes nothing.
use Prim.Native.Nat.{ℕ, ◌≤◌, ◌<◌}
use mathlib.Core.Path.{◌≡◌}
use mathlib.Core.List.{List}
use lib.ListN.{length, take, drop}
use lib.Seq.{take-take}
use native.Mathlib.Omega.{arith}
use borrow.Author.Tests.{le-leb, lt-leb}
use Rattle.std.specs.Prelude.{Ok, Err}
use Rattle.octets.specs.Numbers.{le_at}
use Rattle.types.specs.declared.hal.PowerlinkError.TheVariants.{BufferTooShort}
use Rattle.codec.specs.SoC.{read_soc}
use Rattle.codec.specs.Verdicts.{soc_timed}
use Rattle.frame.specs.declared.PowerlinkFrame.TheVariants.{Soc}

-- a number is read in the part that has its octets as it is in the section
number_in : (n at : ℕ) (s : List ℕ) → le_at n 0 (take n (drop at s)) ≡ le_at n at s
unfolding le_at
number_in n at s = rw (take-take n n (drop at s) (omega arith))

module _ (s : List ℕ) where
  pub soc_short : length s < 22 → Err BufferTooShort ≡ read_soc s
  unfolding read_soc
  soc_short k = rw (lt-leb 22 (length s) k)

  pub soc_read : 22 ≤ length s → (n₁ n₂ n₃ : ℕ) → n₁ ≡ le_at 4 0 (take 4 (drop 6 s)) → n₂ ≡ le_at 4 0 (take 4 (drop 10 s)) → n₃ ≡ le_at 8 0 (take 8 (drop 14 s))
      → Ok (Soc (soc_timed s (record { seconds = n₁; nanoseconds = n₂ }) (record { 0 = n₃ }))) ≡ read_soc s
  unfolding read_soc
  soc_read k n₁ n₂ n₃ e₁ e₂ e₃ = rw (le-leb 22 (length s) k, e₁, e₂, e₃, number_in 4 6 s, number_in 4 10 s, number_in 8 14 s)
