-- An octet whose bits that are not named are 0 is what the named ones make it.
-- Assumes nothing.
use Prim.Native.Nat.{ℕ, ◌+◌, ◌/◌, ◌%◌, ◌<◌}
use mathlib.Core.Path.{◌≡◌, refl}
use mathlib.Core.List.{List, [], ◌∷◌}
use native.Mathlib.Omega.{arith}
use lib.Dec.{eqb, eqb→eq}
use borrow.Author.Tests.{eqb-false}
use Rattle.octets.specs.Numbers.{bit}
use Rattle.types.specs.PollFlags.{priority_in, poll_octet, priority_at}
use Rattle.types.proofs.Codes.{at}
use Rattle.section.specs.Write.{at_bit}
use Rattle.frame_laws.specs.WriteBack.{Clear, type_unnamed, poll_unnamed}

-- what these bits of an octet weigh
abbrev pub weight : List ℕ → ℕ → ℕ
weight [] b = 0
weight (k ∷ ks) b = at_bit k (bit k b) + weight ks b

weightless : (ks : List ℕ) (b : ℕ) → Clear ks b → weight ks b ≡ 0
weightless [] b c = refl
weightless (k ∷ ks) b c = rw (c.0, weightless ks b c.1) (omega arith)

-- all bits of an octet, which weigh what it is
abbrev pub eight : List ℕ
eight = 7 ∷ 6 ∷ 5 ∷ 4 ∷ 3 ∷ 2 ∷ 1 ∷ 0 ∷ []

eight_weigh : (b : ℕ) → b < 256 → weight eight b ≡ b
eight_weigh b h = eqb→eq (weight eight b) b (at (λ n. eqb (weight eight n) n) 256 0 b tt (omega arith) h)

module _ (b : ℕ) (h : b < 256) where
  -- the named bits, where the others are clear and both are all eight
  pub named_bits : (ks ns : List ℕ) → weight ks b + weight ns b ≡ weight eight b → Clear ks b → weight ns b ≡ b
  named_bits ks ns all c = omega (arith, eight_weigh b h, weightless ks b c)

  pub seven_bits : Clear type_unnamed b → b % 0x80 ≡ b
  seven_bits c = omega (arith, eqb-false (b / 128 % 2) 1 c.0)

  six_bits : Clear poll_unnamed b → b < 64
  six_bits c =
      let low : b / 64 < 2 = omega (arith, seven_bits (c.0, tt)) in
      omega (arith, eqb-false (b / 64 % 2) 1 c.1.0)

  pub poll_again : Clear poll_unnamed b → poll_octet (priority_at b) (b % 8) ≡ b
  unfolding priority_in poll_octet
  poll_again c =
      eqb→eq (poll_octet (priority_at b) (b % 8)) b (at (λ n. eqb (poll_octet (priority_at n) (n % 8)) n) 64 0 b tt (omega arith) (six_bits c))
