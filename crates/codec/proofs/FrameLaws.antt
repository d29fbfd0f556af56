-- The cases of `kind_in`, each from what leads to it.
-- Assumes nothing.
use Prim.Native.Nat.{ℕ, ◌%◌}
use mathlib.Core.Path.{◌≡◌}
use mathlib.Core.List.{List}
use lib.ListN.{get_or}
use borrow.Author.Tests.{ne_eqb}
use Rattle.std.specs.Prelude.{Ok, Err}
use Rattle.types.specs.Messages.{message_code, message_of}
use Rattle.types.specs.declared.hal.PowerlinkError.TheVariants.{InvalidMessageType}
use Rattle.types.specs.declared.message_type.MessageType.{MessageType}
use Rattle.types.proofs.ReadBack.{message_known}
use Rattle.codec.specs.Frame.{kind_in}

message_none : (b : ℕ) → (b ≡ 1 → ⊥) → (b ≡ 3 → ⊥) → (b ≡ 4 → ⊥) → (b ≡ 5 → ⊥) → (b ≡ 6 → ⊥) → message_of b ≡ Err (InvalidMessageType b)
unfolding message_of
message_none b h₁ h₃ h₄ h₅ h₆ = rw (ne_eqb b 1 h₁, ne_eqb b 3 h₃, ne_eqb b 4 h₄, ne_eqb b 5 h₅, ne_eqb b 6 h₆)

module _ (s : List ℕ) (n : ℕ) (en : n ≡ get_or s 0 0) where
  pub section_known : (k : MessageType) → n % 0x80 ≡ message_code k → Ok k ≡ kind_in s
  unfolding kind_in
  section_known k em = rw (← en, em, message_known k)

  pub section_unknown : (n % 0x80 ≡ 1 → ⊥) → (n % 0x80 ≡ 3 → ⊥) → (n % 0x80 ≡ 4 → ⊥) → (n % 0x80 ≡ 5 → ⊥) → (n % 0x80 ≡ 6 → ⊥)
      → Err (InvalidMessageType (n % 0x80)) ≡ kind_in s
  unfolding kind_in
  section_unknown h₁ h₃ h₄ h₅ h₆ = rw (← en, message_none (n % 0x80) h₁ h₃ h₄ h₅ h₆)
