-- A code that names something is the code of what it names.
-- Assumes nothing.
use Prim.Native.Nat.{ℕ}
use mathlib.Core.Path.{◌≡◌, refl, sym, ap, ◌∙◌}
use mathlib.Core.Bool.{Bool, true, false}
use mathlib.Core.List.{List, [], ◌∷◌}
use lib.Dec.{eqb}
use borrow.Author.Tests.{eqb-true}
use Rattle.std.specs.Prelude.{Result, Ok, Err}
use Rattle.types.specs.Codes.{pick, decoded}
use Rattle.types.specs.Messages.{message_code, messages, message_of}
use Rattle.types.specs.RequestedServices.{requested_code, requested_services, requested_of}
use Rattle.types.specs.States.{state_code, states, state_of}
use Rattle.types.specs.declared.message_type.MessageType.{MessageType}
use Rattle.types.specs.declared.requested_service.RequestedServiceId.{RequestedServiceId}
use Rattle.types.specs.declared.states.NmtState.{NmtState}
use Rattle.types.specs.declared.hal.PowerlinkError.TheVariants.{InvalidNmtState, InvalidMessageType, InvalidRequestedServiceId}
use Rattle.frame_laws.proofs.Tests.{no_value}

-- for every table, with the error of a code that names nothing
module _ {A E : Type 0} (code : A → ℕ) (unknown : E) (b : ℕ) (x : A) where
  first : (y : A) (t : Bool) (later : Result A E) → eqb b (code y) ≡ t → (later ≡ Ok x → code x ≡ b) → pick t (Ok y) later ≡ Ok x → code x ≡ b
  first y true later q rest e = let same : y ≡ x = cc in ap code (sym same) ∙ sym (eqb-true b (code y) q)
  first y false later q rest e = rest e

  code_of : (xs : List A) → decoded code Ok (Err unknown) xs b ≡ Ok x → code x ≡ b
  code_of [] e = absurd (no_value e)
  code_of (y ∷ ys) e = first y (eqb b (code y)) (decoded code Ok (Err unknown) ys b) refl (code_of ys) e

module _ (b : ℕ) where
  pub message_named : (m : MessageType) → message_of b ≡ Ok m → message_code m ≡ b
  unfolding message_of
  message_named m = code_of message_code (InvalidMessageType b) b m messages

  pub state_named : (s : NmtState) → state_of b ≡ Ok s → state_code s ≡ b
  unfolding state_of
  state_named s = code_of state_code (InvalidNmtState b) b s states

  pub requested_named : (q : RequestedServiceId) → requested_of b ≡ Ok q → requested_code q ≡ b
  unfolding requested_of
  requested_named q = code_of requested_code (InvalidRequestedServiceId b) b q requested_services
