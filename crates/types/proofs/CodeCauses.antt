-- A code that was read has the number and the values of 01's row for its octet.
-- Assumes nothing.
use Prim.Native.Nat.{ℕ}
use mathlib.Core.Bool.{Bool, true, false}
use mathlib.Core.Path.{◌≡◌, refl, ap, sym, ◌∙◌}
use mathlib.Core.List.{List, [], ◌∷◌}
use borrow.Author.Tests.{eqb-true}
use lib.Dec.{eqb}
use lib.ListN.{get_or}
use Rattle.std.specs.Prelude.{Result, Ok, Err}
use Rattle.types.specs.CauseNumbers.{unknown_state, unknown_request}
use Rattle.types.specs.Causes.{Cause, row}
use Rattle.types.specs.CodeCauses.{code_row, state_cause, requested_cause, ReadsState, ReadsRequested}
use Rattle.types.specs.Codes.{pick, decoded}
use Rattle.types.specs.RequestedServices.{requested_code, requested_services, requested_of}
use Rattle.types.specs.States.{state_code, states, state_of}
use Rattle.types.specs.declared.requested_service.RequestedServiceId.{RequestedServiceId}
use Rattle.types.specs.declared.states.NmtState.{NmtState}
use Rattle.types.specs.declared.hal.PowerlinkError.{PowerlinkError}
use Rattle.types.specs.declared.hal.PowerlinkError.TheVariants.{InvalidNmtState, InvalidRequestedServiceId}

-- what is told of a value by its code is told of the octet that was read: one law for every table of codes
module _ {A R C : Type 0} (code : A → ℕ) (known : A → R) (other : R) (told : R → C) (by : ℕ → C) (b : ℕ) where
  either : (e : Bool) (x : A) (r : R) (c : C) → eqb b (code x) ≡ e → told (known x) ≡ by (code x) → told r ≡ c
      → told (pick e (known x) r) ≡ pick e (by b) c
  either true x r c same here rest = here ∙ ap by (sym (eqb-true b (code x) same))
  either false x r c same here rest = rest

  pub decoded_told : ((x : A) → told (known x) ≡ by (code x)) → (xs : List A)
      → told (decoded code known other xs b) ≡ decoded code (λ x. by b) (told other) xs b
  decoded_told all [] = refl
  decoded_told all (x ∷ xs) = either (eqb b (code x)) x _ _ refl (all x) (decoded_told all xs)

abbrev pub read : ℕ → Cause
read k = row 0 (k ∷ [])

module _ (b : ℕ) where
  pub state_told : (r : Result NmtState PowerlinkError) → r ≡ state_of b → ReadsState b r
  unfolding state_of
  state_told r e =
      record {
        answer = e;
        cause = ap state_cause e ∙ decoded_told state_code Ok (Err (InvalidNmtState b)) state_cause read b (λ x. refl) states;
      }

  pub requested_told : (r : Result RequestedServiceId PowerlinkError) → r ≡ requested_of b → ReadsRequested b r
  unfolding requested_of
  requested_told r e =
      record {
        answer = e;
        cause =
            ap requested_cause e
            ∙ decoded_told requested_code Ok (Err (InvalidRequestedServiceId b)) requested_cause read b (λ x. refl) requested_services;
      }

-- ---- the code of what an octet was read as is that octet

same_value : {A : Type 0} (code : A → ℕ) (n b : ℕ) (xs : List A) → get_or (code_row code xs n b).returned 0 0 ≡ b
same_value code n b [] = refl
same_value code n b (x ∷ xs) = split (eqb b (code x)) (same_value code n b xs)
  where
    split : (e : Bool) → get_or (code_row code xs n b).returned 0 0 ≡ b → get_or (pick e (row 0 (b ∷ [])) (code_row code xs n b)).returned 0 0 ≡ b
    split true below = refl
    split false below = below

pub state_code_lem : (b : ℕ) (x : NmtState) → state_of b ≡ Ok x → state_code x ≡ b
state_code_lem b x e =
    ap (λ (c : Cause). get_or c.returned 0 0) (ap state_cause (sym e) ∙ (state_told b (state_of b) refl).cause) ∙ same_value state_code unknown_state b states

pub requested_code_lem : (b : ℕ) (x : RequestedServiceId) → requested_of b ≡ Ok x → requested_code x ≡ b
requested_code_lem b x e =
    ap (λ (c : Cause). get_or c.returned 0 0) (ap requested_cause (sym e) ∙ (requested_told b (requested_of b) refl).cause)
    ∙ same_value requested_code unknown_request b requested_services
