-- What a StatusResponse that is read has passed, and the fields that this gives.
-- Assumes nothing.
use Prim.Native.Nat.{ℕ, ◌≤◌}
use mathlib.Core.Path.{◌≡◌, refl, subst}
use mathlib.Core.List.{List}
use lib.ListN.{length, get_or}
use Rattle.std.specs.Prelude.{Result, Ok, Err}
use Rattle.types.specs.States.{state_code, state_of}
use Rattle.types.specs.declared.hal.PowerlinkError.{PowerlinkError}
use Rattle.types.specs.declared.states.NmtState.{NmtState}
use Rattle.status_response.specs.Fields.{fields_of, status_by_state, read_fields}
use Rattle.status_response.specs.declared.fields.StatusFields.{StatusFields}
use Rattle.frame_laws.proofs.Named.{state_named}
use Rattle.frame_laws.proofs.Tests.{no_value, one_value, enough}

pub record StatusPassed (s : List ℕ) (f : StatusFields) : Type 0 where
  pub long : 14 ≤ length s
  pub fields : f ≡ fields_of s f.nmt_state
  pub state : state_code f.nmt_state ≡ get_or s 2 0

module _ (s : List ℕ) (f : StatusFields) where
  by_state : 14 ≤ length s → (a : Result NmtState PowerlinkError) → state_of (get_or s 2 0) ≡ a → status_by_state s a ≡ Ok f → StatusPassed s f
  by_state long (Err d) q e = absurd (no_value e)
  by_state long (Ok st) q e =
      subst (StatusPassed s) (one_value e) (record { long = long; fields = refl; state = state_named (get_or s 2 0) st q })

  pub status_passed : read_fields s ≡ Ok f → StatusPassed s f
  unfolding read_fields
  status_passed e = let r = enough 14 (length s) _ _ e in by_state r.0 (state_of (get_or s 2 0)) refl r.1
