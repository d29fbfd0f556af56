-- 01's table of causes, number by number; and each answer can be read back from its number and values.
-- Assumes nothing.
use Prim.Native.Nat.{ℕ}
use mathlib.Core.Path.{◌≡◌, refl, ap, ◌∙◌}
use mathlib.Core.Bool.{false}
use mathlib.Core.List.{List}
use native.Mathlib.Omega.{arith}
use lib.Dec.{eqb, ltb}
use lib.ListN.{get_or}
use mathlib.Mathlib.Logic.Function.Defs.{LeftInverse-Injective}
use Rattle.std.specs.Prelude.{Result, Ok, Err}
use Rattle.types.specs.Causes.{Cause, row, cause_of, error_told}
use Rattle.types.specs.CausesTell.{NumbersTell, ErrorsTell, CodesTell}
use Rattle.types.specs.CodeCauses.{message_cause, state_cause, requested_cause, mode_cause}
use Rattle.types.specs.Codes.{pick}
use Rattle.types.specs.Messages.{message_of}
use Rattle.types.specs.Modes.{mode_of}
use Rattle.types.specs.RequestedServices.{requested_of}
use Rattle.types.specs.States.{state_of}
use Rattle.types.specs.declared.hal.PowerlinkError.{PowerlinkError}
use Rattle.types.specs.declared.hal.PowerlinkError.TheVariants.{BufferTooShort, InvalidEthernetFrame, InvalidPlFrame, InvalidMessageType, InvalidNmtState, InvalidServiceId, InvalidRequestedServiceId}
use Rattle.types.proofs.ReadBack.{message_known, state_known, requested_known, mode_known}
use Rattle.types.specs.declared.states.NmtState.{NmtState}
use Rattle.types.specs.declared.message_type.MessageType.{MessageType}
use Rattle.types.specs.declared.requested_service.RequestedServiceId.{RequestedServiceId}
use Rattle.types.specs.declared.error_mode.UnknownMode.{UnknownMode}
use Rattle.types.specs.declared.error_mode.ErrorEntryMode.{ErrorEntryMode}

pub numbers_tell : NumbersTell
numbers_tell =
    record {
      line1 = refl;
      line2 = refl;
      line3 = refl;
      line4 = refl;
      line5 = refl;
      line6 = refl;
      line7 = refl;
      line8 = refl;
      line9 = refl;
      line10 = refl;
      line11 = refl;
      line12 = refl;
      line13 = refl;
      line14 = refl;
      line15 = refl;
      line16 = refl;
      line17 = refl;
      line18 = refl;
      line19 = refl;
      line20 = refl;
      line21 = refl;
      line22 = refl;
      line23 = refl;
    }

-- the first of the values
abbrev pub value : Cause → ℕ
value c = get_or c.returned 0 0

pub error_told_lem : (e : PowerlinkError) (b : ℕ) → error_told (cause_of e).number (get_or (cause_of e).returned 0 b) ≡ e
error_told_lem BufferTooShort b = refl
error_told_lem InvalidEthernetFrame b = refl
error_told_lem InvalidPlFrame b = refl
error_told_lem (InvalidMessageType o) b = refl
error_told_lem (InvalidNmtState o) b = refl
error_told_lem (InvalidServiceId o) b = refl
error_told_lem (InvalidRequestedServiceId o) b = refl

-- no error has the number 0
pub no_0 : (e : PowerlinkError) → eqb (cause_of e).number 0 ≡ false
no_0 BufferTooShort = refl
no_0 InvalidEthernetFrame = refl
no_0 InvalidPlFrame = refl
no_0 (InvalidMessageType o) = refl
no_0 (InvalidNmtState o) = refl
no_0 (InvalidServiceId o) = refl
no_0 (InvalidRequestedServiceId o) = refl

pub not_0 : {A : Type 0} (e : PowerlinkError) (a b : A) → pick (eqb (cause_of e).number 0) a b ≡ b
not_0 e a b = rw (no_0 e)

-- and none a number above 7
pub below_8 : {A : Type 0} (e : PowerlinkError) (a b : A) → pick (ltb (cause_of e).number 8) a b ≡ a
below_8 BufferTooShort a b = refl
below_8 InvalidEthernetFrame a b = refl
below_8 InvalidPlFrame a b = refl
below_8 (InvalidMessageType o) a b = refl
below_8 (InvalidNmtState o) a b = refl
below_8 (InvalidServiceId o) a b = refl
below_8 (InvalidRequestedServiceId o) a b = refl

-- so that a row with 0 is no error's
pub refused_not_0 : (e : PowerlinkError) (bs : List ℕ) → row 0 bs ≡ cause_of e → ⊥
refused_not_0 e bs same =
    let z : ◌≡◌ {A = ℕ} 1 0 = ap (λ (c : Cause). pick (eqb c.number 0) 1 0) same ∙ not_0 e 1 0 in omega (arith, z)

-- an answer that refuses with an error, or else is `good`
abbrev pub refused_or : {R : Type 0} → (PowerlinkError → R) → R → Cause → R
refused_or refused good c = pick (eqb c.number 0) good (refused (error_told c.number (value c)))

pub refused_back : {R : Type 0} (refused : PowerlinkError → R) (good : R) (e : PowerlinkError) → refused_or refused good (cause_of e) ≡ refused e
refused_back refused good e = not_0 e _ _ ∙ ap refused (error_told_lem e 0)

-- the error that a row is of
abbrev pub error_of : Cause → PowerlinkError
error_of c = error_told c.number (value c)

pub errors_tell : ErrorsTell
errors_tell =
    record {
      buffer_too_short = refl;
      invalid_ethernet_frame = refl;
      invalid_pl_frame = refl;
      invalid_message_type = λ b. refl;
      invalid_nmt_state = λ b. refl;
      invalid_service_id = λ b. refl;
      invalid_requested_service_id = λ b. refl;
      apart = LeftInverse-Injective error_of cause_of (λ e. error_told_lem e 0);
      told = error_told_lem;
    }

-- the answer of reading a code: with 0 what the code names, and else the error
abbrev pub code_in : {A : Type 0} → (ℕ → Result A PowerlinkError) → Cause → Result A PowerlinkError
code_in read c = refused_or Err (read (value c)) c

message_back : (a : Result MessageType PowerlinkError) → code_in message_of (message_cause a) ≡ a
message_back (Ok m) = message_known m
message_back (Err e) = refused_back Err _ e

state_back : (a : Result NmtState PowerlinkError) → code_in state_of (state_cause a) ≡ a
state_back (Ok s) = state_known s
state_back (Err e) = refused_back Err _ e

requested_back : (a : Result RequestedServiceId PowerlinkError) → code_in requested_of (requested_cause a) ≡ a
requested_back (Ok s) = requested_known s
requested_back (Err e) = refused_back Err _ e

-- the same of a mode, whose error is the octet
abbrev pub mode_in_row : Cause → Result ErrorEntryMode UnknownMode
mode_in_row c = pick (eqb c.number 0) (mode_of (value c)) (Err (record { 0 = value c }))

mode_back : (a : Result ErrorEntryMode UnknownMode) → mode_in_row (mode_cause a) ≡ a
mode_back (Ok m) = mode_known m
mode_back (Err e) = refl

pub codes_tell : CodesTell
codes_tell =
    record {
      a_message = λ m. refl;
      no_message = λ b. refl;
      messages_apart = LeftInverse-Injective (code_in message_of) message_cause message_back;
      a_state = λ s. refl;
      no_state = λ b. refl;
      states_apart = LeftInverse-Injective (code_in state_of) state_cause state_back;
      a_requested = λ s. refl;
      no_requested = λ b. refl;
      requested_apart = LeftInverse-Injective (code_in requested_of) requested_cause requested_back;
      a_mode = λ m. refl;
      no_mode = λ b. refl;
      modes_apart = LeftInverse-Injective mode_in_row mode_cause mode_back;
    }
