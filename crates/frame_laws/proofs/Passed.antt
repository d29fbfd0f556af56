-- What a section that is read under a table has passed: by its kind, the tests of the kind, and the frame that they give.
-- Assumes nothing.
use Prim.Native.Nat.{ℕ, ◌-◌, ◌%◌, ◌≤◌}
use mathlib.Core.Path.{◌≡◌, refl, sym, subst}
use mathlib.Core.Bool.{true}
use mathlib.Core.List.{List}
use lib.Dec.{eqb}
use lib.ListN.{length, get_or}
use Rattle.std.specs.Prelude.{Result, Ok, Err}
use Rattle.octets.specs.Numbers.{le_at}
use Rattle.types.specs.Messages.{message_code, message_of}
use Rattle.types.specs.RequestedServices.{requested_code, requested_of}
use Rattle.types.specs.States.{state_code, state_of}
use Rattle.types.specs.declared.hal.PowerlinkError.{PowerlinkError}
use Rattle.types.specs.declared.message_type.MessageType.{MessageType}
use Rattle.types.specs.declared.message_type.MessageType.TheVariants as message
use Rattle.types.specs.declared.requested_service.RequestedServiceId.{RequestedServiceId}
use Rattle.types.specs.declared.states.NmtState.{NmtState}
use Rattle.services.specs.Table.{holds}
use Rattle.frame.specs.declared.PowerlinkFrame.{PowerlinkFrame}
use Rattle.frame.specs.declared.PowerlinkFrame.TheVariants.{Soc, PReq, PRes, SoA, ASnd}
use Rattle.codec.specs.ASnd.{asnd_of, read_asnd}
use Rattle.codec.specs.Frame.{kind_in, kind_answer, read_section}
use Rattle.codec.specs.PReq.{preq_of, read_preq}
use Rattle.codec.specs.PRes.{pres_of, pres_by_state, read_pres}
use Rattle.codec.specs.SoA.{soa_of, soa_by_service, soa_by_state, read_soa}
use Rattle.codec.specs.SoC.{soc_of, read_soc}
use Rattle.frame_laws.proofs.Named.{message_named, state_named, requested_named}
use Rattle.frame_laws.proofs.Tests.{no_value, one_value, passed, enough}

-- a section that is read has a kind
pub kind_found : (services : List ℕ) (k : Result MessageType PowerlinkError) (s : List ℕ) (f : PowerlinkFrame) → kind_answer services k s ≡ Ok f
    → (m : MessageType) × (k ≡ Ok m)
kind_found services (Ok m) s f e = (m, refl)
kind_found services (Err d) s f e = absurd (no_value e)

module _ (services s : List ℕ) (P : PowerlinkFrame → Type 0) where
  -- P of each kind's frame, from the tests that the kind's section passed
  pub record Kinds : Type 0 where
    pub soc : get_or s 0 0 % 0x80 ≡ 1 → 22 ≤ length s → P (Soc (soc_of s))
    pub preq : get_or s 0 0 % 0x80 ≡ 3 → 10 ≤ length s → le_at 2 8 s ≤ length s - 10 → P (PReq (preq_of s (le_at 2 8 s)))
    pub pres : get_or s 0 0 % 0x80 ≡ 4 → 10 ≤ length s → (st : NmtState) → state_code st ≡ get_or s 3 0 → le_at 2 8 s ≤ length s - 10
        → P (PRes (pres_of s st (le_at 2 8 s)))
    pub soa : get_or s 0 0 % 0x80 ≡ 5 → 9 ≤ length s → (st : NmtState) → state_code st ≡ get_or s 3 0 → (q : RequestedServiceId)
        → requested_code q ≡ get_or s 6 0 → P (SoA (soa_of s st q))
    pub asnd : get_or s 0 0 % 0x80 ≡ 6 → 4 ≤ length s → holds services (get_or s 3 0) ≡ true → P (ASnd (asnd_of s))

  module _ (k : Kinds) (f : PowerlinkFrame) where
    by_request : get_or s 0 0 % 0x80 ≡ 5 → 9 ≤ length s → (st : NmtState) → state_code st ≡ get_or s 3 0 → (a : Result RequestedServiceId PowerlinkError)
        → requested_of (get_or s 6 0) ≡ a → soa_by_service s st a ≡ Ok f → P f
    by_request m long st c (Err d) q e = absurd (no_value e)
    by_request m long st c (Ok v) q e = subst P (one_value e) (k.soa m long st c v (requested_named (get_or s 6 0) v q))

    soa_by_state_lem : get_or s 0 0 % 0x80 ≡ 5 → 9 ≤ length s → (a : Result NmtState PowerlinkError) → state_of (get_or s 3 0) ≡ a → soa_by_state s a ≡ Ok f
        → P f
    soa_by_state_lem m long (Err d) q e = absurd (no_value e)
    soa_by_state_lem m long (Ok st) q e =
        by_request m long st (state_named (get_or s 3 0) st q) (requested_of (get_or s 6 0)) refl e

    pres_by_state_lem : get_or s 0 0 % 0x80 ≡ 4 → 10 ≤ length s → (a : Result NmtState PowerlinkError) → state_of (get_or s 3 0) ≡ a → pres_by_state s a ≡ Ok f
        → P f
    pres_by_state_lem m long (Err d) q e = absurd (no_value e)
    pres_by_state_lem m long (Ok st) q e =
        let r = enough (le_at 2 8 s) (length s - 10) _ _ e in
        subst P (one_value r.1) (k.pres m long st (state_named (get_or s 3 0) st q) r.0)

    typed : (m : MessageType) → message_of (get_or s 0 0 % 0x80) ≡ Ok m → get_or s 0 0 % 0x80 ≡ message_code m
    typed m q = sym (message_named (get_or s 0 0 % 0x80) m q)

    by_kind : (a : Result MessageType PowerlinkError) → message_of (get_or s 0 0 % 0x80) ≡ a → kind_answer services a s ≡ Ok f → P f
    unfolding read_soc read_preq read_pres read_soa read_asnd
    by_kind (Err d) q e = absurd (no_value e)
    by_kind (Ok message.SoC) q e =
        let r = enough 22 (length s) _ _ e in
        subst P (one_value r.1) (k.soc (typed _ q) r.0)
    by_kind (Ok message.PReq) q e =
        let r = enough 10 (length s) _ _ e in
        let t = enough (le_at 2 8 s) (length s - 10) _ _ r.1 in
        subst P (one_value t.1) (k.preq (typed _ q) r.0 t.0)
    by_kind (Ok message.PRes) q e =
        let r = enough 10 (length s) _ _ e in
        let t = passed (eqb (get_or s 1 0) 255) _ _ r.1 in
        pres_by_state_lem (typed _ q) r.0 (state_of (get_or s 3 0)) refl t.1
    by_kind (Ok message.SoA) q e =
        let r = enough 9 (length s) _ _ e in
        soa_by_state_lem (typed _ q) r.0 (state_of (get_or s 3 0)) refl r.1
    by_kind (Ok message.ASnd) q e =
        let r = enough 4 (length s) _ _ e in
        let t = passed (holds services (get_or s 3 0)) _ _ r.1 in
        subst P (one_value t.1) (k.asnd (typed _ q) r.0 t.0)

    pub by_tests : read_section services s ≡ Ok f → P f
    unfolding kind_in read_section
    by_tests e = by_kind (message_of (get_or s 0 0 % 0x80)) refl e
