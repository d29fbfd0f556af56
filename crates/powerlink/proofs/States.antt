-- The code of the state, or of the requested service, that an octet was read as is that octet: a number that is told can be the octet itself.
-- Assumes nothing.
use Prim.Native.Nat.{ℕ, ◌-◌, ◌≤◌}
use mathlib.Core.Path.{◌≡◌, refl, ap, ◌∙◌}
use mathlib.Core.Bool.{Bool, true, false, true≢false}
use mathlib.Core.List.{List}
use lib.Dec.{eqb, leb}
use lib.ListN.{length, get_or, set}
use borrow.Author.Tests.{leb-true}
use Rattle.std.specs.Prelude.{Result, Ok, Err}
use Rattle.octets.specs.Numbers.{le_at}
use Rattle.types.specs.Codes.{need}
use Rattle.types.specs.Nodes.{broadcast_node}
use Rattle.types.specs.RequestedServices.{requested_code, requested_of}
use Rattle.types.specs.States.{state_code, state_of}
use Rattle.types.specs.declared.hal.PowerlinkError.TheVariants.{BufferTooShort, InvalidPlFrame}
use Rattle.types.specs.declared.requested_service.RequestedServiceId.{RequestedServiceId}
use Rattle.types.specs.declared.states.NmtState.{NmtState}
use Rattle.types.proofs.CodeCauses.{state_code_lem, requested_code_lem}
use Rattle.control.specs.declared.soa.SoAFrame.{SoAFrame}
use Rattle.poll.specs.Poll.{poll_fields_length}
use Rattle.poll.specs.declared.pres.PResFrame.{PResFrame}
use Rattle.frame.specs.declared.PowerlinkFrame.TheVariants.{PRes, SoA}
use Rattle.codec.specs.PRes.{pres_of, pres_by_state, read_pres}
use Rattle.codec.specs.SoA.{soa_of, soa_by_service, soa_by_state, read_soa}
use Rattle.codec.specs.declared.PayloadPlace.{PayloadPlace}
use Rattle.status_response.specs.Fields.{fields_of, read_fields, status_by_state}
use Rattle.status_response.specs.declared.fields.StatusFields.{StatusFields}
use Rattle.c_values.specs.Values.{pres_numbers, soa_numbers, status_numbers}
use Rattle.types.specs.declared.hal.PowerlinkError.{PowerlinkError}

module _ (s : List ℕ) (f : StatusFields) (read : Ok f ≡ read_fields s) where
  by_state : (a : Result NmtState PowerlinkError) → state_of (get_or s 2 0) ≡ a → Ok f ≡ status_by_state s a → state_code f.nmt_state ≡ get_or s 2 0
  by_state (Err x) e q = absurd (true≢false cc)
  by_state (Ok x) e q =
      let same : f ≡ fields_of s x = cc in
      ap (λ (g : StatusFields). state_code g.nmt_state) same ∙ state_code_lem (get_or s 2 0) x e

  pub front_there : (14 ≤ length s) × (state_code f.nmt_state ≡ get_or s 2 0)
  unfolding read_fields
  front_there = split (leb 14 (length s)) refl read
    where
      split : (t : Bool) → leb 14 (length s) ≡ t → Ok f ≡ need t (Err BufferTooShort) (status_by_state s (state_of (get_or s 2 0)))
          → (14 ≤ length s) × (state_code f.nmt_state ≡ get_or s 2 0)
      split true q a = (leb-true 14 (length s) q, by_state (state_of (get_or s 2 0)) refl a)
      split false q a = absurd (true≢false cc)

  -- the state's number is its octet
  pub state_told : (v : List ℕ) → v ≡ status_numbers f → set v 4 (get_or s 2 0) ≡ status_numbers f
  state_told v e = rw (e, ← front_there.1)

module _ (s : List ℕ) (st : NmtState) (n : ℕ) (read : Ok (PRes (pres_of s st n)) ≡ read_pres s) where
  pres_by : (a : Result NmtState PowerlinkError) → state_of (get_or s 3 0) ≡ a → Ok (PRes (pres_of s st n)) ≡ pres_by_state s a → state_code st ≡ get_or s 3 0
  pres_by (Err x) e q = absurd (true≢false cc)
  pres_by (Ok x) e q = split (leb (le_at 2 8 s) (length s - poll_fields_length)) q
    where
      split : (t : Bool) → Ok (PRes (pres_of s st n)) ≡ need t (Err BufferTooShort) (Ok (PRes (pres_of s x (le_at 2 8 s)))) → state_code st ≡ get_or s 3 0
      split true a = let same : pres_of s st n ≡ pres_of s x (le_at 2 8 s) = cc in ap (λ (f : PResFrame). state_code f.nmt_state) same ∙ state_code_lem (get_or s 3 0) x e
      split false a = absurd (true≢false cc)

  pres_state : state_code st ≡ get_or s 3 0
  unfolding read_pres
  pres_state = split (leb poll_fields_length (length s)) (eqb (get_or s 1 0) broadcast_node) read
    where
      split : (t u : Bool) → Ok (PRes (pres_of s st n)) ≡ need t (Err BufferTooShort) (need u (Err InvalidPlFrame) (pres_by_state s (state_of (get_or s 3 0))))
          → state_code st ≡ get_or s 3 0
      split true true a = pres_by (state_of (get_or s 3 0)) refl a
      split true false a = absurd (true≢false cc)
      split false u a = absurd (true≢false cc)

  -- the same of a PRes
  pub pres_told : (p : PayloadPlace) (v : List ℕ) → v ≡ pres_numbers (pres_of s st n) p → set v 10 (get_or s 3 0) ≡ pres_numbers (pres_of s st n) p
  pres_told p v e = rw (e, ← pres_state)

module _ (s : List ℕ) (st : NmtState) (service : RequestedServiceId) (read : Ok (SoA (soa_of s st service)) ≡ read_soa s) where
  soa_by_service_lem : (x : NmtState) (a : Result RequestedServiceId PowerlinkError) → requested_of (get_or s 6 0) ≡ a → state_of (get_or s 3 0) ≡ Ok x
      → Ok (SoA (soa_of s st service)) ≡ soa_by_service s x a → (state_code st ≡ get_or s 3 0) × (requested_code service ≡ get_or s 6 0)
  soa_by_service_lem x (Err y) e k q = absurd (true≢false cc)
  soa_by_service_lem x (Ok y) e k q =
      let same : soa_of s st service ≡ soa_of s x y = cc in (
        ap (λ (f : SoAFrame). state_code f.nmt_state) same ∙ state_code_lem (get_or s 3 0) x k,
        ap (λ (f : SoAFrame). requested_code f.req_service_id) same ∙ requested_code_lem (get_or s 6 0) y e,
      )

  soa_by_state_lem : (a : Result NmtState PowerlinkError) → state_of (get_or s 3 0) ≡ a → Ok (SoA (soa_of s st service)) ≡ soa_by_state s a
      → (state_code st ≡ get_or s 3 0) × (requested_code service ≡ get_or s 6 0)
  soa_by_state_lem (Err x) e q = absurd (true≢false cc)
  soa_by_state_lem (Ok x) e q = soa_by_service_lem x (requested_of (get_or s 6 0)) refl e q

  soa_codes : (state_code st ≡ get_or s 3 0) × (requested_code service ≡ get_or s 6 0)
  unfolding read_soa
  soa_codes = split (leb 9 (length s)) read
    where
      split : (t : Bool) → Ok (SoA (soa_of s st service)) ≡ need t (Err BufferTooShort) (soa_by_state s (state_of (get_or s 3 0)))
          → (state_code st ≡ get_or s 3 0) × (requested_code service ≡ get_or s 6 0)
      split true a = soa_by_state_lem (state_of (get_or s 3 0)) refl a
      split false a = absurd (true≢false cc)

  -- and of an SoA, its service's too
  pub soa_told : (p : PayloadPlace) (v : List ℕ) → v ≡ soa_numbers (soa_of s st service) p
      → set (set v 7 (get_or s 6 0)) 10 (get_or s 3 0) ≡ soa_numbers (soa_of s st service) p
  soa_told p v e = rw (e, ← soa_codes.0, ← soa_codes.1)
