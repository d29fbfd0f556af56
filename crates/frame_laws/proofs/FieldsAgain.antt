-- The octets of the fields of each kind, as they were read.
-- Assumes nothing.
use Prim.Native.Nat.{ℕ, ◌+◌, ◌%◌, ◌≤◌}
use mathlib.Core.Path.{◌≡◌, sym, ◌∙◌}
use mathlib.Core.List.{List, [], ◌∷◌}
use native.Mathlib.Omega.{arith}
use lib.ListN.{length, get_or, take}
use Rattle.octets.specs.Numbers.{le_at}
use Rattle.octets.proofs.NumberBack.{number_again}
use Rattle.types.specs.PollFlags.{poll_octet, priority_at}
use Rattle.types.specs.RequestedServices.{requested_code}
use Rattle.types.specs.States.{state_code}
use Rattle.types.specs.declared.requested_service.RequestedServiceId.{RequestedServiceId}
use Rattle.types.specs.declared.states.NmtState.{NmtState}
use Rattle.control.specs.ASnd.{asnd_bytes}
use Rattle.control.specs.SoA.{soa_flag_bits, soa_bytes}
use Rattle.control.specs.SoC.{soc_flag_bits, soc_bytes}
use Rattle.poll.specs.PReq.{preq_flag_bits, preq_bytes}
use Rattle.poll.specs.PRes.{pres_flag_bits, pres_bytes}
use Rattle.codec.specs.ASnd.{asnd_of}
use Rattle.codec.specs.PReq.{preq_of}
use Rattle.codec.specs.PRes.{pres_flags_of, pres_of}
use Rattle.codec.specs.SoA.{soa_of}
use Rattle.codec.specs.SoC.{soc_of}
use Rattle.frame_laws.specs.WriteBack.{Octets, Clear, type_unnamed, soc_unnamed, PlainSoC, preq_unnamed, PlainPReq, pres_unnamed, PlainPRes, soa_unnamed, PlainSoA, PlainASnd}
use Rattle.frame_laws.proofs.Bits.{weight, eight, named_bits, seven_bits, poll_again}
use Rattle.octets.proofs.Elements.{elements, elements_are, joined}

module _ (s : List ℕ) (o : Octets s) where
  type_is : (n : ℕ) → Clear type_unnamed (get_or s 0 0) → get_or s 0 0 % 0x80 ≡ n → get_or s 0 0 ≡ n
  type_is n c e = sym (seven_bits (get_or s 0 0) (o 0) c) ∙ e

  -- the flags of octet 4, where the octet's other bits are clear
  flags_are : (ks ns : List ℕ) → weight ks (get_or s 4 0) + weight ns (get_or s 4 0) ≡ weight eight (get_or s 4 0) → Clear ks (get_or s 4 0)
      → weight ns (get_or s 4 0) ≡ get_or s 4 0
  flags_are = named_bits (get_or s 4 0) (o 4)

  soc_flags : PlainSoC s → soc_flag_bits (soc_of s).flags ≡ get_or s 4 0
  soc_flags c = omega (arith, flags_are soc_unnamed (7 ∷ 6 ∷ []) (omega arith) c.flags)

  soc_front : get_or s 0 0 % 0x80 ≡ 1 → PlainSoC s → 1 ∷ get_or s 1 0 ∷ get_or s 2 0 ∷ 0 ∷ soc_flag_bits (soc_of s).flags ∷ 0 ∷ [] ≡ elements 6 0 s
  soc_front m c = cc (type_is 1 c.message m, c.octet3, soc_flags c, c.octet5)

  pub soc_again : get_or s 0 0 % 0x80 ≡ 1 → 22 ≤ length s → PlainSoC s → soc_bytes (soc_of s) ≡ take 22 s
  soc_again m long c =
      joined 14 8 s _ _
      (joined 10 4 s _ _
      (joined 6 4 s _ _ (soc_front m c ∙ elements_are 6 0 s (omega arith)) (number_again s o 4 6 (omega arith)))
      (number_again s o 4 10 (omega arith)))
      (number_again s o 8 14 (omega arith))

  module _ (size : ℕ) where
    preq_flags : PlainPReq size s → preq_flag_bits (preq_of s size).flags ≡ get_or s 4 0
    preq_flags c = omega (arith, flags_are preq_unnamed (5 ∷ 2 ∷ 0 ∷ []) (omega arith) c.flags)

    preq_front : get_or s 0 0 % 0x80 ≡ 3 → PlainPReq size s
        → 3 ∷ get_or s 1 0 ∷ get_or s 2 0 ∷ 0 ∷ preq_flag_bits (preq_of s size).flags ∷ 0 ∷ get_or s 6 0 ∷ 0 ∷ [] ≡ elements 8 0 s
    preq_front m c = cc (type_is 3 c.message m, c.octet3, preq_flags c, c.octet5, c.octet7)

    pres_flags : (st : NmtState) → PlainPRes size s → pres_flag_bits (pres_of s st size).flags ≡ get_or s 4 0
    unfolding pres_flags_of
    pres_flags st c = omega (arith, flags_are pres_unnamed (5 ∷ 4 ∷ 0 ∷ []) (omega arith) c.flags)

    pres_front : (st : NmtState) → get_or s 0 0 % 0x80 ≡ 4 → state_code st ≡ get_or s 3 0 → PlainPRes size s
        → 4 ∷ get_or s 1 0 ∷ get_or s 2 0 ∷ state_code st ∷ pres_flag_bits (pres_of s st size).flags ∷ poll_octet (priority_at (get_or s 5 0)) (get_or s 5 0 % 8)
        ∷ get_or s 6 0 ∷ 0 ∷ [] ≡ elements 8 0 s
    pres_front st m e c = cc (type_is 4 c.message m, pres_flags st c, poll_again (get_or s 5 0) (o 5) c.requests, c.octet7)

  pub preq_again : get_or s 0 0 % 0x80 ≡ 3 → 10 ≤ length s → PlainPReq (le_at 2 8 s) s → preq_bytes (preq_of s (le_at 2 8 s)) ≡ take 10 s
  preq_again m long c =
      joined 8 2 s _ _ (preq_front (le_at 2 8 s) m c ∙ elements_are 8 0 s (omega arith)) (number_again s o 2 8 (omega arith))

  pub pres_again : (st : NmtState) → get_or s 0 0 % 0x80 ≡ 4 → 10 ≤ length s → state_code st ≡ get_or s 3 0 → PlainPRes (le_at 2 8 s) s
      → pres_bytes (pres_of s st (le_at 2 8 s)) ≡ take 10 s
  unfolding pres_flags_of
  pres_again st m long e c =
      joined 8 2 s _ _ (pres_front (le_at 2 8 s) st m e c ∙ elements_are 8 0 s (omega arith)) (number_again s o 2 8 (omega arith))

  module _ (st : NmtState) (q : RequestedServiceId) where
    soa_flags : PlainSoA s → soa_flag_bits (soa_of s st q).flags ≡ get_or s 4 0
    soa_flags c = omega (arith, flags_are soa_unnamed (2 ∷ 1 ∷ []) (omega arith) c.flags)

    soa_front : get_or s 0 0 % 0x80 ≡ 5 → state_code st ≡ get_or s 3 0 → requested_code q ≡ get_or s 6 0 → PlainSoA s → soa_bytes (soa_of s st q) ≡ elements 9 0 s
    soa_front m es eq c = cc (type_is 5 c.message m, soa_flags c, c.octet5)

    pub soa_again : get_or s 0 0 % 0x80 ≡ 5 → 9 ≤ length s → state_code st ≡ get_or s 3 0 → requested_code q ≡ get_or s 6 0 → PlainSoA s
        → soa_bytes (soa_of s st q) ≡ take 9 s
    soa_again m long es eq c = soa_front m es eq c ∙ elements_are 9 0 s (omega arith)

  asnd_front : get_or s 0 0 % 0x80 ≡ 6 → PlainASnd s → asnd_bytes (asnd_of s) ≡ elements 4 0 s
  asnd_front m c = cc (type_is 6 c.message m)

  pub asnd_again : get_or s 0 0 % 0x80 ≡ 6 → 4 ≤ length s → PlainASnd s → asnd_bytes (asnd_of s) ≡ take 4 s
  asnd_again m long c = asnd_front m c ∙ elements_are 4 0 s (omega arith)
