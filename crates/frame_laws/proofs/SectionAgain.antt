-- A section that was read is written back, where what its kind does not name is 0.
-- Assumes nothing.
use Prim.Native.Nat.{ℕ, ◌+◌}
use mathlib.Core.Path.{◌≡◌, refl, sym, ap, ◌∙◌}
use mathlib.Core.List.{List, ◌++◌}
use native.Mathlib.Omega.{arith}
use lib.ListN.{take, drop}
use Rattle.std.specs.Prelude.{Ok}
use Rattle.octets.specs.Numbers.{le_at}
use Rattle.section.specs.Write.{padded}
use Rattle.control.specs.ASnd.{asnd_section}
use Rattle.control.specs.SoA.{soa_section}
use Rattle.control.specs.SoC.{soc_section}
use Rattle.poll.specs.PReq.{preq_section}
use Rattle.poll.specs.PRes.{pres_section}
use Rattle.frame.specs.Write.{frame_section}
use Rattle.frame.specs.declared.PowerlinkFrame.{PowerlinkFrame}
use Rattle.codec.specs.ASnd.{asnd_payload_length}
use Rattle.codec.specs.Frame.{read_section}
use Rattle.frame_laws.specs.WriteBack.{Octets, PaddedFrom, Plain, payload_in}
use Rattle.octets.proofs.Elements.{joined}
use Rattle.frame_laws.proofs.FieldsAgain.{soc_again, preq_again, pres_again, soa_again, asnd_again}
use Rattle.frame_laws.proofs.Passed.{by_tests}
use Rattle.frame_laws.proofs.Trimmed.{asnd_padding}

module _ (s fields : List ℕ) (k : ℕ) (e : fields ≡ take k s) where
  -- the fields as they were read, and the padding; with n octets of payload behind the fields
  alone : PaddedFrom k s → padded fields ≡ s
  alone p = ap padded e ∙ sym p

  with_payload : (n : ℕ) → PaddedFrom (k + n) s → padded (fields ++ take n (drop k s)) ≡ s
  with_payload n p = ap padded (joined k n s fields (take n (drop k s)) e refl) ∙ sym p

pub section_again : (services s : List ℕ) (f : PowerlinkFrame) → Octets s → read_section services s ≡ Ok f → Plain f s
    → frame_section f (payload_in f s) ≡ s
unfolding soc_section preq_section pres_section soa_section asnd_section
section_again services s f o =
    by_tests services s (λ g. Plain g s → frame_section g (payload_in g s) ≡ s)
    (record {
      soc = λ m long c. alone s _ 22 (soc_again s o m long c) c.behind;
      preq = λ m long fits c. with_payload s _ 10 (preq_again s o m long c) (le_at 2 8 s) c.behind;
      pres = λ m long st e fits c. with_payload s _ 10 (pres_again s o st m long e c) (le_at 2 8 s) c.behind;
      soa = λ m long st e q eq c. alone s _ 9 (soa_again s o st q m long e eq c) c.behind;
      asnd = λ m long held c. with_payload s _ 4 (asnd_again s o m long c) (asnd_payload_length s) (asnd_padding s (omega (arith, c.long)));
    })
    f
