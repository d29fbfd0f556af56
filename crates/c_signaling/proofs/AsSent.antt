-- For a host in C too, status entries make no difference to the box.
-- Assumes nothing.
use Prim.Native.Nat.{ℕ}
use mathlib.Core.Path.{◌≡◌, sym, ap, ◌∙◌}
use Rattle.types.specs.Causes.{Cause}
use Rattle.collector.specs.Rules.{read_cause}
use Rattle.c_values.specs.Answers.{RowTold}
use Rattle.signaling.proofs.Arriving.{reads_sent}
use Rattle.signaling.proofs.AsSent.{reads_once}
use Rattle.c_signaling.specs.Calls.{CAsSent}

-- a row tells one number, value and octet
told_once : {c d : Cause} {r r' k k₁ k₂ o o₁ o₂ : ℕ} → d ≡ c → RowTold c r k k₁ o o₁ → RowTold d r' k k₂ o o₂ → (r' ≡ r) × (k₂ ≡ k₁) × (o₂ ≡ o₁)
told_once e a b =
    let z = rw e at b in
    (z.cause ∙ sym a.cause, z.value ∙ sym a.value, z.octet ∙ sym a.octet)

pub c_as_sent : CAsSent
c_as_sent =
    record {
      reads = λ services f given s after after' r r' k k₁ k₂ o o₁ o₂ asnd y c d.
          let same = reads_once c.reads (reads_sent y services asnd d.reads) in
          let t = told_once (ap read_cause same.0) c.told d.told in
          (t.0, t.1, t.2, same.1);
    }
