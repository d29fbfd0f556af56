-- An ASnd section that is written is read back under every table that holds its service, and its payload.
-- Assumes nothing.
use Prim.Native.Nat.{ℕ, ◌+◌, ◌-◌, ◌≤◌, ◌<◌}
use mathlib.Core.Path.{◌≡◌, sym, ◌∙◌}
use mathlib.Core.Bool.{true}
use mathlib.Core.Logic.{⊎_elim}
use mathlib.Core.List.{List, ◌++◌}
use native.Mathlib.Omega.{arith}
use lib.ListN.{length, take, drop}
use lib.Seq.{take_at}
use borrow.Author.Tests.{le-leb, eq-eqb, ne_eqb}
use Rattle.std.proofs.lemmas.Bool.{cases_lt}
use Rattle.std.specs.Prelude.{Ok}
use Rattle.octets.specs.Trim.{trimmed_length}
use Rattle.octets.proofs.Trim.{trimmed_padded}
use Rattle.types.specs.Messages.{message_of}
use Rattle.services.specs.Table.{holds}
use Rattle.section.specs.Write.{padded}
use Rattle.section.proofs.Sections.{padded_length}
use Rattle.control.specs.ASnd.{asnd_bytes, asnd_section}
use Rattle.control.specs.declared.asnd.ASndFrame.{ASndFrame}
use Rattle.frame.specs.declared.PowerlinkFrame.TheVariants.{ASnd}
use Rattle.codec.specs.ASnd.{read_asnd, asnd_payload_length}
use Rattle.codec.specs.Frame.{kind_in, read_section}

pub asnd_back : (services : List ℕ) (f : ASndFrame) (p : List ℕ) → holds services f.service_id.0 ≡ true
    → read_section services (asnd_section f p) ≡ Ok (ASnd f)
unfolding message_of kind_in read_section read_asnd asnd_section padded
asnd_back services f p held = rw (le-leb 4 (length (asnd_section f p)) (omega arith), held)

module _ (f : ASndFrame) (p : List ℕ) where
  section_length : length (asnd_section f p) ≡ 4 + length p + (46 - (4 + length p))
  unfolding asnd_section
  section_length = padded_length (asnd_bytes f) p

  module _ (full : length p ≤ 42 → trimmed_length p ≡ length p) where
    trimmed : length p ≤ 42 → asnd_payload_length (asnd_section f p) ≡ length p
    unfolding asnd_payload_length asnd_section padded
    trimmed h =
        rw (eq-eqb (length (asnd_section f p)) 46 (omega (arith, section_length)))
        (trimmed_padded p (46 - length (asnd_bytes f ++ p)) ∙ full h)

    whole : 42 < length p → asnd_payload_length (asnd_section f p) ≡ length p
    unfolding asnd_payload_length asnd_section padded
    whole h =
        let other : length (asnd_section f p) ≡ 46 → ⊥ = λ e. omega (arith, section_length) in
        rw (ne_eqb (length (asnd_section f p)) 46 other)
        (omega (arith, section_length))

    pub asnd_length : asnd_payload_length (asnd_section f p) ≡ length p
    asnd_length = ⊎_elim whole trimmed (cases_lt 42 (length p))

    pub asnd_payload : take (asnd_payload_length (asnd_section f p)) (drop 4 (asnd_section f p)) ≡ p
    unfolding asnd_section padded
    asnd_payload = take_at p _ _ (sym asnd_length)
