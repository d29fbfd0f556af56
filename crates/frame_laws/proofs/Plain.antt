-- What is written has 0 in every bit and octet that its kind does not name, and its padding.
-- Assumes nothing.
use Prim.Native.Nat.{ℕ, ◌+◌, ◌*◌, ◌-◌, ◌/◌, ◌%◌, ◌^◌, ◌<◌}
use mathlib.Core.Path.{◌≡◌, refl, sym, ap, ◌∙◌}
use mathlib.Core.Bool.{Bool, true, false, true≢false}
use mathlib.Core.List.{List, [], ◌∷◌, ◌++◌, append-nil}
use native.Mathlib.Omega.{arith}
use lib.Dec.{eqb}
use lib.ListN.{length, replicate, length-append}
use lib.Seq.{take_at, drop_at}
use Rattle.octets.specs.Numbers.{bit}
use Rattle.types.specs.Codes.{pick}
use Rattle.types.specs.PollFlags.{poll_octet}
use Rattle.types.specs.declared.poll_flags.PRFlag.{PRFlag}
use Rattle.types.proofs.Priorities.{priority_small}
use Rattle.section.specs.Write.{at_bit, padded}
use Rattle.section.proofs.Sections.{padded_length}
use Rattle.control.specs.ASnd.{asnd_bytes, asnd_section}
use Rattle.control.specs.SoA.{soa_section}
use Rattle.control.specs.SoC.{soc_section}
use Rattle.poll.specs.PReq.{preq_bytes, preq_section}
use Rattle.poll.specs.PRes.{pres_bytes, pres_section}
use Rattle.frame.specs.Write.{frame_section}
use Rattle.frame.specs.declared.PowerlinkFrame.{PowerlinkFrame}
use Rattle.frame.specs.declared.PowerlinkFrame.TheVariants.{Soc, PReq, PRes, SoA, ASnd}
use Rattle.error_entry.specs.declared.ErrorEntry.{ErrorEntry}
use Rattle.status_response.specs.BitField.{field_bytes}
use Rattle.status_response.specs.Fields.{head_bytes}
use Rattle.status_response.specs.ReadBack.{EachInRange, until_terminator}
use Rattle.status_response.specs.Steps.{entries_bytes, status_bytes, status_entries}
use Rattle.status_response.specs.declared.bit_field.StaticErrorBitField.{StaticErrorBitField}
use Rattle.status_response.specs.declared.fields.StatusFields.{StatusFields}
use Rattle.status_response.proofs.ReadBack.{status_reads_back}
use Rattle.status_response.proofs.WriteLaws.{status_length_lem}
use Rattle.frame_laws.specs.ReadBack.{Faithful}
use Rattle.frame_laws.specs.WriteBack.{Clear, PaddedFrom, type_unnamed, soc_unnamed, preq_unnamed, pres_unnamed, poll_unnamed, soa_unnamed, Plain, status_unnamed, PlainStatus}
use Rattle.frame_laws.proofs.Flags.{two, three}

-- whether these bits of an octet are 0, as a test that antt computes
abbrev all_clear : List ℕ → ℕ → Bool
all_clear [] b = true
all_clear (k ∷ ks) b = pick (bit k b) false (all_clear ks b)

one_clear : (k : ℕ) (ks : List ℕ) (b : ℕ) (x : Bool) → bit k b ≡ x → (all_clear ks b ≡ true → Clear ks b) → pick x false (all_clear ks b) ≡ true
    → Clear (k ∷ ks) b
one_clear k ks b true e rest t = absurd (true≢false cc)
one_clear k ks b false e rest t = (e, rest t)

clears : (ks : List ℕ) (b : ℕ) → all_clear ks b ≡ true → Clear ks b
clears [] b t = tt
clears (k ∷ ks) b t = one_clear k ks b (bit k b) refl (clears ks b) t

-- the bits beside two flags, and beside three
module _ (ks : List ℕ) (i j : ℕ) where
  beside_two : ((x y : Bool) → all_clear ks (at_bit i x + at_bit j y) ≡ true) → (x y : Bool) → Clear ks (at_bit i x + at_bit j y)
  beside_two t x y = clears ks _ (t x y)

  beside_three : (k : ℕ) → ((x y : Bool) → all_clear ks (at_bit i x + at_bit j y + 2 ^ k) ≡ true)
      → ((x y : Bool) → all_clear ks (at_bit i x + at_bit j y + 0) ≡ true) → (x y z : Bool) → Clear ks (at_bit i x + at_bit j y + at_bit k z)
  beside_three k a b = three _ (λ x y. clears ks _ (a x y)) (λ x y. clears ks _ (b x y))

soc_flags : (x y : Bool) → Clear soc_unnamed (at_bit 7 x + at_bit 6 y)
soc_flags = beside_two soc_unnamed 7 6 (two _ refl refl refl refl)

soa_flags : (x y : Bool) → Clear soa_unnamed (at_bit 2 x + at_bit 1 y)
soa_flags = beside_two soa_unnamed 2 1 (two _ refl refl refl refl)

status_flags : (x y : Bool) → Clear status_unnamed (at_bit 5 x + at_bit 4 y)
status_flags = beside_two status_unnamed 5 4 (two _ refl refl refl refl)

preq_flags : (x y z : Bool) → Clear preq_unnamed (at_bit 5 x + at_bit 2 y + at_bit 0 z)
preq_flags = beside_three preq_unnamed 5 2 0 (two _ refl refl refl refl) (two _ refl refl refl refl)

pres_flags : (x y z : Bool) → Clear pres_unnamed (at_bit 5 x + at_bit 4 y + at_bit 0 z)
pres_flags = beside_three pres_unnamed 5 4 0 (two _ refl refl refl refl) (two _ refl refl refl refl)

poll_clear : (p : PRFlag) (n : ℕ) → Clear poll_unnamed (poll_octet p n)
unfolding poll_octet
poll_clear p n =
    let small : poll_octet p n < 64 = omega (arith, priority_small p) in
    let seventh : poll_octet p n / 128 % 2 ≡ 0 = omega arith in
    let sixth : poll_octet p n / 64 % 2 ≡ 0 = omega arith in
    (ap (λ (k : ℕ). eqb k 1) seventh, (ap (λ (k : ℕ). eqb k 1) sixth, tt))

-- the padding, behind n octets
padding : (bs : List ℕ) (n : ℕ) → length bs ≡ n → PaddedFrom n (padded bs)
unfolding padded
padding bs n e = rw (take_at bs (replicate (46 - length bs) 0) n e)

module _ (fields p : List ℕ) (n : ℕ) (e : n ≡ length p) where
  payload_padding : (k : ℕ) → length fields ≡ k → PaddedFrom (k + n) (padded (fields ++ p))
  payload_padding k ek = padding (fields ++ p) (k + n) (rw (length-append fields p, ek, e))

pub section_plain : (services : List ℕ) (f : PowerlinkFrame) (p : List ℕ) → Faithful services f p → Plain f (frame_section f p)
unfolding soc_section preq_section pres_section soa_section asnd_section padded
section_plain services (Soc f) p q =
    record {
      message = clears type_unnamed 1 refl;
      octet3 = refl;
      flags = soc_flags f.flags.mc f.flags.ps;
      octet5 = refl;
      behind = refl;
    }
section_plain services (PReq f) p q =
    record {
      message = clears type_unnamed 3 refl;
      octet3 = refl;
      flags = preq_flags f.flags.ms f.flags.ea f.flags.rd;
      octet5 = refl;
      octet7 = refl;
      behind = payload_padding (preq_bytes f) p _ q.0 10 refl;
    }
section_plain services (PRes f) p q =
    record {
      message = clears type_unnamed 4 refl;
      flags = pres_flags f.flags.ms f.flags.en f.flags.rd;
      requests = poll_clear f.flags.pr f.flags.rs.0;
      octet7 = refl;
      behind = payload_padding (pres_bytes f) p _ q.1.1.0 10 refl;
    }
section_plain services (SoA f) p q =
    record { message = clears type_unnamed 5 refl; flags = soa_flags f.flags.ea f.flags.er; octet5 = refl; behind = refl }
section_plain services (ASnd f) p q = record { message = clears type_unnamed 6 refl; long = omega (arith, padded_length (asnd_bytes f) p) }

pub status_plain : (f : StatusFields) (field : StaticErrorBitField) (es : List ErrorEntry) → EachInRange es → until_terminator es ≡ es
    → PlainStatus (status_bytes (head_bytes f field) es)
unfolding status_bytes head_bytes field_bytes
status_plain f field es each whole =
    let head : List ℕ = head_bytes f field in
    let s : List ℕ = status_bytes head es in
    let found : status_entries s ≡ es =
    ap status_entries (sym (append-nil s)) ∙ status_reads_back.entries f field es [] each ∙ whole in
    let front : length (head ++ entries_bytes es) ≡ 14 + 20 * length es =
    omega (arith, status_length_lem head es, length-append (head ++ entries_bytes es) (replicate 20 0)) in
    record {
      flags = status_flags f.en_flag f.ec_flag;
      requests = poll_clear f.pr f.rs.0;
      octet3 = refl;
      octet4 = refl;
      octet5 = refl;
      behind = rw found (drop_at (head ++ entries_bytes es) (replicate 20 0) (14 + 20 * length es) front);
    }
