-- A frame that was read is written back, header and section, and under the table that it was read under.
-- Assumes nothing.
use Prim.Native.Nat.{ℕ, ◌+◌, ◌/◌, ◌%◌, ◌≤◌}
use mathlib.Core.Path.{◌≡◌, refl, sym, ap, ◌∙◌}
use mathlib.Core.List.{List}
use native.Mathlib.Omega.{arith}
use lib.Dec.{ltb, eqb}
use lib.ListN.{length, get_or, take, drop, take-append-drop, length-drop}
use lib.Seq.{get_or-drop, drop-drop}
use Rattle.std.specs.Prelude.{Ok}
use Rattle.octets.specs.Numbers.{be, be_at, be_bytes}
use Rattle.types.specs.Header.{eth_header_of, eth_bytes, ethertype_epl}
use Rattle.frame.specs.Write.{frame_bytes}
use Rattle.frame.specs.declared.PowerlinkFrame.{PowerlinkFrame}
use Rattle.frame.specs.declared.PowerlinkFrame.TheVariants.{Soc, PReq, PRes, SoA, ASnd}
use Rattle.codec.specs.Frame.{kind_of, kind_answer, read_section, read_frame, place_in_frame, deserialize_frame, payload_of}
use Rattle.codec.specs.declared.DeserializedFrame.{DeserializedFrame}
use Rattle.frame_laws.specs.WriteBack.{Octets, Plain, payload_in}
use Rattle.frame_laws.proofs.HeldUnder.{Held}
use Rattle.octets.proofs.Elements.{elements, elements_are, joined}
use Rattle.frame_laws.proofs.Passed.{kind_found, by_tests}
use Rattle.frame_laws.proofs.SectionAgain.{section_again}
use Rattle.frame_laws.proofs.Tests.{passed, enough}
use Rattle.frame_laws.proofs.Whole.{by_frame}

-- octets from a place on
pub octets_from : (s : List ℕ) → Octets s → (n : ℕ) → Octets (drop n s)
octets_from s o n i = rw (get_or-drop n s i 0) (o (n + i))

-- a number of two octets, high octet first
number_again : (s : List ℕ) → Octets s → be_bytes 2 (be 2 s) ≡ elements 2 0 s
number_again s o =
    let second : get_or (drop 1 s) 0 0 ≡ get_or s 1 0 = get_or-drop 1 s 0 0 in
    let high : be 2 s / 256 % 256 ≡ get_or s 0 0 = omega (arith, o 0, o 1) in
    let low : be 2 s % 256 ≡ get_or s 1 0 = omega (arith, o 1) in
    cc (high, low)

module _ (bytes : List ℕ) where
  header_again : Octets bytes → 14 ≤ length bytes → eth_bytes (eth_header_of bytes) ≡ take 14 bytes
  unfolding eth_bytes eth_header_of be_at
  header_again o long =
      joined 12 2 bytes _ _
      (joined 6 6 bytes _ _ (elements_are 6 0 bytes (omega arith)) (elements_are 6 0 (drop 6 bytes) (simp length-drop (omega arith))))
      (number_again (drop 12 bytes) (octets_from bytes o 12) ∙ elements_are 2 0 (drop 12 bytes) (simp length-drop (omega arith)))

  -- the payload's place in the frame is that in the section
  same_payload : (f : PowerlinkFrame) → payload_of (place_in_frame f (drop 14 bytes)) bytes ≡ payload_in f (drop 14 bytes)
  same_payload (Soc f) = refl
  same_payload (PReq f) = rw (drop-drop 10 14 bytes)
  same_payload (PRes f) = rw (drop-drop 10 14 bytes)
  same_payload (SoA f) = refl
  same_payload (ASnd f) = rw (drop-drop 4 14 bytes)

module _ (services bytes : List ℕ) (f : PowerlinkFrame) where
  -- a frame that is read has a header, and the rest is read as its section
  section_read : read_frame services bytes ≡ Ok f → (14 ≤ length bytes) × (read_section services (drop 14 bytes) ≡ Ok f)
  unfolding kind_of read_frame read_section
  section_read e =
      let k = kind_found services (kind_of bytes) (drop 14 bytes) f e in
      let r = enough 14 (length bytes) _ _ k.1 in
      let t = passed (eqb (be_at 2 12 bytes) ethertype_epl) _ _ r.1 in
      let same = (passed (ltb 14 (length bytes)) _ _ t.1).1 ∙ sym k.1 in
      (r.0, ap (λ k. kind_answer services k (drop 14 bytes)) same ∙ e)

  section_written : read_frame services bytes ≡ Ok f → Octets bytes → Plain f (drop 14 bytes)
      → frame_bytes (eth_header_of bytes) f (payload_of (place_in_frame f (drop 14 bytes)) bytes) ≡ bytes
  unfolding frame_bytes
  section_written e o c =
      let r = section_read e in
      rw (
        same_payload bytes f,
        header_again bytes o r.0,
        section_again services (drop 14 bytes) f (octets_from bytes o 14) r.1 c,
        take-append-drop 14 bytes,
      )

  section_held : read_frame services bytes ≡ Ok f → Held services f
  section_held e =
      by_tests services (drop 14 bytes) (Held services)
      (record {
        soc = λ _ _ bs. refl;
        preq = λ _ _ _ bs. refl;
        pres = λ _ _ _ _ _ bs. refl;
        soa = λ _ _ _ _ _ _ bs. refl;
        asnd = λ _ _ held bs. rw held;
      })
      f (section_read e).1

module _ (services bytes : List ℕ) (d : DeserializedFrame) where
  pub frame_again : Octets bytes → deserialize_frame services bytes ≡ Ok d → Plain d.frame (drop 14 bytes)
      → frame_bytes d.eth_header d.frame (payload_of d.payload_place bytes) ≡ bytes
  frame_again o =
      by_frame services bytes d (λ x. Plain x.frame (drop 14 bytes) → frame_bytes x.eth_header x.frame (payload_of x.payload_place bytes) ≡ bytes)
      (λ f q. section_written services bytes f q o)

  pub frame_held : deserialize_frame services bytes ≡ Ok d → Held services d.frame
  frame_held = by_frame services bytes d (λ x. Held services x.frame) (section_held services bytes)
