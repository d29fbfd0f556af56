-- A StatusResponse that was read is written back: what stands in front, and the entries.
-- Assumes nothing.
use Prim.Native.Nat.{ℕ, zero, suc, ◌+◌, ◌*◌, ◌≤◌}
use mathlib.Core.Path.{◌≡◌, refl, ◌∙◌}
use mathlib.Core.Bool.{Bool, true, false}
use mathlib.Core.List.{List, [], ◌∷◌, ◌++◌, append_assoc}
use native.Mathlib.Omega.{arith}
use lib.Dec.{leb}
use lib.ListN.{length, get_or, take, drop, replicate, take-append-drop, length-drop}
use lib.Seq.{drop-drop}
use borrow.Author.Tests.{leb-true}
use Rattle.std.specs.Prelude.{Ok}
use Rattle.octets.specs.Numbers.{bit}
use Rattle.types.specs.Codes.{need}
use Rattle.types.specs.PollFlags.{poll_octet}
use Rattle.types.specs.States.{state_code}
use Rattle.types.specs.declared.error_mode.ErrorEntryMode.{ErrorEntryMode}
use Rattle.types.specs.declared.error_mode.ErrorEntryMode.TheVariants.{Terminator, ErrorActive, ErrorCleared, EventOccurred}
use Rattle.section.specs.Write.{at_bit}
use Rattle.error_entry.specs.Entry.{entry_of}
use Rattle.error_entry.specs.declared.ErrorEntry.{ErrorEntry}
use Rattle.error_entry.proofs.ReadBack.{octets_back}
use Rattle.status_response.specs.BitField.{field_of, field_bytes}
use Rattle.status_response.specs.Fields.{en_bit, ec_bit, head_bytes, read_fields}
use Rattle.status_response.specs.Steps.{entries_in, status_entries, entries_bytes, status_bytes, unless_terminator}
use Rattle.status_response.specs.declared.fields.StatusFields.{StatusFields}
use Rattle.frame_laws.specs.WriteBack.{Octets, status_unnamed, PlainStatus}
use Rattle.frame_laws.proofs.Bits.{named_bits, poll_again}
use Rattle.octets.proofs.Elements.{elements, elements_are, joined}
use Rattle.frame_laws.proofs.FrameAgain.{octets_from}
use Rattle.frame_laws.proofs.StatusPassed.{StatusPassed, status_passed}

-- the octets of entries, and what stands behind them
abbrev Rejoined : List ErrorEntry → List ℕ → Type 0
Rejoined es s = entries_bytes es ++ drop (20 * length es) s ≡ s

-- nothing is an entry
none : (s : List ℕ) → Rejoined [] s
none s = refl

module _ (s : List ℕ) (o : Octets s) (es : List ErrorEntry) (rest : Rejoined es (drop 20 s)) where
  one_more : 20 ≤ length s → Rejoined (entry_of s ∷ es) s
  one_more long =
      let n : 20 * suc (length es) ≡ 20 + 20 * length es = omega arith in
      rw (n, octets_back s long o, append_assoc (take 20 s) (entries_bytes es), ← drop-drop (20 * length es) 20 s, rest, take-append-drop 20 s)

  by_mode : 20 ≤ length s → (m : ErrorEntryMode) → Rejoined (unless_terminator m (entry_of s ∷ es) []) s
  by_mode long Terminator = none s
  by_mode long ErrorActive = one_more long
  by_mode long ErrorCleared = one_more long
  by_mode long EventOccurred = one_more long

  by_length : (t : Bool) → leb 20 (length s) ≡ t → (m : ErrorEntryMode) → Rejoined (need t [] (unless_terminator m (entry_of s ∷ es) [])) s
  by_length true e m = by_mode (leb-true 20 (length s) e) m
  by_length false e m = none s

-- the entries that are read are written as the octets that they were read from
entries_again : (n : ℕ) (s : List ℕ) → Octets s → Rejoined (entries_in n s) s
entries_again zero s o = none s
entries_again (suc n) s o =
    by_length s o (entries_in n (drop 20 s)) (entries_again n (drop 20 s) (octets_from s o 20)) (leb 20 (length s)) refl (entry_of s).entry_type.mode

module _ (s : List ℕ) (o : Octets s) (f : StatusFields) (passed : StatusPassed s f) (c : PlainStatus s) where
  flags_are : at_bit en_bit (bit en_bit (get_or s 0 0)) + at_bit ec_bit (bit ec_bit (get_or s 0 0)) ≡ get_or s 0 0
  flags_are = omega (arith, named_bits (get_or s 0 0) (o 0) status_unnamed (5 ∷ 4 ∷ []) (omega arith) c.flags)

  field_are : field_bytes (field_of (drop 6 s)) ≡ take 8 (drop 6 s)
  unfolding field_bytes field_of
  field_are = let long = passed.long in elements_are 8 0 (drop 6 s) (simp length-drop (omega arith))

  front_are : (at_bit en_bit f.en_flag + at_bit ec_bit f.ec_flag) ∷ poll_octet f.pr f.rs.0 ∷ state_code f.nmt_state ∷ 0 ∷ 0 ∷ 0 ∷ [] ≡ elements 6 0 s
  front_are = rw passed.fields (cc (flags_are, poll_again (get_or s 1 0) (o 1) c.requests, passed.state, c.octet3, c.octet4, c.octet5))

  head_again : head_bytes f (field_of (drop 6 s)) ≡ take 14 s
  unfolding head_bytes
  head_again = let long = passed.long in joined 6 8 s _ _ (front_are ∙ elements_are 6 0 s (omega arith)) field_are

  behind_again : entries_bytes (status_entries s) ++ replicate 20 0 ≡ drop 14 s
  unfolding status_entries
  behind_again =
      rw (← c.behind, ← drop-drop (20 * length (status_entries s)) 14 s)
      (entries_again (length s) (drop 14 s) (octets_from s o 14))

pub status_again : (s : List ℕ) (f : StatusFields) → Octets s → read_fields s ≡ Ok f → PlainStatus s
    → status_bytes (head_bytes f (field_of (drop 6 s))) (status_entries s) ≡ s
unfolding status_bytes
status_again s f o e c =
    let p = status_passed s f e in
    let head : List ℕ = head_bytes f (field_of (drop 6 s)) in
    append_assoc head (entries_bytes (status_entries s)) (replicate 20 0)
    ∙ rw (head_again s o f p c, behind_again s o f p c, take-append-drop 14 s)
