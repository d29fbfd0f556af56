-- Entries that are given as their octets: reading and writing them, four at a time, puts the octets.
-- Assumes nothing.
use Prim.Native.Nat.{ℕ, zero, suc, ◌+◌, ◌*◌, ◌-◌, ◌/◌, ◌%◌, ◌≤◌}
use mathlib.Core.Bool.{Bool, true, false, true≢false}
use mathlib.Core.Path.{◌≡◌, refl, sym, ap, ◌∙◌}
use mathlib.Core.List.{List}
use native.Mathlib.Nat.{zero-add}
use native.Mathlib.Omega.{arith}
use lib.ListN.{length, take, drop, replicate, length-append, length-drop}
use lib.Dec.{eqb, leb}
use lib.Seq.{sets, length-sets, take-add, take_all, get_or-drop, length-take-le}
use borrow.Author.Tests.{le-leb, eq-eqb, eqb-true, leb-true, leb-false}
use borrow.Rule.Slice.PartMut.{mid_of, put_mid}
use Rattle.octets.proofs.NumberBack.{Octets}
use Rattle.std.specs.Prelude.{Ok, Err}
use Rattle.octets.proofs.Sets.{sets_append}
use Rattle.section.proofs.Sections.{refuses, writes}
use Rattle.types.specs.Codes.{need}
use Rattle.types.specs.declared.hal.PowerlinkError.TheVariants.{BufferTooShort}
use Rattle.error_entry.specs.Entry.{entry_length, entry_of, read_entry, or_terminator}
use Rattle.error_entry.specs.declared.ErrorEntry.{ErrorEntry}
use Rattle.error_entry.proofs.Places.{sets_rest_from}
use Rattle.error_entry.proofs.ReadBack.{entries_read_back}
use Rattle.status_response.specs.BitField.{field_bytes}
use Rattle.status_response.specs.Given.{WritesWhole, entries_of, entries_given, given_fit}
use Rattle.status_response.specs.Fields.{front_length, head_bytes}
use Rattle.status_response.specs.Parts.{batch_of, entries_put}
use Rattle.status_response.specs.Steps.{entries_bytes, status_bytes, status_length}
use Rattle.status_response.specs.declared.bit_field.StaticErrorBitField.{StaticErrorBitField}
use Rattle.status_response.specs.declared.fields.StatusFields.{StatusFields}
use Rattle.status_response.proofs.WriteLaws.{put_is, status_length_lem}

entries_count : (n : ℕ) (s : List ℕ) → length (entries_of n s) ≡ n
entries_count zero s = refl
entries_count (suc n) s = ap suc (entries_count n (drop entry_length s))

entries_octets : (n : ℕ) (s : List ℕ) → entry_length * n ≤ length s → Octets s → entries_bytes (entries_of n s) ≡ take (entry_length * n) s
entries_octets zero s h o = refl
entries_octets (suc n) s h o =
    let t : entry_length * suc n ≡ entry_length + entry_length * n = omega arith in
    let rest : entries_bytes (entries_of n (drop entry_length s)) ≡ take (entry_length * n) (drop entry_length s) =
    entries_octets n (drop entry_length s) (simp length-drop (omega arith)) (λ i. rw get_or-drop (o (entry_length + i)))
    in
    rw (entries_read_back.octets s (omega arith) o, rest, t, take-add entry_length (entry_length * n) s)

-- ---- a group

read_whole : (s : List ℕ) → entry_length ≤ length s → or_terminator (read_entry s) ≡ entry_of s
unfolding read_entry
read_whole s h = rw (le-leb entry_length (length s) h)

-- the entries that are there are those of a batch
batch_is : (n m : ℕ) (s : List ℕ) → n ≤ m → entry_length * n ≤ length s → take n (batch_of m s) ≡ entries_of n s
batch_is zero m s l h = refl
batch_is (suc n) zero s l h = absurd (omega arith)
batch_is (suc n) (suc m) s l h =
    rw (read_whole s (omega arith), batch_is n m (drop entry_length s) (omega arith) (simp length-drop (omega arith)))

-- up to four of them are written as their octets
pub group_put : (s t u : List ℕ) (batch : List ErrorEntry) → length s ≤ 80 → length s % 20 ≡ 0 → Octets s → batch ≡ batch_of 4 s
    → u ≡ entries_put (take (length s / 20) batch) t (length (take (length s / 20) batch)) → u ≡ sets t front_length s
group_put s t u batch few whole o eb eu =
    let n : ℕ = length s / 20 in
    let is : take n batch ≡ entries_of n s = ap (take n) eb ∙ batch_is n 4 s (omega arith) (omega arith) in
    eu ∙ put_is (take n batch) t (length (take n batch)) (omega arith)
    ∙ ap (λ (es : List ErrorEntry). sets t front_length (entries_bytes es)) (take_all (length (take n batch)) (take n batch) (omega arith) ∙ is)
    ∙ ap (sets t front_length) (entries_octets n s (omega arith) o ∙ take_all (entry_length * n) s (omega arith))

-- and four of them, which are the batch
pub whole_put : (s t u : List ℕ) (batch : List ErrorEntry) → length s ≡ 80 → Octets s → batch ≡ batch_of 4 s
    → u ≡ entries_put batch t (length batch) → u ≡ sets t front_length s
whole_put s t u batch n o eb eu =
    let count : length batch ≡ 4 = ap length eb in
    let four : length s / 20 ≡ 4 = omega arith in
    let all : take (length s / 20) batch ≡ batch = take_all (length s / 20) batch (omega arith) in
    group_put s t u batch (omega arith) (omega arith) o eb (eu ∙ ap (λ (es : List ErrorEntry). entries_put es t (length es)) (sym all))

-- a group of k octets behind the first `at`, which are put already
module _ (at k : ℕ) (s t t₀ : List ℕ) (there : at + k ≤ length s) (fits : front_length + length s + entry_length ≤ length t₀)
    (put : t ≡ sets t₀ front_length (take at s)) where
  same : length t ≡ length t₀
  same = ap length put ∙ length-sets t₀ front_length (take at s)

  pub group_behind : (n : ℕ) (u : List ℕ) → n ≡ at + k → u ≡ sets (mid_of at (length t - at) t) front_length (take k (drop at s))
      → put_mid at (length t - at) t u ≡ sets t₀ front_length (take n s)
  group_behind n u en eu =
      let l : length (take at s) ≡ at = length-take-le at s (omega arith) in
      let place : at + front_length ≡ front_length + length (take at s) = omega (arith, l) in
      ap (put_mid at (length t - at) t) eu
      ∙ sets_rest_from at front_length t (take k (drop at s)) (omega (arith, same))
      ∙ ap (λ (v : List ℕ). sets v (at + front_length) (take k (drop at s))) put
      ∙ ap (λ (i : ℕ). sets (sets t₀ front_length (take at s)) i (take k (drop at s))) place
      ∙ sym (sets_append t₀ front_length (take at s) (take k (drop at s)))
      ∙ ap (sets t₀ front_length) (sym (take-add at k s) ∙ ap (λ (i : ℕ). take i s) (sym en))

-- all octets are put
pub all_put : (at : ℕ) (s t t₀ : List ℕ) → length s ≤ at → t ≡ sets t₀ front_length (take at s) → t ≡ sets t₀ front_length s
all_put at s t t₀ h e = e ∙ ap (sets t₀ front_length) (take_all at s h)

-- ---- the whole

both : (a b : Bool) → need a false b ≡ true → (a ≡ true) × (b ≡ true)
both true b e = (refl, e)
both false b e = absurd (true≢false cc)

pub given_fits : (s : List ℕ) (len : ℕ) → given_fit s len ≡ true → (length s % entry_length ≡ 0) × (status_length (length s / entry_length) ≤ len)
given_fits s len e =
    let b = both (eqb (length s % entry_length) 0) (leb (status_length (length s / entry_length)) len) e in
    (eqb-true _ 0 b.0, leb-true _ len b.1)

module _ (f : StatusFields) (g : StaticErrorBitField) (s t : List ℕ) where
  abbrev n : ℕ
  n = length s / entry_length

  abbrev whole : List ℕ
  whole = status_bytes (head_bytes f g) (entries_given s)

  head_length : length (head_bytes f g) ≡ front_length
  unfolding head_bytes field_bytes
  head_length = refl

  whole_length : length whole ≡ status_length n
  whole_length =
      let l = status_length_lem (head_bytes f g) (entries_given s) in
      let k = entries_count n s in
      let h = head_length in
      omega arith

  -- no whole entries, or a target that is too short for them
  refused : (b : Bool) → need b false (leb (status_length n) (length t)) ≡ false → WritesWhole b whole (Err BufferTooShort) t t
  refused true e = refuses whole t (omega (arith, whole_length, leb-false (status_length n) (length t) e))
  refused false e = (refl, refl, refl)

  pub status_refused : given_fit s (length t) ≡ false → WritesWhole (eqb (length s % entry_length) 0) whole (Err BufferTooShort) t t
  status_refused e = refused (eqb (length s % entry_length) 0) e

  module _ (o : Octets s) (fit : given_fit s (length t) ≡ true) where
    whole_entries : length s ≡ entry_length * n
    whole_entries = omega (arith, (given_fits s (length t) fit).0)

    three_copies : sets (sets (sets t 0 (head_bytes f g)) front_length s) (front_length + entry_length * n) (replicate entry_length 0) ≡ sets t 0 whole
    unfolding status_bytes
    three_copies =
        let l = whole_entries in
        rw (entries_octets n s (omega arith) o, take_all (entry_length * n) s (omega arith), ← l)
        (simp (sets_append, length-append, zero-add, head_length))

    pub status_written : (h t₁ t₂ t₃ : List ℕ) (k : ℕ) → h ≡ head_bytes f g → t₁ ≡ sets t 0 h → t₂ ≡ sets t₁ front_length s
        → t₃ ≡ sets t₂ (front_length + entry_length * n) (replicate entry_length 0) → k ≡ status_length n
        → WritesWhole (eqb (length s % entry_length) 0) whole (Ok k) t t₃
    status_written h t₁ t₂ t₃ k eh e₁ e₂ e₃ ek =
        let e : t₃ ≡ sets t 0 whole = e₃ ∙ rw (e₂, e₁, eh) three_copies in
        let b = given_fits s (length t) fit in
        rw (e, ek, eq-eqb _ 0 b.0) (writes whole t (status_length n) whole_length b.1)
