-- Laws of a store of records: what is read after an entry is put, at its place and at others, and after one octet is stored.
-- Assumes nothing.
use Prim.Native.Nat.{ℕ, zero, suc, ◌+◌, ◌*◌, ◌≤◌, ◌<◌}
use mathlib.Core.Path.{◌≡◌, refl, sym, ap, ◌∙◌}
use mathlib.Core.Bool.{Bool, true, false}
use mathlib.Core.List.{List, [], ◌∷◌}
use mathlib.Core.Logic.{⊎_elim}
use native.Mathlib.Nat.{mul-le-mul_left, mul-suc}
use native.Mathlib.Omega.{arith}
use lib.Dec.{leb}
use lib.ListN.{length, take, drop, get_or, set}
use borrow.Author.Tests.{le-leb}
use lib.Seq.{sets, length-sets, get_or-drop, get_or-set_other}
use native.Mathlib.Numerals.{one-add}
use Rattle.std.proofs.lemmas.Bool.{cases_lt}
use Rattle.octets.specs.Numbers.{le, le_at}
use Rattle.octets.proofs.NumberBack.{Octets, number_small}
use Rattle.octets.proofs.ReadBack.{drop_sets}
use Rattle.types.specs.Codes.{pick}
use Rattle.error_entry.specs.Entry.{entry_type_of, entry_of, entry_bytes}
use Rattle.error_entry.specs.ReadBack.{InRange}
use Rattle.error_entry.specs.declared.ErrorEntry.{ErrorEntry}
use Rattle.error_entry.proofs.ReadBack.{entry_back_lem}
use Rattle.records.specs.Records.{entry_length, record_at, with_record}

-- ---- a record is known by its octets

-- octets in front, of a list that may be too short
le_front : (n : ℕ) (s : List ℕ) → le (take (suc n) s) ≡ get_or s 0 0 + 256 * le (take n (drop 1 s))
le_front zero [] = refl
le_front (suc n) [] = refl
le_front n (x ∷ s) = refl

le_same : (n : ℕ) (s t : List ℕ) → ((i : ℕ) → i < n → get_or s i 0 ≡ get_or t i 0) → le (take n s) ≡ le (take n t)
le_same zero s t same = refl
le_same (suc n) s t same =
    let front : get_or s 0 0 ≡ get_or t 0 0 = same 0 (omega arith) in
    let behind : le (take n (drop 1 s)) ≡ le (take n (drop 1 t)) =
    le_same n (drop 1 s) (drop 1 t) (λ i h. get_or-drop 1 s i 0 ∙ ap (λ (k : ℕ). get_or s k 0) (one-add i) ∙ same (suc i) (omega arith)
    ∙ ap (λ (k : ℕ). get_or t k 0) (sym (one-add i)) ∙ sym (get_or-drop 1 t i 0)) in
    rw (le_front n s, le_front n t, front, behind)

number_same : (s t : List ℕ) → ((i : ℕ) → i < entry_length → get_or s i 0 ≡ get_or t i 0) → (n at : ℕ) → at + n ≤ entry_length → le_at n at s ≡ le_at n at t
unfolding le_at
number_same s t same n at h =
    le_same n (drop at s) (drop at t) (λ i l. get_or-drop at s i 0 ∙ same (at + i) (omega arith) ∙ sym (get_or-drop at t i 0))

entry_same : (s t : List ℕ) → ((i : ℕ) → i < entry_length → get_or s i 0 ≡ get_or t i 0) → entry_of s ≡ entry_of t
unfolding entry_of
entry_same s t same =
    rw (
      number_same s t same 2 0 (omega arith),
      number_same s t same 2 2 (omega arith),
      number_same s t same 4 4 (omega arith),
      number_same s t same 4 8 (omega arith),
      number_same s t same 8 12 (omega arith),
    )

pub record_same_octets : (s t : List ℕ) (at : ℕ) → ((i : ℕ) → at ≤ i → i < at + entry_length → get_or s i 0 ≡ get_or t i 0) → record_at s at ≡ record_at t at
unfolding record_at
record_same_octets s t at same =
    entry_same (drop at s) (drop at t)
    (λ i h. get_or-drop at s i 0 ∙ same (at + i) (omega arith) (omega arith) ∙ sym (get_or-drop at t i 0))

-- ---- octets that a put leaves

pub bytes_length : (e : ErrorEntry) → length (entry_bytes e) ≡ entry_length
unfolding entry_bytes
bytes_length e = refl

sets_below : (vs l : List ℕ) (at i : ℕ) → i < at → get_or (sets l at vs) i 0 ≡ get_or l i 0
sets_below [] l at i h = refl
sets_below (v ∷ vs) l at i h = sets_below vs (set l at v) (suc at) i (omega arith) ∙ get_or-set_other l at i v 0 (omega arith)

sets_above : (vs l : List ℕ) (at i : ℕ) → at + length vs ≤ i → get_or (sets l at vs) i 0 ≡ get_or l i 0
sets_above [] l at i h = refl
sets_above (v ∷ vs) l at i h = sets_above vs (set l at v) (suc at) i (omega arith) ∙ get_or-set_other l at i v 0 (omega arith)

-- a store with an entry put, by whether its record fits
by_fit : (P : List ℕ → Type 0) (s : List ℕ) (at : ℕ) (e : ErrorEntry) → P (sets s at (entry_bytes e)) → P s → P (with_record s at e)
unfolding with_record
by_fit P s at e put kept = split (leb (at + entry_length) (length s))
  where
    split : (b : Bool) → P (pick b (sets s at (entry_bytes e)) s)
    split true = put
    split false = kept

module _ (s : List ℕ) (at : ℕ) (e : ErrorEntry) where
  pub length_record : length (with_record s at e) ≡ length s
  length_record = by_fit (λ (l : List ℕ). length l ≡ length s) s at e (length-sets s at (entry_bytes e)) refl

  pub octet_record : (i : ℕ) → i < at → get_or (with_record s at e) i 0 ≡ get_or s i 0
  octet_record i h = by_fit (λ (l : List ℕ). get_or l i 0 ≡ get_or s i 0) s at e (sets_below (entry_bytes e) s at i h) refl

  pub octet_record_above : (i : ℕ) → at + entry_length ≤ i → get_or (with_record s at e) i 0 ≡ get_or s i 0
  octet_record_above i h =
      by_fit (λ (l : List ℕ). get_or l i 0 ≡ get_or s i 0) s at e (sets_above (entry_bytes e) s at i (omega (arith, bytes_length e))) refl

  -- ---- records

  pub record_put : at + entry_length ≤ length s → with_record s at e ≡ sets s at (entry_bytes e)
  unfolding with_record
  record_put fits = rw (le-leb (at + entry_length) (length s) fits)

  pub record_same : at + entry_length ≤ length s → InRange e → record_at (with_record s at e) at ≡ e
  unfolding record_at
  record_same fits range =
      ap (λ (l : List ℕ). entry_of (drop at l)) (record_put fits)
      ∙ ap entry_of (drop_sets s at (entry_bytes e) (omega (arith, bytes_length e)))
      ∙ entry_back_lem e (drop (at + length (entry_bytes e)) s) range

  pub record_below : (b : ℕ) → b + entry_length ≤ at → record_at (with_record s at e) b ≡ record_at s b
  record_below b h = record_same_octets (with_record s at e) s b (λ i l m. octet_record i (omega arith))

  pub record_above : (b : ℕ) → at + entry_length ≤ b → record_at (with_record s at e) b ≡ record_at s b
  record_above b h = record_same_octets (with_record s at e) s b (λ i l m. octet_record_above i (omega arith))

-- of records side by side, from a base on and of any width that an entry has room in, another one is as it was
pub record_other : (s : List ℕ) (e : ErrorEntry) (base width i j : ℕ) → entry_length ≤ width → (j ≡ i → ⊥)
    → record_at (with_record s (base + width * i) e) (base + width * j) ≡ record_at s (base + width * j)
record_other s e base width i j wide ne =
    ⊎_elim
    (λ (h : i < j).
    let m : width * suc i ≤ width * j = mul-le-mul_left width (omega arith) in
    record_above s (base + width * i) e (base + width * j) (omega (arith, mul-suc width i)))
    (λ (h : j ≤ i).
    let m : width * suc j ≤ width * i = mul-le-mul_left width (omega arith) in
    record_below s (base + width * i) e (base + width * j) (omega (arith, mul-suc width j)))
    (cases_lt i j)

module _ (s : List ℕ) (i x at : ℕ) where
  pub record_set : i < at → record_at (set s i x) at ≡ record_at s at
  record_set h = record_same_octets (set s i x) s at (λ j l m. get_or-set_other s i j x 0 (omega arith))

-- what is read from octets is of the widths
pub in_range : (s : List ℕ) → Octets s → InRange (entry_of s)
unfolding entry_of entry_type_of
in_range s o =
    record {
      profile = omega arith;
      code = omega (arith, number_small s o 2 2);
      seconds = omega (arith, number_small s o 4 4);
      nanoseconds = omega (arith, number_small s o 4 8);
      information = omega (arith, number_small s o 8 12);
    }
