-- The listing by its first record, and of octets with others behind them.
-- Assumes nothing.
use Prim.Native.Nat.{ℕ, zero, suc, ◌≤◌, ◌<◌}
use mathlib.Core.Bool.{true, false}
use mathlib.Core.Path.{◌≡◌, refl, sym, ap, ◌∙◌}
use mathlib.Core.List.{List, [], ◌++◌}
use native.Mathlib.Omega.{arith}
use lib.Dec.{eqb}
use lib.ListN.{length, drop, length-drop, get_or-append}
use lib.Seq.{drop-append-le}
use borrow.Author.Tests.{le-leb, lt-leb, eq-eqb, ne_eqb}
use Rattle.std.proofs.lemmas.List.{nil_from_length}
use Rattle.octets.specs.Mark.{is_marked}
use Rattle.octets.specs.Numbers.{le_at}
use Rattle.types.specs.Codes.{pick, need}
use Rattle.error_entry.proofs.Front.{entry_front}
use Rattle.journal_records.specs.Listing.{node_of, recorded_entry, version1, header_line, record_line, refused_line, good_record, lines_in, lines, marked, layout_of, listing, fields_line}
use Rattle.journal_records.specs.Record.{valid_record}

-- ---- lines

no_octets : (n : ℕ) (s : List ℕ) → length s ≤ 0 → lines_in version1 n s ≡ []
unfolding lines_in
no_octets zero s h = refl
no_octets (suc n) s h = rw (nil_from_length s (omega arith))

module _ (n : ℕ) (same : (m : ℕ) (s : List ℕ) → length s ≤ n → length s ≤ m → lines_in version1 n s ≡ lines_in version1 m s) where
  one_more : (m : ℕ) (s : List ℕ) → length s ≤ suc n → length s ≤ m → lines_in version1 (suc n) s ≡ lines_in version1 m s
  unfolding lines_in version1
  one_more zero s h k = no_octets (suc n) s k
  one_more (suc m) s h k =
      ap (λ (l : List ℕ). pick (eqb (length s) 0) [] (need (good_record version1 s) (refused_line 19) (record_line version1 s ++ l)))
      (same m (drop 21 s) (rw length-drop (omega arith)) (rw length-drop (omega arith)))

-- more lines than there can be change nothing
lines_enough : (n m : ℕ) (s : List ℕ) → length s ≤ n → length s ≤ m → lines_in version1 n s ≡ lines_in version1 m s
lines_enough zero m s h k = no_octets zero s h ∙ sym (no_octets m s h)
lines_enough (suc n) m s h k = one_more n (lines_enough n) m s h k

pub lines_none : (s : List ℕ) → length s ≡ 0 → lines version1 s ≡ []
unfolding lines
lines_none s h = no_octets (length s) s (omega arith)

module _ (s : List ℕ) (some : length s ≡ 0 → ⊥) where
  first_line : (n : ℕ) → lines_in version1 (suc n) s ≡ need (good_record version1 s) (refused_line 19) (record_line version1 s ++ lines_in version1 n (drop 21 s))
  unfolding lines_in version1
  first_line n = rw (ne_eqb (length s) 0 some)

  -- the first line, and those of what follows the record
  lines_more : (n : ℕ) → length s ≡ suc n
      → lines version1 s ≡ need (good_record version1 s) (refused_line 19) (record_line version1 s ++ lines version1 (drop 21 s))
  unfolding lines
  lines_more n h =
      ap (λ (k : ℕ). lines_in version1 k s) h ∙ first_line n
      ∙ ap (λ (l : List ℕ). need (good_record version1 s) (refused_line 19) (record_line version1 s ++ l))
      (lines_enough n (length (drop 21 s)) (drop 21 s) (rw length-drop (omega arith)) (omega arith))

  some_more : (k : ℕ) → length s ≡ k → lines version1 s ≡ need (good_record version1 s) (refused_line 19) (record_line version1 s ++ lines version1 (drop 21 s))
  some_more zero h = absurd (some h)
  some_more (suc n) h = lines_more n h

  pub lines_first : lines version1 s ≡ need (good_record version1 s) (refused_line 19) (record_line version1 s ++ lines version1 (drop 21 s))
  lines_first = some_more (length s) refl

cut_bad : (s : List ℕ) → length s < 21 → good_record version1 s ≡ false
unfolding good_record version1
cut_bad s h = rw (lt-leb 21 (length s) h)

whole : (s : List ℕ) → 21 ≤ length s → good_record version1 s ≡ valid_record (node_of s) (recorded_entry s)
unfolding good_record version1
whole s h = rw (le-leb 21 (length s) h)

pub line_fields : (s : List ℕ) → record_line version1 s ≡ fields_line (node_of s) (recorded_entry s)
unfolding record_line version1 fields_line
line_fields s = refl

-- a record that is cut
pub lines_cut : (s : List ℕ) → length s < 21 → (length s ≡ 0 → ⊥) → lines version1 s ≡ refused_line 19
lines_cut s h some = lines_first s some ∙ rw (cut_bad s h)

module _ (s : List ℕ) (long : 21 ≤ length s) where
  pub lines_fault : valid_record (node_of s) (recorded_entry s) ≡ false → lines version1 s ≡ refused_line 19
  lines_fault e = lines_first s (λ z. omega (arith, z)) ∙ rw (whole s long, e)

  pub lines_good : valid_record (node_of s) (recorded_entry s) ≡ true
      → lines version1 s ≡ fields_line (node_of s) (recorded_entry s) ++ lines version1 (drop 21 s)
  lines_good e = lines_first s (λ z. omega (arith, z)) ∙ rw (whole s long, e, line_fields s)

-- ---- octets with others behind them

module _ (s rest : List ℕ) (long : 5 ≤ length s) where
  pub mark_front : marked (s ++ rest) ≡ marked s
  unfolding marked is_marked
  mark_front =
      rw (get_or-append s rest 0 0 (omega arith), get_or-append s rest 0 1 (omega arith), get_or-append s rest 0 2 (omega arith))

module _ (s rest : List ℕ) (long : 21 ≤ length s) where
  pub node_front : node_of (s ++ rest) ≡ node_of s
  node_front = get_or-append s rest 0 0 (omega arith)

  pub entry_behind : recorded_entry (s ++ rest) ≡ recorded_entry s
  entry_behind = rw (drop-append-le 1 s rest (omega arith)) (entry_front (drop 1 s) rest (rw length-drop (omega arith)))

-- ---- mark and version

pub listing_cut : (s : List ℕ) → length s < 5 → listing s ≡ refused_line 17
unfolding listing
listing_cut s h = rw (lt-leb 5 (length s) h)

module _ (s : List ℕ) (long : 5 ≤ length s) where
  pub listing_unmarked : marked s ≡ false → listing s ≡ refused_line 17
  unfolding listing
  listing_unmarked e = rw (le-leb 5 (length s) long, e)

  pub listing_version : marked s ≡ true → (le_at 2 3 s ≡ 1 → ⊥) → listing s ≡ refused_line 18
  unfolding listing layout_of
  listing_version e f = rw (le-leb 5 (length s) long, e, ne_eqb (le_at 2 3 s) 1 f)

  pub listing_good : marked s ≡ true → le_at 2 3 s ≡ 1 → listing s ≡ header_line version1 ++ lines version1 (drop 5 s)
  unfolding listing layout_of
  listing_good e f = rw (le-leb 5 (length s) long, e, eq-eqb (le_at 2 3 s) 1 f)
