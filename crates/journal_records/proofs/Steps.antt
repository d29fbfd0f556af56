-- What one step prints, consumes and writes.
-- Assumes nothing.
use Prim.Native.Nat.{ℕ, ◌≤◌, ◌<◌}
use mathlib.Core.Bool.{Bool, true}
use mathlib.Core.Path.{◌≡◌, refl, sym, ap, ◌∙◌}
use mathlib.Core.List.{List, [], ◌++◌, append-nil}
use native.Mathlib.Nat.{mod-lt}
use native.Mathlib.Omega.{arith}
use lib.ListN.{length, drop, length-append}
use lib.Seq.{drop-append-le}
use Rattle.octets.proofs.Le.{number_front}
use Rattle.octets.specs.Numbers.{le_at}
use Rattle.error_entry.specs.Entry.{entry_of, entry_type_of}
use Rattle.journal_records.specs.Listing.{node_of, recorded_entry, version1, header_line, refused_line, lines}
use Rattle.journal_records.specs.Parts.{Piece, step_of, text_from, due_after}
use Rattle.journal_records.specs.declared.listing.Phase.{Phase}
use Rattle.journal_records.proofs.LineLaws.{line_short}
use Rattle.journal_records.proofs.RecordLaws.{valid_id}
use Rattle.journal_records.proofs.ListLaws.{lines_none, lines_cut, lines_fault, lines_good, listing_cut, listing_unmarked, listing_version, listing_good, mark_front, node_front, entry_behind}
use Rattle.journal_records.proofs.TextLaws.{decimal_ten}
use Rattle.journal_records.proofs.Views.{Lined, View, view, waits, ends, full, lined, head_cut, unmarked, other_version, head_good, short, fault, good}

-- ---- one step

module _ (rest : List ℕ) where
  -- the text that is due from octets on, given whether they are the last
  abbrev Due : Phase → List ℕ → Bool → Piece → Type 0
  Due p s last q = (last ≡ true → rest ≡ []) → text_from p (s ++ rest) ≡ q.text ++ due_after q.answer q.phase (drop q.consumed s ++ rest)

  longer : (n : ℕ) (s : List ℕ) → n ≤ length s → n ≤ length (s ++ rest)
  longer n s h = rw length-append (omega arith)

  lined_due : {p : Phase} {s : List ℕ} {last : Bool} {q : Piece} → Lined p s last q → Due p s last q
  lined_due {s = s} (head_cut h) l = rw (l refl, append-nil, append-nil) (listing_cut s h)
  lined_due {s = s} (unmarked h m) l = rw append-nil (listing_unmarked (s ++ rest) (longer 5 s h) (mark_front s rest h ∙ m))
  lined_due {s = s} (other_version h m v) l =
      rw append-nil (listing_version (s ++ rest) (longer 5 s h) (mark_front s rest h ∙ m) (λ e. v (sym (number_front 2 3 s rest h) ∙ e)))
  lined_due {s = s} (head_good h m v) l =
      listing_good (s ++ rest) (longer 5 s h) (mark_front s rest h ∙ m) (number_front 2 3 s rest h ∙ v)
      ∙ ap (λ (t : List ℕ). header_line version1 ++ lines version1 t) (drop-append-le 5 s rest h)
  lined_due {s = s} (short h n) l = rw (l refl, append-nil, append-nil) (lines_cut s h n)
  lined_due {s = s} (fault h e) l =
      rw append-nil (lines_fault (s ++ rest) (longer 21 s h) (rw (node_front s rest h, entry_behind s rest h) e))
  lined_due {s = s} (good h e) l =
      lines_good (s ++ rest) (longer 21 s h) (rw (node_front s rest h, entry_behind s rest h) e)
      ∙ rw (node_front s rest h, entry_behind s rest h, drop-append-le 21 s rest h)

  view_due : {p : Phase} {s : List ℕ} {last : Bool} {room : ℕ} {q : Piece} → View p s last room q → Due p s last q
  view_due (waits h) l = refl
  view_due {s = s} (ends h) l = rw (l refl, append-nil) (lines_none s h)
  view_due (full h) l = refl
  view_due (lined h v) l = lined_due v l

  pub step_due : (p : Phase) (s : List ℕ) (last : Bool) (room : ℕ) → Due p s last (step_of p s last room)
  step_due p s last room = view_due (view p s last room)

-- ---- how much a step consumes and writes

-- what holds of a step's numbers
pub record Bounded (s : List ℕ) (room : ℕ) (q : Piece) : Type 0 where
  pub most : q.consumed ≤ length s
  pub fits : length q.text ≤ room

header_long : length (header_line version1) ≡ 37
unfolding header_line version1
header_long = refl

refused_long : (n : ℕ) → length (refused_line n) ≤ 55
unfolding refused_line
refused_long n = simp length-append (omega (arith, decimal_ten n))

profile_small : (s : List ℕ) → (recorded_entry s).entry_type.profile < 4096
unfolding entry_of entry_type_of
profile_small s = mod-lt (le_at 2 0 (drop 1 s)) (omega arith)

lined_bounded : {p : Phase} {s : List ℕ} {last : Bool} {q : Piece} (room : ℕ) → 55 ≤ room → Lined p s last q → Bounded s room q
lined_bounded room r (head_cut h) = record { most = omega arith; fits = omega (arith, refused_long 17) }
lined_bounded room r (unmarked h m) = record { most = omega arith; fits = omega (arith, refused_long 17) }
lined_bounded room r (other_version h m v) = record { most = omega arith; fits = omega (arith, refused_long 18) }
lined_bounded room r (head_good h m v) = record { most = h; fits = omega (arith, header_long) }
lined_bounded room r (short h n) = record { most = omega arith; fits = omega (arith, refused_long 19) }
lined_bounded room r (fault h e) = record { most = omega arith; fits = omega (arith, refused_long 19) }
lined_bounded {s = s} room r (good h e) =
    record {
      most = h;
      fits = omega (arith, line_short (node_of s) (recorded_entry s) (valid_id (node_of s) (recorded_entry s) e) (profile_small s));
    }

view_bounded : {p : Phase} {s : List ℕ} {last : Bool} {room : ℕ} {q : Piece} → View p s last room q → Bounded s room q
view_bounded (waits h) = record { most = omega arith; fits = omega arith }
view_bounded (ends h) = record { most = omega arith; fits = omega arith }
view_bounded (full h) = record { most = omega arith; fits = omega arith }
view_bounded (lined h v) = lined_bounded _ h v

pub step_bounded : (p : Phase) (s : List ℕ) (last : Bool) (room : ℕ) → Bounded s room (step_of p s last room)
step_bounded p s last room = view_bounded (view p s last room)
