-- The cases of a step, each from the tests that lead to it.
-- Assumes nothing.
use Prim.Native.Nat.{ℕ, ◌≤◌, ◌<◌}
use mathlib.Core.Bool.{Bool, true, false}
use mathlib.Core.Path.{◌≡◌}
use mathlib.Core.List.{List}
use lib.ListN.{length}
use borrow.Author.Tests.{le-leb, lt-leb, eq-eqb, ne_eqb}
use Rattle.std.specs.Prelude.{Ok, Err}
use Rattle.octets.specs.Numbers.{le_at}
use Rattle.journal_records.specs.Listing.{node_of, recorded_entry, version1, layout_of, header_line, record_line, good_record, marked, fields_line}
use Rattle.journal_records.specs.Parts.{stopped, refusal, one_line, header_step, record_step, phase_step, awaits, ended, step_of}
use Rattle.journal_records.specs.Record.{valid_record}
use Rattle.journal_records.specs.declared.listing.ListError.TheVariants.{BufferTooShort, NotAJournal, UnknownVersion, RecordInvalid}
use Rattle.journal_records.specs.declared.listing.Stop.TheVariants.{More, End}
use Rattle.journal_records.specs.declared.listing.Phase.{Phase}
use Rattle.journal_records.specs.declared.listing.Phase.TheVariants.{Header, Records}

module _ (s : List ℕ) where
  pub header_cut : length s < 5 → header_step s ≡ refusal NotAJournal Header
  unfolding header_step
  header_cut h = rw (lt-leb 5 (length s) h)

  module _ (long : 5 ≤ length s) where
    pub header_unmarked : marked s ≡ false → header_step s ≡ refusal NotAJournal Header
    unfolding header_step
    header_unmarked e = rw (le-leb 5 (length s) long, e)

    pub header_version : marked s ≡ true → (le_at 2 3 s ≡ 1 → ⊥) → header_step s ≡ refusal UnknownVersion Header
    unfolding header_step layout_of
    header_version e f = rw (le-leb 5 (length s) long, e, ne_eqb (le_at 2 3 s) 1 f)

    pub header_good : marked s ≡ true → le_at 2 3 s ≡ 1 → header_step s ≡ one_line 5 (header_line version1)
    unfolding header_step layout_of
    header_good e f = rw (le-leb 5 (length s) long, e, eq-eqb (le_at 2 3 s) 1 f)

  pub record_cut : length s < 21 → record_step s ≡ refusal RecordInvalid Records
  unfolding record_step version1 good_record
  record_cut h = rw (lt-leb 21 (length s) h)

  module _ (long : 21 ≤ length s) where
    pub record_fault : valid_record (node_of s) (recorded_entry s) ≡ false → record_step s ≡ refusal RecordInvalid Records
    unfolding record_step version1 good_record
    record_fault e = rw (le-leb 21 (length s) long, e)

    pub record_good : valid_record (node_of s) (recorded_entry s) ≡ true → record_step s ≡ one_line 21 (fields_line (node_of s) (recorded_entry s))
    unfolding record_step version1 good_record record_line fields_line
    record_good e = rw (le-leb 21 (length s) long, e)

module _ (p : Phase) (s : List ℕ) (last : Bool) (room : ℕ) where
  pub step_waits : awaits p (length s) last ≡ true → step_of p s last room ≡ stopped (Ok More) p
  unfolding step_of
  step_waits e = rw e

  module _ (enough : awaits p (length s) last ≡ false) where
    pub step_ends : ended p (length s) ≡ true → step_of p s last room ≡ stopped (Ok End) p
    unfolding step_of
    step_ends e = rw (enough, e)

    module _ (some : ended p (length s) ≡ false) where
      pub step_full : room < 55 → step_of p s last room ≡ stopped (Err BufferTooShort) p
      unfolding step_of
      step_full h = rw (enough, some, lt-leb 55 room h)

      pub step_by : (q : Phase) → 55 ≤ room → p ≡ q → step_of p s last room ≡ phase_step q s
      unfolding step_of
      step_by q h e = rw (enough, some, le-leb 55 room h, e)
