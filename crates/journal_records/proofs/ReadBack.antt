-- Records that are written are listed with their fields.
-- Assumes nothing.
use Prim.Native.Nat.{ℕ, ◌≤◌}
use mathlib.Core.Bool.{Bool, true, false, true≢false}
use mathlib.Core.Path.{◌≡◌, refl, sym, ap, ◌∙◌}
use mathlib.Core.List.{List, [], ◌∷◌, ◌++◌}
use native.Mathlib.Nat.{mod-eq_of_lt, mod-lt}
use native.Mathlib.Omega.{arith}
use lib.Dec.{leb}
use lib.ListN.{length, take, drop, length-append}
use lib.Seq.{take_at, drop_at}
use Rattle.std.specs.Prelude.{Result, Ok, Err}
use Rattle.octets.specs.Mark.{is_marked}
use Rattle.octets.specs.Numbers.{le_at}
use Rattle.types.specs.Codes.{need}
use Rattle.types.specs.Modes.{mode_in}
use Rattle.types.specs.declared.NodeId.{NodeId}
use Rattle.error_entry.specs.Entry.{type_number, entry_type_of, entry_of, entry_bytes}
use Rattle.error_entry.specs.declared.ErrorEntry.{ErrorEntry}
use Rattle.error_entry.proofs.ReadBack.{entry_back_lem}
use Rattle.journal_records.specs.Listing.{node_of, recorded_entry, version1, header_line, record_line, fields_line, good_record, lines_in, lines, marked, layout_of, listing}
use Rattle.journal_records.specs.ReadBack.{Recorded, InWidth, Journaled, none, more, masked, fields_lines, journal_start, RecordsReadBack, example_octets, example_lines}
use Rattle.journal_records.specs.Record.{record_bytes, valid_record, WritesRecord}
use Rattle.journal_records.specs.declared.JournalError.TheVariants.{BufferTooShort, RecordInvalid}
use Rattle.journal_records.specs.Text.{digit, hex, decimal_in, decimal}
use Rattle.journal_records.proofs.ListLaws.{lines_none, lines_good, listing_good}
use Rattle.journal_records.proofs.RecordLaws.{record_length}
use Rattle.journal_records.proofs.Start.{start_mark, version_octets}
use Rattle.journal_records.specs.declared.JournalError.{JournalError}

-- the mask takes nothing away that is written
masked_bytes : (e : ErrorEntry) → entry_bytes e ≡ entry_bytes (masked e)
unfolding entry_bytes type_number
masked_bytes e = rw (mod-eq_of_lt (mod-lt e.entry_type.profile {m = 4096} (omega arith)))

module _ (x : Recorded) (w : InWidth x) (v : valid_record x.node.0 x.entry ≡ true) (rest : List ℕ) where
  record_entry : recorded_entry (record_bytes x.node.0 x.entry ++ rest) ≡ masked x.entry
  unfolding record_bytes
  record_entry =
      ap (λ (l : List ℕ). entry_of (l ++ rest)) (masked_bytes x.entry)
      ∙ entry_back_lem (masked x.entry) rest
      (record {
        profile = mod-lt x.entry.entry_type.profile (omega arith);
        code = w.code;
        seconds = w.seconds;
        nanoseconds = w.nanoseconds;
        information = w.information;
      })

  record_node : node_of (record_bytes x.node.0 x.entry ++ rest) ≡ x.node.0
  unfolding record_bytes
  record_node = refl

  still_valid : valid_record x.node.0 (masked x.entry) ≡ true
  unfolding valid_record
  still_valid = v

  record_long : 21 ≤ length (record_bytes x.node.0 x.entry ++ rest)
  record_long = rw length-append (omega (arith, record_length x.node.0 x.entry))

  first_record : lines version1 (record_bytes x.node.0 x.entry ++ rest) ≡ fields_line x.node.0 (masked x.entry) ++ lines version1 rest
  first_record =
      lines_good (record_bytes x.node.0 x.entry ++ rest) record_long (rw (record_node, record_entry) still_valid)
      ∙ rw (record_node, record_entry, drop_at (record_bytes x.node.0 x.entry) rest 21 (record_length x.node.0 x.entry))

-- a call that says a record is written has tested it, and put its octets to the front
module _ {node : NodeId} {e : ErrorEntry} {r : (Result ℕ JournalError)} {n : ℕ} {target after : List ℕ} (W : WritesRecord node e r target after) (w : r ≡ Ok n) where
  tested : (valid_record node.0 e ≡ true) × (n ≡ 21)
  tested = by_tests (leb 21 (length target)) (valid_record node.0 e) refl W.answer
    where
      by_tests : (b v : Bool) → valid_record node.0 e ≡ v → r ≡ need b (Err BufferTooShort) (need v (Err RecordInvalid) (Ok 21))
          → (valid_record node.0 e ≡ true) × (n ≡ 21)
      by_tests true true h a = (h, (cc))
      by_tests true false h a = absurd (true≢false cc)
      by_tests false v h a = absurd (true≢false cc)

  pub at_front : take n after ≡ record_bytes node.0 e
  at_front = rw (W.holds, w) (take_at (record_bytes node.0 e) (drop n target) n (record_length node.0 e ∙ sym tested.1))

records_lines : {xs : List Recorded} {octets : List ℕ} → Journaled xs octets → lines version1 octets ≡ fields_lines xs
records_lines none = lines_none [] refl
records_lines (more {x} {xs} {r} {n} {octets = octets} ranges W a j) =
    let is_written : r ≡ Ok n = cc in
    ap (λ (l : List ℕ). lines version1 (l ++ octets)) (at_front W is_written)
    ∙ first_record x ranges (tested W is_written).0 octets
    ∙ ap (λ (l : List ℕ). fields_line x.node.0 (masked x.entry) ++ l) (records_lines j)

start_long : (t : List ℕ) → 5 ≤ length (journal_start ++ t)
start_long t = rw length-append (omega arith)

example_listed : listing example_octets ≡ example_lines
unfolding listing layout_of marked is_marked le_at header_line version1 lines lines_in good_record valid_record record_line entry_of entry_type_of mode_in digit hex decimal decimal_in
example_listed = refl

pub records_read_back : RecordsReadBack
records_read_back =
    record {
      records =
          λ xs octets j.
          listing_good (journal_start ++ octets) (start_long octets) (start_mark (1 ∷ 0 ∷ octets)) (version_octets 80 76 66 1 0 octets)
          ∙ ap (λ (l : List ℕ). header_line version1 ++ l) (records_lines j);
      example = example_listed;
    }
