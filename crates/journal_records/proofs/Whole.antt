-- How much of a journal is whole, and what is listed of a torn one that was cut there.
-- Assumes nothing.
use Prim.Native.Nat.{ℕ, ◌+◌, ◌*◌, ◌-◌, ◌/◌, ◌≤◌, ◌<◌}
use mathlib.Core.Path.{◌≡◌, refl, sym, ap, ◌∙◌}
use mathlib.Core.List.{List, ◌++◌, append_assoc}
use native.Mathlib.Omega.{arith}
use lib.ListN.{length, take, length-append}
use lib.Seq.{take_at}
use borrow.Author.Tests.{le-leb, eq-eqb}
use Rattle.std.specs.Prelude.{Ok}
use Rattle.journal_records.specs.Listing.{version1, header_line, layout_of, listing}
use Rattle.journal_records.specs.ReadBack.{Recorded, Journaled, none, more, fields_lines, journal_start}
use Rattle.journal_records.specs.Whole.{whole_len, TornReadsBack}
use Rattle.journal_records.proofs.ReadBack.{at_front, records_read_back}
use Rattle.journal_records.proofs.RecordLaws.{record_length}

module _ (version len : ℕ) where
  pub whole_known : 5 ≤ len → version ≡ 1 → whole_len version len ≡ Ok (5 + 21 * ((len - 5) / 21))
  unfolding whole_len layout_of version1
  whole_known h e = rw (le-leb 5 len h, eq-eqb version 1 e)

-- ---- records with others behind them

journaled_length : {xs : List Recorded} {octets : List ℕ} → Journaled xs octets → length octets ≡ 21 * length xs
journaled_length none = refl
journaled_length (more {x} {xs} {r} {n} {octets = octets} ranges W a j) =
    let is_written : r ≡ Ok n = cc in
    rw (at_front W is_written, length-append) (omega (arith, record_length x.node.0 x.entry, journaled_length j))

journaled_append : {xs ys : List Recorded} {octets behind : List ℕ} → Journaled xs octets → Journaled ys behind → Journaled (xs ++ ys) (octets ++ behind)
journaled_append none k = k
journaled_append (more ranges W a j) k = rw append_assoc (more ranges W a (journaled_append j k))

-- ---- a torn journal

module _ {xs : List Recorded} {octets : List ℕ} (torn : List ℕ) (j : Journaled xs octets) (short : length torn < version1.size) where
  whole_records : (length ((journal_start ++ octets) ++ torn) - 5) / 21 ≡ length xs
  unfolding version1
  whole_records = simp length-append (omega (arith, journaled_length j, short))

  ends : whole_len 1 (length ((journal_start ++ octets) ++ torn)) ≡ Ok (length (journal_start ++ octets))
  ends =
      whole_known 1 (length ((journal_start ++ octets) ++ torn)) (simp length-append (omega arith)) refl
      ∙ ap Ok (rw (whole_records, length-append) (omega (arith, journaled_length j)))

  module _ {ys : List Recorded} {appended : List ℕ} (n : ℕ) (k : Journaled ys appended) (e : whole_len 1 (length ((journal_start ++ octets) ++ torn)) ≡ Ok n) where
    listed : listing (take n ((journal_start ++ octets) ++ torn) ++ appended) ≡ header_line version1 ++ fields_lines (xs ++ ys)
    listed =
        let w : Ok (length (journal_start ++ octets)) ≡ Ok n = sym ends ∙ e in
        let q : length (journal_start ++ octets) ≡ n = cc in
        rw (take_at (journal_start ++ octets) torn n q, append_assoc) (records_read_back.records (xs ++ ys) (octets ++ appended) (journaled_append j k))

pub torn_reads_back : TornReadsBack
torn_reads_back =
    record {
      ends = λ xs octets torn j short. ends torn j short;
      listed = λ xs ys octets torn appended n j short k e. listed torn j short n k e;
    }
