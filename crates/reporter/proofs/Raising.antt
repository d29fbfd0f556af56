-- What a raised entry does to what the octets mean: it is the last waiting one, and all else stays.
-- Assumes nothing.
use Prim.Native.Nat.{ℕ, suc, ◌+◌, ◌%◌, ◌<◌, min}
use mathlib.Core.Path.{◌≡◌, refl, ap, ◌∙◌}
use mathlib.Core.List.{List}
use native.Mathlib.Omega.{arith}
use lib.ListN.{length, get_or, set, length-set}
use lib.Seq.{get_or-set_same, get_or-set_other}
use lib.Dec.{eqb}
use Rattle.std.specs.Prelude.{Ok}
use Rattle.error_entry.specs.ReadBack.{InRange}
use Rattle.error_entry.specs.declared.ErrorEntry.{ErrorEntry}
use Rattle.records.specs.Records.{with_record}
use Rattle.records.specs.Ring.{ring}
use Rattle.records.proofs.RecordLaws.{octet_record, length_record}
use Rattle.records.proofs.RingLaws.{ring_same, ring_snoc}
use Rattle.reporter.specs.Layout.{waiting_at, open_at, start_at, en_at, id_at, reporter_length, places, control_length, en_of, start_of, open_of, waiting_of, record_place, entry_in, head_of, raised_bytes}
use Rattle.reporter.specs.Rules.{queue_length, batch_length, after_raise}
use Rattle.reporter.proofs.Entries.{entry_set, entry_other, entry_there}
use Rattle.reporter.proofs.Ranges.{open_small, waiting_of_lem, head_same}

-- one more waits, where fewer than 16 did
module _ (s : List ℕ) (room : waiting_of s < queue_length) where
  clamped : (t : List ℕ) → get_or t waiting_at 0 ≡ waiting_of s + 1 → waiting_of t ≡ suc (waiting_of s)
  clamped t e = rw (waiting_of_lem t, e) (omega arith)

module _ (s : List ℕ) (e : ErrorEntry) where
  abbrev place : ℕ
  place = start_of s + open_of s + waiting_of s

  abbrev put : List ℕ
  put = with_record s (record_place place) e

  octet_kept : (i : ℕ) → i < control_length → (i ≡ waiting_at → ⊥) → get_or (raised_bytes e s) i 0 ≡ get_or s i 0
  unfolding raised_bytes
  octet_kept i h ne = get_or-set_other put waiting_at i (waiting_of s + 1) 0 ne ∙ octet_record s (record_place place) e i (omega arith)

  start_kept : start_of (raised_bytes e s) ≡ start_of s
  unfolding start_of
  start_kept = ap (λ (x : ℕ). x % places) (octet_kept start_at (omega arith) (omega arith))

  open_kept : open_of (raised_bytes e s) ≡ open_of s
  unfolding open_of
  open_kept = ap (λ (x : ℕ). min x batch_length) (octet_kept open_at (omega arith) (omega arith))

  en_kept : en_of (raised_bytes e s) ≡ en_of s
  unfolding en_of
  en_kept = ap (λ (x : ℕ). eqb (x % 2) 1) (octet_kept en_at (omega arith) (omega arith))

  pub raised_length : length (raised_bytes e s) ≡ length s
  unfolding raised_bytes
  raised_length = length-set put waiting_at (waiting_of s + 1) ∙ length_record s (record_place place) e

  module _ (size : length s ≡ reporter_length) (room : waiting_of s < queue_length) where
    waiting_more : waiting_of (raised_bytes e s) ≡ suc (waiting_of s)
    unfolding raised_bytes
    waiting_more =
        let there : get_or (set put waiting_at (waiting_of s + 1)) waiting_at 0 ≡ waiting_of s + 1 =
        get_or-set_same put waiting_at (waiting_of s + 1) 0 (rw (length_record s (record_place place) e) (omega arith)) in
        clamped s room (set put waiting_at (waiting_of s + 1)) there

    entry_kept : (a i n : ℕ) → i < n → n < places → a + n ≡ place → entry_in (raised_bytes e s) ((a + i) % places) ≡ entry_in s ((a + i) % places)
    unfolding raised_bytes
    entry_kept a i n h k q =
        entry_set put waiting_at (waiting_of s + 1) ((a + i) % places) (omega arith)
        ∙ rw q at (entry_other s e a i n h k)

    batch_kept : ring (entry_in (raised_bytes e s)) places (start_of s) (open_of s) ≡ ring (entry_in s) places (start_of s) (open_of s)
    batch_kept =
        ring_same (entry_in s) (entry_in (raised_bytes e s)) places (start_of s) (open_of s)
        (λ i h. entry_kept (start_of s) i (open_of s + waiting_of s) (omega arith) (omega (arith, open_small s)) (omega arith))

    waiting_kept : ring (entry_in (raised_bytes e s)) places (start_of s + open_of s) (waiting_of s) ≡ ring (entry_in s) places (start_of s + open_of s) (waiting_of s)
    waiting_kept =
        ring_same (entry_in s) (entry_in (raised_bytes e s)) places (start_of s + open_of s) (waiting_of s)
        (λ i h. entry_kept (start_of s + open_of s) i (waiting_of s) h (omega arith) refl)

    last_is : InRange e → entry_in (raised_bytes e s) (place % places) ≡ e
    unfolding raised_bytes
    last_is range = entry_set put waiting_at (waiting_of s + 1) (place % places) (omega arith) ∙ entry_there s e place size range

    pub raised_means : InRange e → head_of (raised_bytes e s) ≡ after_raise (Ok tt) e (head_of s)
    unfolding head_of
    raised_means range =
        head_same (octet_kept id_at (omega arith) (omega arith)) en_kept
        (rw (start_kept, open_kept) batch_kept)
        (rw (start_kept, open_kept, waiting_more, ring_snoc (entry_in (raised_bytes e s)) places (start_of s + open_of s) (waiting_of s), waiting_kept, last_is range))
