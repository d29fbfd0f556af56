-- The entries of a state after a store in front of them, and after an entry is put at a place of the ring.
-- Assumes nothing.
use Prim.Native.Nat.{ℕ, ◌+◌, ◌-◌, ◌*◌, ◌%◌, ◌≤◌, ◌<◌, min}
use mathlib.Core.Path.{◌≡◌, sym, ap, ◌∙◌}
use mathlib.Core.List.{List}
use mathlib.Core.Logic.{⊎_elim}
use native.Mathlib.Nat.{mod-mod}
use native.Mathlib.Omega.{arith}
use lib.ListN.{length, take, drop, set, drop_of_length-le}
use lib.Seq.{take_all}
use Rattle.std.proofs.lemmas.Bool.{cases_lt}
use Rattle.error_entry.specs.ReadBack.{InRange}
use Rattle.error_entry.specs.declared.ErrorEntry.{ErrorEntry}
use Rattle.records.specs.Records.{record_at, with_record}
use Rattle.records.specs.Ring.{ring}
use Rattle.records.proofs.RecordLaws.{record_same, record_other, record_set}
use Rattle.records.proofs.RingLaws.{apart, length_ring, ring_same, ring_take, ring_drop}
use Rattle.reporter.specs.Layout.{reporter_length, places, record_length, control_length, record_place, entry_in}

pub entry_set : (s : List ℕ) (i x p : ℕ) → i < control_length → entry_in (set s i x) p ≡ entry_in s p
entry_set s i x p h = record_set s i x (record_place p) (omega arith)

module _ (s t : List ℕ) (same : (p : ℕ) → entry_in t p ≡ entry_in s p) where
  pub ring_kept : (at n : ℕ) → ring (entry_in t) places at n ≡ ring (entry_in s) places at n
  ring_kept at n = ring_same (entry_in s) (entry_in t) places at n (λ i h. same ((at + i) % places))

module _ (s : List ℕ) (e : ErrorEntry) where
  -- an entry before place a + n, by fewer steps than the ring has places
  pub entry_other : (a i n : ℕ) → i < n → n < places
      → entry_in (with_record s (record_place (a + n)) e) ((a + i) % places) ≡ entry_in s ((a + i) % places)
  entry_other a i n h k =
      let z : a + n ≡ a + i + (n - i) = omega arith in
      record_other s e control_length record_length ((a + n) % places) ((a + i) % places % places) (omega arith)
      (λ q. apart places (a + i) (n - i) (omega arith) (omega arith) (sym (mod-mod (a + i) places) ∙ q ∙ ap (λ (x : ℕ). x % places) z))

  pub entry_there : (p : ℕ) → length s ≡ reporter_length → InRange e → entry_in (with_record s (record_place p) e) (p % places) ≡ e
  entry_there p size range =
      ap (λ (k : ℕ). record_at (with_record s (record_place p) e) (control_length + record_length * k)) (mod-mod p places)
      ∙ record_same s (record_place p) e (omega arith) range

-- at most k of a ring's entries, and the others
module _ (el : ℕ → ErrorEntry) (at n k : ℕ) where
  pub ring_first : take k (ring el places at n) ≡ ring el places at (min n k)
  ring_first =
      ⊎_elim
      (λ (h : n < k). let e : min n k ≡ n = omega arith in rw e (take_all k (ring el places at n) (rw (length_ring el places at n) (omega arith))))
      (λ (h : k ≤ n). let e : min n k ≡ k = omega arith in rw e (ring_take el places at k n h))
      (cases_lt n k)

  none_left : n < k → drop k (ring el places at n) ≡ ring el places (at + min n k) (n - min n k)
  unfolding ring
  none_left h =
      let e : n - min n k ≡ 0 = omega arith in
      rw e (drop_of_length-le (ring el places at n) {i = k} (rw (length_ring el places at n) (omega arith)))

  pub ring_others : drop k (ring el places at n) ≡ ring el places (at + min n k) (n - min n k)
  ring_others =
      ⊎_elim
      none_left
      (λ (h : k ≤ n). let e : min n k ≡ k = omega arith in rw e (ring_drop el places at k n h))
      (cases_lt n k)
