-- What closing the batch does to what the octets mean: the ring begins past it.
-- Assumes nothing.
use Prim.Native.Nat.{ℕ, ◌+◌, ◌%◌, min}
use mathlib.Core.Path.{◌≡◌, ap, ◌∙◌}
use mathlib.Core.List.{List}
use native.Mathlib.Nat.{add-zero, mod-mod}
use native.Mathlib.Omega.{arith}
use lib.ListN.{length, get_or, set, length-set}
use lib.Seq.{get_or-set_same, get_or-set_other}
use lib.Dec.{eqb}
use Rattle.std.specs.Prelude.{Ok}
use Rattle.records.specs.Ring.{ring}
use Rattle.records.proofs.RingLaws.{ring_shift}
use Rattle.reporter.specs.Layout.{waiting_at, open_at, start_at, en_at, id_at, reporter_length, places, en_of, start_of, open_of, waiting_of, entry_in, head_of, acknowledge_bytes}
use Rattle.reporter.specs.Rules.{queue_length, after_acknowledge}
use Rattle.reporter.specs.declared.ReadOutcome.TheVariants.{Closed}
use Rattle.reporter.proofs.Entries.{entry_set, ring_kept}
use Rattle.reporter.proofs.Ranges.{open_of_lem, head_same}

module _ (s : List ℕ) where
  abbrev begin : ℕ
  begin = (start_of s + open_of s) % places

  abbrev octets : List ℕ
  octets = set (set s start_at begin) open_at 0

  octet_kept : (i : ℕ) → (i ≡ start_at → ⊥) → (i ≡ open_at → ⊥) → get_or octets i 0 ≡ get_or s i 0
  octet_kept i a b = get_or-set_other (set s start_at begin) open_at i 0 0 b ∙ get_or-set_other s start_at i begin 0 a

  entry_kept : (p : ℕ) → entry_in octets p ≡ entry_in s p
  entry_kept p = entry_set (set s start_at begin) open_at 0 p (omega arith) ∙ entry_set s start_at begin p (omega arith)

  en_kept : en_of octets ≡ en_of s
  unfolding en_of
  en_kept = ap (λ (x : ℕ). eqb (x % 2) 1) (octet_kept en_at (omega arith) (omega arith))

  waiting_kept : waiting_of octets ≡ waiting_of s
  unfolding waiting_of
  waiting_kept = ap (λ (x : ℕ). min x queue_length) (octet_kept waiting_at (omega arith) (omega arith))

  pub closed_length : length (acknowledge_bytes (Ok Closed) s) ≡ length s
  closed_length = simp length-set

  module _ (size : length s ≡ reporter_length) where
    start_is : start_of octets ≡ begin
    unfolding start_of
    start_is =
        ap (λ (x : ℕ). x % places) (get_or-set_other (set s start_at begin) open_at start_at 0 0 (omega arith) ∙ get_or-set_same s start_at begin 0 (omega arith))
        ∙ mod-mod (start_of s + open_of s) places

    open_is : open_of octets ≡ 0
    open_is =
        let l : length (set s start_at begin) ≡ reporter_length = length-set s start_at begin ∙ size in
        rw (open_of_lem octets, get_or-set_same (set s start_at begin) open_at 0 0 (omega arith)) (omega arith)

    pub closed_means : head_of (acknowledge_bytes (Ok Closed) s) ≡ after_acknowledge (Ok Closed) (head_of s)
    unfolding head_of ring
    closed_means =
        head_same (octet_kept id_at (omega arith) (omega arith)) en_kept (rw open_is)
        (rw (start_is, open_is, waiting_kept, add-zero)
        (ring_kept s octets entry_kept begin (waiting_of s) ∙ ring_shift (entry_in s) places (start_of s + open_of s) (waiting_of s)))
