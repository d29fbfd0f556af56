-- Bounds of what the octets of a state mean, and heads by their parts.
-- Assumes nothing.
use Prim.Native.Nat.{ℕ, zero, suc, ◌+◌, ◌≤◌, ◌<◌, min}
use mathlib.Core.Path.{◌≡◌, refl, sym}
use mathlib.Core.Bool.{Bool, not}
use mathlib.Core.List.{List}
use native.Mathlib.Omega.{arith}
use lib.ListN.{length, get_or}
use lib.Dec.{eqb, ltb}
use borrow.Author.Tests.{lt-ltb, ne_eqb}
use Rattle.error_entry.specs.declared.ErrorEntry.{ErrorEntry}
use Rattle.records.specs.Ring.{ring}
use Rattle.records.proofs.RingLaws.{length_ring}
use Rattle.reporter.specs.Layout.{waiting_at, open_at, places, en_of, start_of, open_of, waiting_of, entry_in, head_of}
use Rattle.reporter.specs.Rules.{queue_length, batch_length, Head, is_empty}

pub start_small : (s : List ℕ) → start_of s < places
unfolding start_of
start_small s = omega arith

pub open_small : (s : List ℕ) → open_of s ≤ batch_length
unfolding open_of
open_small s = omega arith

pub waiting_small : (s : List ℕ) → waiting_of s ≤ queue_length
unfolding waiting_of
waiting_small s = omega arith

pub open_of_lem : (s : List ℕ) → open_of s ≡ min (get_or s open_at 0) batch_length
unfolding open_of
open_of_lem s = refl

pub waiting_of_lem : (s : List ℕ) → waiting_of s ≡ min (get_or s waiting_at 0) queue_length
unfolding waiting_of
waiting_of_lem s = refl

pub en_is : (s : List ℕ) → (head_of s).en ≡ en_of s
unfolding head_of
en_is s = refl

pub batch_length_lem : (s : List ℕ) → length (head_of s).batch ≡ open_of s
unfolding head_of
batch_length_lem s = length_ring (entry_in s) places (start_of s) (open_of s)

pub waiting_length : (s : List ℕ) → length (head_of s).waiting ≡ waiting_of s
unfolding head_of
waiting_length s = length_ring (entry_in s) places (start_of s + open_of s) (waiting_of s)

empty_ring : (el : ℕ → ErrorEntry) (at n : ℕ) → is_empty (ring el places at n) ≡ eqb n 0
unfolding ring
empty_ring el at zero = refl
empty_ring el at (suc n) = sym (ne_eqb (suc n) 0 (omega arith))

filled_ring : (el : ℕ → ErrorEntry) (at n : ℕ) → not (is_empty (ring el places at n)) ≡ ltb 0 n
unfolding ring
filled_ring el at zero = refl
filled_ring el at (suc n) = sym (lt-ltb 0 (suc n) (omega arith))

pub batch_empty : (s : List ℕ) → is_empty (head_of s).batch ≡ eqb (open_of s) 0
unfolding head_of
batch_empty s = empty_ring (entry_in s) (start_of s) (open_of s)

pub waiting_filled : (s : List ℕ) → not (is_empty (head_of s).waiting) ≡ ltb 0 (waiting_of s)
unfolding head_of
waiting_filled s = filled_ring (entry_in s) (start_of s + open_of s) (waiting_of s)

pub head_same : {i j : ℕ} {a b : Bool} {p q v w : List ErrorEntry} → i ≡ j → a ≡ b → p ≡ q → v ≡ w
    → ◌≡◌ {A = Head} (record { id = i; en = a; batch = p; waiting = v }) (record { id = j; en = b; batch = q; waiting = w })
head_same e f g h = cc
