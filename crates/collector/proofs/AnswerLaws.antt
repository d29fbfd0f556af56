-- The cases of the answers, each from the tests that lead to it.
-- Assumes nothing.
use Prim.Native.Nat.{ℕ, zero, suc, ◌+◌, ◌≤◌, ◌<◌}
use mathlib.Core.Path.{◌≡◌}
use mathlib.Core.Bool.{Bool, true, false, beq, true≢false}
use mathlib.Core.List.{List}
use native.Mathlib.Omega.{arith}
use lib.ListN.{length}
use borrow.Author.Tests.{le-leb, lt-leb, lt-ltb}
use Rattle.std.specs.Prelude.{Ok, Err, None}
use Rattle.types.specs.Nodes.{is_cn_node_id}
use Rattle.error_entry.specs.declared.ErrorEntry.{ErrorEntry}
use Rattle.collector.specs.Layout.{collector_length, ea_in, find_of, slot_of, count_in, start_in, entry_in, account_in, account_of, vacant_of, box_of}
use Rattle.collector.specs.Rules.{heads, book_length, register_answer, book_answer, take_answer}
use Rattle.collector.specs.declared.ReadError.TheVariants.{BookFull}
use Rattle.collector.specs.declared.ReadOutcome.TheVariants.{Booked, Known}
use Rattle.collector.specs.declared.RegisterError.TheVariants.{IdOutOfRange, IdRegistered, Full}
use Rattle.collector.specs.declared.TakeError.TheVariants as taking
use Rattle.collector.proofs.BookLaws.{book_empty, book_taken, book_length_lem}
use Rattle.collector.proofs.IdLaws.{slot_find, place_some, place_none}
use Rattle.collector.proofs.RegisterLaws.{free_none, free_some}

-- ---- register

pub cn_low : (i : ℕ) → is_cn_node_id i ≡ true → 1 ≤ i
cn_low zero cn = absurd (true≢false cc)
cn_low (suc i) cn = omega arith

module _ (s : List ℕ) (i : ℕ) where
  pub register_bad : is_cn_node_id i ≡ false → (Err IdOutOfRange) ≡ register_answer i (box_of s)
  unfolding register_answer
  register_bad h = rw h

  module _ (cn : is_cn_node_id i ≡ true) where
    pub register_known : find_of s i < heads → (Err IdRegistered) ≡ register_answer i (box_of s)
    unfolding register_answer
    register_known h =
        let k : slot_of s i < heads = rw (slot_find s i (cn_low i cn)) h in
        rw (cn, place_some s i k)

    module _ (unknown : heads ≤ find_of s i) where
      nowhere : account_of s i ≡ None
      nowhere = place_none s i (rw (slot_find s i (cn_low i cn)) unknown)

      pub register_full : heads ≤ find_of s 0 → (Err Full) ≡ register_answer i (box_of s)
      unfolding register_answer
      register_full h = rw (cn, nowhere, free_none s h)

      pub register_new : find_of s 0 < heads → (Ok tt) ≡ register_answer i (box_of s)
      unfolding register_answer
      register_new h = rw (cn, nowhere, lt-ltb 0 (vacant_of s) (free_some s h))

-- ---- take

module _ (s : List ℕ) (i : ℕ) where
  pub take_unknown : heads ≤ slot_of s i → (Err taking.NotRegistered) ≡ take_answer (account_of s i)
  take_unknown h = rw (place_none s i h)

  module _ (known : slot_of s i < heads) where
    pub take_nothing : count_in s (slot_of s i) ≡ 0 → (Err taking.NothingBooked) ≡ take_answer (account_of s i)
    take_nothing h = rw (place_some s i known, book_empty s (slot_of s i) h)

    module _ (size : length s ≡ collector_length) (more : 0 < count_in s (slot_of s i)) where
      pub take_one : Ok (entry_in s (slot_of s i) (start_in s (slot_of s i))) ≡ take_answer (account_of s i)
      take_one = rw (place_some s i known, book_taken s (slot_of s i) size known more)

-- ---- read

module _ (s : List ℕ) (k : ℕ) (en : Bool) (es : List ErrorEntry) where
  pub book_known : beq en (ea_in s k) ≡ true → (Ok Known) ≡ book_answer en es (account_in s k)
  unfolding book_answer
  book_known same = rw same

  module _ (new : beq en (ea_in s k) ≡ false) where
    pub book_full : book_length < count_in s k + length es → (Err BookFull) ≡ book_answer en es (account_in s k)
    unfolding book_answer
    book_full h = rw (new, book_length_lem s k, lt-leb (count_in s k + length es) book_length h)

    pub book_room : count_in s k + length es ≤ book_length → (Ok Booked) ≡ book_answer en es (account_in s k)
    unfolding book_answer
    book_room h = rw (new, book_length_lem s k, le-leb (count_in s k + length es) book_length h)

pub ruleset book_laws = (book_known, book_full, book_room)
