-- A batch joins a book whole, in order, and its bit becomes EA.
-- Assumes nothing.
use Prim.Native.Nat.{ℕ, ◌+◌, ◌%◌, ◌≤◌, ◌<◌}
use mathlib.Core.Path.{◌≡◌, refl, sym, ap, ◌∙◌}
use mathlib.Core.Bool.{Bool, true, false}
use mathlib.Core.List.{List, [], ◌∷◌, ◌++◌, append-nil, append_assoc}
use native.Mathlib.Omega.{arith}
use lib.ListN.{length, set, length-set}
use lib.Seq.{get_or-set_same}
use lib.Dec.{eqb}
use Rattle.types.specs.Codes.{pick}
use Rattle.error_entry.specs.declared.ErrorEntry.{ErrorEntry}
use Rattle.status_response.specs.ReadBack.{EachInRange}
use Rattle.records.proofs.RingLaws.{ring_same}
use Rattle.collector.specs.Layout.{ea_at, collector_length, block, node_in, ea_in, start_in, count_in, entry_in, book_in, account_in, pushed_bytes, pushed_all, booked_bytes}
use Rattle.collector.specs.Rules.{with_book, with_ea, heads, book_length}
use Rattle.collector.proofs.BlockLaws.{Kept, kept_again, entry_set, kept_set}
use Rattle.collector.proofs.BookLaws.{pushed_length, pushed_node, pushed_kept, pushed_count, book_pushed, start_set, count_set, node_set}

module _ (k : ℕ) where
  all_length : (es : List ErrorEntry) (s : List ℕ) → length (pushed_all s k es) ≡ length s
  unfolding pushed_all
  all_length [] s = refl
  all_length (e ∷ es) s = all_length es (pushed_bytes s k e) ∙ pushed_length s k e

  all_node : (es : List ErrorEntry) (s : List ℕ) → node_in (pushed_all s k es) k ≡ node_in s k
  unfolding pushed_all
  all_node [] s = refl
  all_node (e ∷ es) s = all_node es (pushed_bytes s k e) ∙ pushed_node s k e

  all_kept : (es : List ErrorEntry) (s : List ℕ) → Kept s (pushed_all s k es) k
  unfolding pushed_all
  all_kept [] s = λ o j ne h. refl
  all_kept (e ∷ es) s =
      let t : List ℕ = pushed_bytes s k e in kept_again s t (pushed_all t k es) k (pushed_kept s k e) (all_kept es t)

  all_book : k < heads → (es : List ErrorEntry) (s : List ℕ) → length s ≡ collector_length → EachInRange es → count_in s k + length es ≤ book_length
      → book_in (pushed_all s k es) k ≡ book_in s k ++ es
  unfolding pushed_all
  all_book place [] s size each room = sym (append-nil (book_in s k))
  all_book place (e ∷ es) s size each room =
      let one : count_in (pushed_bytes s k e) k ≡ count_in s k + 1 = pushed_count s k e size place (omega arith) in
      all_book place es (pushed_bytes s k e) (pushed_length s k e ∙ size) each.1 (omega arith)
      ∙ ap (λ (l : List ErrorEntry). l ++ es) (book_pushed s k e size place (omega arith) each.0)
      ∙ append_assoc (book_in s k) (e ∷ []) es

-- ---- and its bit

book_set : (s : List ℕ) (k x : ℕ) → book_in (set s (block k + ea_at) x) k ≡ book_in s k
unfolding book_in
book_set s k x =
    rw (start_set s k ea_at x (omega arith), count_set s k ea_at x (omega arith))
    (ring_same (entry_in s k) (entry_in (set s (block k + ea_at) x) k) book_length (start_in s k) (count_in s k)
    (λ i _. entry_set s k ea_at x ((start_in s k + i) % book_length) (omega arith)))

ea_new : (s : List ℕ) (k : ℕ) → length s ≡ collector_length → k < heads → (en : Bool) → ea_in (set s (block k + ea_at) (pick en 1 0)) k ≡ en
unfolding ea_in
ea_new s k size place en =
    ap (λ (y : ℕ). eqb (y % 2) 1) (get_or-set_same s (block k + ea_at) (pick en 1 0) 0 (omega arith)) ∙ bit_back en
  where
    bit_back : (b : Bool) → eqb (pick b 1 0 % 2) 1 ≡ b
    bit_back true = refl
    bit_back false = refl

module _ (s : List ℕ) (k : ℕ) (en : Bool) (es : List ErrorEntry) where
  pub booked_length : length (booked_bytes s k en es) ≡ length s
  unfolding booked_bytes
  booked_length = length-set (pushed_all s k es) (block k + ea_at) (pick en 1 0) ∙ all_length k es s

  pub booked_node : node_in (booked_bytes s k en es) k ≡ node_in s k
  unfolding booked_bytes
  booked_node = node_set (pushed_all s k es) k ea_at (pick en 1 0) (omega arith) ∙ all_node k es s

  pub booked_kept : Kept s (booked_bytes s k en es) k
  unfolding booked_bytes
  booked_kept =
      let t : List ℕ = pushed_all s k es in
      kept_again s t (set t (block k + ea_at) (pick en 1 0)) k (all_kept k es s) (kept_set t k ea_at (pick en 1 0) (omega arith))

  pub booked_place : length s ≡ collector_length → k < heads → EachInRange es → count_in s k + length es ≤ book_length
      → account_in (booked_bytes s k en es) k ≡ with_ea en (with_book (book_in s k ++ es) (account_in s k))
  unfolding booked_bytes
  booked_place size place each room =
      rw (
        ea_new (pushed_all s k es) k (all_length k es s ∙ size) place en,
        book_set (pushed_all s k es) k (pick en 1 0),
        all_book k place es s size each room,
      )
