-- A block that is given to a node: its ID, EA 0 and an empty book.
-- Assumes nothing.
use Prim.Native.Nat.{ℕ, ◌+◌, ◌%◌, ◌<◌, min}
use mathlib.Core.Path.{◌≡◌, ap, ◌∙◌}
use mathlib.Core.Bool.{false}
use mathlib.Core.List.{List, []}
use native.Mathlib.Omega.{arith}
use lib.ListN.{length, set, length-set}
use lib.Seq.{get_or-set_same}
use lib.Dec.{eqb}
use Rattle.records.specs.Ring.{ring}
use Rattle.collector.specs.Rules.{heads, book_length, fresh_account}
use Rattle.collector.specs.Layout.{count_at, start_at, ea_at, node_at, collector_length, block, node_in, ea_in, count_in, book_in, account_in, placed_bytes}
use Rattle.collector.proofs.BlockLaws.{Kept, kept_again, kept_set, octet_set}

module _ (s : List ℕ) (k i : ℕ) where
  pub placed_kept : Kept s (placed_bytes s k i) k
  unfolding placed_bytes
  placed_kept =
      let s₁ : List ℕ = set s (block k + node_at) i in
      let s₂ : List ℕ = set s₁ (block k + ea_at) 0 in
      let s₃ : List ℕ = set s₂ (block k + start_at) 0 in
      kept_again s s₁ (set s₃ (block k + count_at) 0) k (kept_set s k node_at i (omega arith))
      (kept_again s₁ s₂ (set s₃ (block k + count_at) 0) k (kept_set s₁ k ea_at 0 (omega arith))
      (kept_again s₂ s₃ (set s₃ (block k + count_at) 0) k (kept_set s₂ k start_at 0 (omega arith)) (kept_set s₃ k count_at 0 (omega arith))))

  pub placed_length : length (placed_bytes s k i) ≡ length s
  unfolding placed_bytes
  placed_length = simp length-set

  module _ (size : length s ≡ collector_length) (place : k < heads) where
    pub placed_node : node_in (placed_bytes s k i) k ≡ i
    unfolding node_in placed_bytes
    placed_node =
        let s₁ : List ℕ = set s (block k + node_at) i in
        let s₂ : List ℕ = set s₁ (block k + ea_at) 0 in
        let s₃ : List ℕ = set s₂ (block k + start_at) 0 in
        octet_set s₃ k count_at 0 node_at (omega arith)
        ∙ octet_set s₂ k start_at 0 node_at (omega arith)
        ∙ octet_set s₁ k ea_at 0 node_at (omega arith)
        ∙ get_or-set_same s (block k + node_at) i 0 (omega arith)

    placed_ea : ea_in (placed_bytes s k i) k ≡ false
    unfolding ea_in placed_bytes
    placed_ea =
        let s₁ : List ℕ = set s (block k + node_at) i in
        let s₂ : List ℕ = set s₁ (block k + ea_at) 0 in
        let s₃ : List ℕ = set s₂ (block k + start_at) 0 in
        ap (λ (x : ℕ). eqb (x % 2) 1)
        (octet_set s₃ k count_at 0 ea_at (omega arith)
        ∙ octet_set s₂ k start_at 0 ea_at (omega arith)
        ∙ get_or-set_same s₁ (block k + ea_at) 0 0 (simp length-set (omega arith)))

    placed_count : count_in (placed_bytes s k i) k ≡ 0
    unfolding count_in placed_bytes
    placed_count =
        let s₃ : List ℕ = set (set (set s (block k + node_at) i) (block k + ea_at) 0) (block k + start_at) 0 in
        ap (λ (x : ℕ). min x book_length) (get_or-set_same s₃ (block k + count_at) 0 0 (simp length-set (omega arith)))

    placed_book : book_in (placed_bytes s k i) k ≡ []
    unfolding book_in ring
    placed_book = rw placed_count

    pub placed_fresh : account_in (placed_bytes s k i) k ≡ fresh_account
    placed_fresh = rw (placed_ea, placed_book)
