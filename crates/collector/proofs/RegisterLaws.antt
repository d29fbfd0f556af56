-- Registering: the new node has the block that was free, EA 0 and an empty book; the others stay.
-- Assumes nothing.
use Prim.Native.Nat.{ℕ, zero, suc, ◌+◌, ◌-◌, ◌≤◌, ◌<◌}
use mathlib.Core.Path.{◌≡◌, refl, sym, ap, ◌∙◌}
use mathlib.Core.Bool.{Bool, true, false}
use mathlib.Core.List.{List}
use mathlib.Core.Logic.{⊎_elim}
use native.Mathlib.Omega.{arith}
use lib.ListN.{length}
use lib.Dec.{eqb}
use borrow.Author.Tests.{eq-eqb, ne_eqb}
use Rattle.std.proofs.lemmas.Bool.{cases_eq}
use Rattle.std.specs.Prelude.{Some}
use Rattle.types.specs.Codes.{pick}
use Rattle.collector.specs.Rules.{heads, Account, Same, fresh_account, with_account}
use Rattle.collector.specs.Layout.{collector_length, node_in, find_of, slot_of, account_in, account_of, vacant_of, box_of, placed_bytes}
use Rattle.collector.proofs.BlockLaws.{node_kept, place_kept}
use Rattle.collector.proofs.IdLaws.{first, found, find_first, slot_find, place_some, place_stays, slot_taken}
use Rattle.collector.proofs.PlacedLaws.{placed_node, placed_kept, placed_fresh}

-- ---- free blocks

-- how many of four tests hold
abbrev holding : Bool → Bool → Bool → Bool → ℕ
holding t₀ t₁ t₂ t₃ = pick t₀ 1 0 + pick t₁ 1 0 + pick t₂ 1 0 + pick t₃ 1 0

some_holds : (t₀ t₁ t₂ t₃ : Bool) → first t₀ t₁ t₂ t₃ < heads → 0 < holding t₀ t₁ t₂ t₃
some_holds true t₁ t₂ t₃ h = omega arith
some_holds false true t₂ t₃ h = omega arith
some_holds false false true t₃ h = omega arith
some_holds false false false true h = omega arith
some_holds false false false false h = absurd (let z : ⊥ = omega arith in z)

none_holds : (t₀ t₁ t₂ t₃ : Bool) → heads ≤ first t₀ t₁ t₂ t₃ → holding t₀ t₁ t₂ t₃ ≡ 0
none_holds true t₁ t₂ t₃ h = absurd (let z : ⊥ = omega arith in z)
none_holds false true t₂ t₃ h = absurd (let z : ⊥ = omega arith in z)
none_holds false false true t₃ h = absurd (let z : ⊥ = omega arith in z)
none_holds false false false true h = absurd (let z : ⊥ = omega arith in z)
none_holds false false false false h = refl

pub free_some : (s : List ℕ) → find_of s 0 < heads → 0 < vacant_of s
unfolding find_of vacant_of
free_some s h = some_holds (eqb (node_in s 0) 0) (eqb (node_in s 1) 0) (eqb (node_in s 2) 0) (eqb (node_in s 3) 0) h

pub free_none : (s : List ℕ) → heads ≤ find_of s 0 → vacant_of s ≡ 0
unfolding find_of vacant_of
free_none s h = none_holds (eqb (node_in s 0) 0) (eqb (node_in s 1) 0) (eqb (node_in s 2) 0) (eqb (node_in s 3) 0) h

module _ (s t : List ℕ) where
  -- a free block is given to a node
  free_less : (k : ℕ) → k < heads → ((o : ℕ) → (o ≡ k → ⊥) → node_in t o ≡ node_in s o) → node_in s k ≡ 0 → (node_in t k ≡ 0 → ⊥)
      → vacant_of t ≡ vacant_of s - 1
  unfolding vacant_of
  free_less zero h same was is =
      rw (same 1 (omega arith), same 2 (omega arith), same 3 (omega arith), eq-eqb (node_in s 0) 0 was, ne_eqb (node_in t 0) 0 is) (omega arith)
  free_less (suc zero) h same was is =
      rw (same 0 (omega arith), same 2 (omega arith), same 3 (omega arith), eq-eqb (node_in s 1) 0 was, ne_eqb (node_in t 1) 0 is) (omega arith)
  free_less (suc (suc zero)) h same was is =
      rw (same 0 (omega arith), same 1 (omega arith), same 3 (omega arith), eq-eqb (node_in s 2) 0 was, ne_eqb (node_in t 2) 0 is) (omega arith)
  free_less (suc (suc (suc zero))) h same was is =
      rw (same 0 (omega arith), same 1 (omega arith), same 2 (omega arith), eq-eqb (node_in s 3) 0 was, ne_eqb (node_in t 3) 0 is) (omega arith)
  free_less (suc (suc (suc (suc k)))) h same was is = absurd (let z : ⊥ = omega arith in z)

-- ---- finding

-- nothing is found, so no block has the node ID
module _ (s : List ℕ) (b : ℕ) (h : heads ≤ find_of s b) where
  nothing : holding (eqb (node_in s 0) b) (eqb (node_in s 1) b) (eqb (node_in s 2) b) (eqb (node_in s 3) b) ≡ 0
  unfolding find_of
  nothing = none_holds (eqb (node_in s 0) b) (eqb (node_in s 1) b) (eqb (node_in s 2) b) (eqb (node_in s 3) b) h

  not_found : (o : ℕ) → o < heads → node_in s o ≡ b → ⊥
  not_found zero l e = let g = rw (eq-eqb (node_in s 0) b e) at nothing in omega arith
  not_found (suc zero) l e = let g = rw (eq-eqb (node_in s 1) b e) at nothing in omega arith
  not_found (suc (suc zero)) l e = let g = rw (eq-eqb (node_in s 2) b e) at nothing in omega arith
  not_found (suc (suc (suc zero))) l e = let g = rw (eq-eqb (node_in s 3) b e) at nothing in omega arith
  not_found (suc (suc (suc (suc o)))) l e = let z : ⊥ = omega arith in z

-- where the tests go the same way, the same block is found
find_same : (s t : List ℕ) (b : ℕ) → ((o : ℕ) → o < heads → eqb (node_in t o) b ≡ eqb (node_in s o) b) → find_of t b ≡ find_of s b
unfolding find_of
find_same s t b f = rw (f 0 (omega arith), f 1 (omega arith), f 2 (omega arith), f 3 (omega arith))

-- ---- by node ID

module _ (s : List ℕ) (i : ℕ) (size : length s ≡ collector_length) (real : 0 < i) (free : find_of s 0 < heads) where
  -- another node keeps its block
  slot_other : (j : ℕ) → (j ≡ i → ⊥) → slot_of (placed_bytes s (find_of s 0) i) j ≡ slot_of s j
  unfolding slot_of
  slot_other j ne =
      let k : ℕ = find_of s 0 in
      let t : List ℕ = placed_bytes s k i in
      ⊎_elim
      (λ (z : j ≡ 0). rw (eq-eqb j 0 z))
      (λ (nz : j ≡ 0 → ⊥).
      ap (pick (eqb j 0) heads)
      (find_same s t j
      (λ o l.
      ⊎_elim
      (λ (e : o ≡ k).
      let a : node_in t o ≡ i = ap (node_in t) e ∙ placed_node s k i size free in
      let c : node_in s o ≡ 0 = ap (node_in s) e ∙ found s 0 free in
      ne_eqb (node_in t o) j (λ q. ne (sym q ∙ a)) ∙ sym (ne_eqb (node_in s o) j (λ q. nz (sym q ∙ c))))
      (λ (n : o ≡ k → ⊥). ap (λ (x : ℕ). eqb x j) (node_kept s t k (placed_kept s k i) o n))
      (cases_eq o k))))
      (cases_eq j 0)

  module _ (unknown : heads ≤ find_of s i) where
    -- the new node's block is the one that was free
    slot_new : slot_of (placed_bytes s (find_of s 0) i) i ≡ find_of s 0
    slot_new =
        let k : ℕ = find_of s 0 in
        let t : List ℕ = placed_bytes s k i in
        slot_find t i real
        ∙ find_first t i k free (placed_node s k i size free)
        (λ o l q. not_found s i unknown o (omega arith) (sym (node_kept s t k (placed_kept s k i) o (omega arith)) ∙ q))

    pub placed_means : Same (box_of (placed_bytes s (find_of s 0) i)) (record { accounts = (with_account i fresh_account (box_of s)).accounts; vacant = vacant_of s - 1 })
    placed_means =
        let k : ℕ = find_of s 0 in
        let t : List ℕ = placed_bytes s k i in
        let node : node_in t k ≡ i = placed_node s k i size free in
        record {
          accounts = λ j.
              ⊎_elim
              (λ (e : j ≡ i).
              rw (eq-eqb j i e)
              (ap (account_of t) e ∙ place_some t i (omega (arith, slot_new)) ∙ ap (λ (o : ℕ). Some (account_in t o)) slot_new
              ∙ ap (λ (p : Account). Some p) (placed_fresh s k i size free)))
              (λ (ne : j ≡ i → ⊥).
              rw (ne_eqb j i ne)
              (place_stays s t j (slot_other j ne)
              (λ h. place_kept s t k (placed_kept s k i) (slot_of s j) (λ q. slot_taken s j h (ap (node_in s) q ∙ found s 0 free)))))
              (cases_eq j i);
          vacant = free_less s t k free (λ o ne. node_kept s t k (placed_kept s k i) o ne) (found s 0 free) (λ q. let z : i ≡ 0 = sym node ∙ q in omega arith);
        }
