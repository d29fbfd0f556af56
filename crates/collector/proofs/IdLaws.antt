-- The places by node ID.
-- Assumes nothing.
use Prim.Native.Nat.{ℕ, zero, suc, ◌≤◌, ◌<◌}
use mathlib.Core.Path.{◌≡◌, refl, sym, ap, ◌∙◌}
use mathlib.Core.Bool.{Bool, true, false, true≢false}
use mathlib.Core.List.{List}
use mathlib.Core.Logic.{⊎_elim}
use native.Mathlib.Omega.{arith}
use lib.Dec.{eqb, ltb}
use borrow.Author.Tests.{eqb-true, eq-eqb, ne_eqb, lt-ltb, le-ltb}
use Rattle.std.proofs.lemmas.Bool.{cases_lt, cases_eq}
use Rattle.std.specs.Prelude.{is_some, Some, None}
use Rattle.types.specs.Codes.{pick}
use Rattle.collector.specs.Rules.{heads, Account, Same, with_account}
use Rattle.collector.specs.Layout.{node_in, find_of, slot_of, account_in, account_of, vacant_of, box_of, block_found}
use Rattle.collector.proofs.BlockLaws.{Kept, node_kept, place_kept}

-- the first of four tests that holds, or 4
abbrev pub first : Bool → Bool → Bool → Bool → ℕ
first t₀ t₁ t₂ t₃ = pick t₀ 0 (pick t₁ 1 (pick t₂ 2 (pick t₃ 3 heads)))

-- a block that was found has the node ID
pub found : (s : List ℕ) (b : ℕ) → find_of s b < heads → node_in s (find_of s b) ≡ b
unfolding find_of
found s b h = go (eqb (node_in s 0) b) (eqb (node_in s 1) b) (eqb (node_in s 2) b) (eqb (node_in s 3) b) refl refl refl refl h
  where
    go : (t₀ t₁ t₂ t₃ : Bool) → eqb (node_in s 0) b ≡ t₀ → eqb (node_in s 1) b ≡ t₁ → eqb (node_in s 2) b ≡ t₂ → eqb (node_in s 3) b ≡ t₃
        → first t₀ t₁ t₂ t₃ < heads → node_in s (first t₀ t₁ t₂ t₃) ≡ b
    go true t₁ t₂ t₃ e₀ e₁ e₂ e₃ h = eqb-true (node_in s 0) b e₀
    go false true t₂ t₃ e₀ e₁ e₂ e₃ h = eqb-true (node_in s 1) b e₁
    go false false true t₃ e₀ e₁ e₂ e₃ h = eqb-true (node_in s 2) b e₂
    go false false false true e₀ e₁ e₂ e₃ h = eqb-true (node_in s 3) b e₃
    go false false false false e₀ e₁ e₂ e₃ h = absurd (let z : ⊥ = omega arith in z)

-- the first block with a node ID is found
pub find_first : (s : List ℕ) (b k : ℕ) → k < heads → node_in s k ≡ b → ((o : ℕ) → o < k → node_in s o ≡ b → ⊥) → find_of s b ≡ k
unfolding find_of
find_first s b zero h e f = rw (eq-eqb (node_in s 0) b e)
find_first s b (suc zero) h e f = rw (ne_eqb (node_in s 0) b (f 0 (omega arith)), eq-eqb (node_in s 1) b e)
find_first s b (suc (suc zero)) h e f =
    rw (ne_eqb (node_in s 0) b (f 0 (omega arith)), ne_eqb (node_in s 1) b (f 1 (omega arith)), eq-eqb (node_in s 2) b e)
find_first s b (suc (suc (suc zero))) h e f =
    rw (
      ne_eqb (node_in s 0) b (f 0 (omega arith)),
      ne_eqb (node_in s 1) b (f 1 (omega arith)),
      ne_eqb (node_in s 2) b (f 2 (omega arith)),
      eq-eqb (node_in s 3) b e,
    )
find_first s b (suc (suc (suc (suc k)))) h e f = absurd (let z : ⊥ = omega arith in z)

pub found_block : (k : ℕ) → k < heads → block_found k ≡ Some k
found_block k h = rw (lt-ltb k heads h)

-- what a block that was found says of its number, and none
pub found_is : (k b : ℕ) → Some b ≡ block_found k → (k ≡ b) × (k < heads)
found_is k b e =
    ⊎_elim
    (λ (below : k < heads). let q : Some b ≡ Some k = e ∙ found_block k below in let z : k ≡ b = cc in (z, below))
    (λ (out : heads ≤ k). let q : Some b ≡ None = rw (le-ltb k heads out) at e in absurd (true≢false cc))
    (cases_lt k heads)

pub found_not : (k : ℕ) → None ≡ block_found k → heads ≤ k
found_not k e =
    ⊎_elim
    (λ (below : k < heads). let q : None ≡ Some k = e ∙ found_block k below in absurd (true≢false cc))
    (λ (out : heads ≤ k). out)
    (cases_lt k heads)

-- whether one was found
pub found_any : (k : ℕ) (b : Bool) → b ≡ is_some (block_found k) → b ≡ ltb k heads
found_any k b e = e ∙ either_way (ltb k heads)
  where
    either_way : (t : Bool) → is_some (pick t (Some k) None) ≡ t
    either_way true = refl
    either_way false = refl

pub slot_find : (s : List ℕ) (i : ℕ) → 0 < i → slot_of s i ≡ find_of s i
unfolding slot_of
slot_find s i h = rw (ne_eqb i 0 (omega arith))

-- a node that has a block has an ID that is not 0, and the block has it
slot_real : (s : List ℕ) (i : ℕ) → slot_of s i < heads → 0 < i
unfolding slot_of
slot_real s zero h = absurd (let z : ⊥ = omega arith in z)
slot_real s (suc i) h = omega arith

pub slot_node : (s : List ℕ) (i : ℕ) → slot_of s i < heads → node_in s (slot_of s i) ≡ i
slot_node s i h =
    let e : slot_of s i ≡ find_of s i = slot_find s i (slot_real s i h) in
    ap (node_in s) e ∙ found s i (omega arith)

pub slot_taken : (s : List ℕ) (i : ℕ) → slot_of s i < heads → node_in s (slot_of s i) ≡ 0 → ⊥
slot_taken s i h q = let r : 0 < i = slot_real s i h in let e : node_in s (slot_of s i) ≡ i = slot_node s i h in omega arith

-- two nodes have two blocks
slots_apart : (s : List ℕ) (a b : ℕ) → slot_of s a < heads → slot_of s b < heads → (a ≡ b → ⊥) → slot_of s a ≡ slot_of s b → ⊥
slots_apart s a b ha hb ne e = ne (sym (slot_node s a ha) ∙ ap (node_in s) e ∙ slot_node s b hb)

-- ---- what a node has

pub place_some : (s : List ℕ) (i : ℕ) → slot_of s i < heads → account_of s i ≡ Some (account_in s (slot_of s i))
unfolding account_of
place_some s i h = rw (lt-ltb (slot_of s i) heads h)

pub place_none : (s : List ℕ) (i : ℕ) → heads ≤ slot_of s i → account_of s i ≡ None
unfolding account_of
place_none s i h = rw (le-ltb (slot_of s i) heads h)

-- a node whose block is the same, at the same place or at none
pub place_stays : (s t : List ℕ) (i : ℕ) → slot_of t i ≡ slot_of s i → (slot_of s i < heads → account_in t (slot_of s i) ≡ account_in s (slot_of s i))
    → account_of t i ≡ account_of s i
place_stays s t i e same =
    ⊎_elim
    (λ (h : slot_of s i < heads).
    place_some t i (omega arith) ∙ ap (λ (k : ℕ). Some (account_in t k)) e ∙ ap (λ (p : Account). Some p) (same h) ∙ sym (place_some s i h))
    (λ (h : heads ≤ slot_of s i). place_none t i (omega arith) ∙ sym (place_none s i h))
    (cases_lt (slot_of s i) heads)

-- ---- the block of a node changes, and its ID stays

module _ (s t : List ℕ) (i : ℕ) (known : slot_of s i < heads) (kept : Kept s t (slot_of s i)) (node : node_in t (slot_of s i) ≡ node_in s (slot_of s i)) where
  nodes : (o : ℕ) → node_in t o ≡ node_in s o
  nodes o =
      ⊎_elim
      (λ (e : o ≡ slot_of s i). ap (node_in t) e ∙ node ∙ ap (node_in s) (sym e))
      (λ (ne : o ≡ slot_of s i → ⊥). node_kept s t (slot_of s i) kept o ne)
      (cases_eq o (slot_of s i))

  slots : (j : ℕ) → slot_of t j ≡ slot_of s j
  unfolding slot_of find_of
  slots j = rw (nodes 0, nodes 1, nodes 2, nodes 3)

  vacant : vacant_of t ≡ vacant_of s
  unfolding vacant_of
  vacant = rw (nodes 0, nodes 1, nodes 2, nodes 3)

  pub block_means : (p : Account) → account_in t (slot_of s i) ≡ p → Same (box_of t) (with_account i p (box_of s))
  block_means p is = record { accounts = accounts; vacant = vacant }
    where
      accounts : (j : ℕ) → account_of t j ≡ pick (eqb j i) (Some p) (account_of s j)
      accounts j =
          ⊎_elim
          (λ (e : j ≡ i).
          rw (eq-eqb j i e)
          (ap (account_of t) e ∙ place_some t i (omega (arith, slots i)) ∙ ap (λ (k : ℕ). Some (account_in t k)) (slots i) ∙ ap (λ (q : Account). Some q) is))
          (λ (ne : j ≡ i → ⊥).
          rw (ne_eqb j i ne)
          (place_stays s t j (slots j) (λ h. place_kept s t (slot_of s i) kept (slot_of s j) (slots_apart s j i h known ne))))
          (cases_eq j i)
