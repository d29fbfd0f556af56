-- Laws of a ring, over any elements and number of places.
-- Assumes nothing.
use Prim.Native.Nat.{ℕ, zero, suc, ◌+◌, ◌-◌, ◌%◌, ◌≤◌, ◌<◌}
use mathlib.Core.Path.{◌≡◌, refl, sym, ap, ◌∙◌}
use mathlib.Core.List.{List, [], ◌∷◌, ◌++◌}
use mathlib.Core.Logic.{⊎_elim}
use native.Mathlib.Nat.{add-zero, zero-add, add-suc, suc-add, mod-mod, suc-mod, mod-lt, mod-add-mod, mod-eq_of_lt, mod-eq-sub-mod}
use native.Mathlib.Omega.{arith}
use lib.ListN.{length, take, drop}
use lib.Seq.{take_at, drop_at}
use Rattle.std.proofs.lemmas.Bool.{cases_lt}
use Rattle.records.specs.Ring.{ring}

-- two places of which one is 1 to size - 1 steps past the other differ
pub apart : (size x d : ℕ) → 0 < d → d < size → x % size ≡ (x + d) % size → ⊥
apart size x d pos small e =
    let r : ℕ = x % size in
    let below : r < size = mod-lt x (omega arith) in
    let e' : r ≡ (r + d) % size = e ∙ sym (mod-add-mod x size d) in
    ⊎_elim
    (λ (lt : r + d < size). omega (arith, e' ∙ mod-eq_of_lt lt))
    (λ (ge : size ≤ r + d).
    let lt : r + d - size < size = omega arith in
    omega (arith, e' ∙ mod-eq-sub-mod ge ∙ mod-eq_of_lt lt))
    (cases_lt (r + d) size)

module _ {A : Type 0} (el : ℕ → A) (size : ℕ) where
  -- a start is known up to whole turns
  pub ring_shift : (at n : ℕ) → ring el size (at % size) n ≡ ring el size at n
  unfolding ring
  ring_shift at zero = refl
  ring_shift at (suc n) =
      ap (λ (k : ℕ). el k ∷ ring el size (suc (at % size)) n) (mod-mod at size)
      ∙ ap (λ (l : List A). el (at % size) ∷ l)
      (sym (ring_shift (suc (at % size)) n) ∙ ap (λ (k : ℕ). ring el size k n) (sym (suc-mod at size)) ∙ ring_shift (suc at) n)

  -- one element more
  pub ring_snoc : (at n : ℕ) → ring el size at (suc n) ≡ ring el size at n ++ (el ((at + n) % size) ∷ [])
  unfolding ring
  ring_snoc at zero = ap (λ (k : ℕ). el (k % size) ∷ []) (sym (add-zero at))
  ring_snoc at (suc n) =
      ap (λ (l : List A). el (at % size) ∷ l)
      (ring_snoc (suc at) n ∙ ap (λ (k : ℕ). ring el size (suc at) n ++ (el (k % size) ∷ [])) (suc-add at n ∙ sym (add-suc at n)))

  -- a ring in two parts
  pub ring_append : (at m n : ℕ) → ring el size at (m + n) ≡ ring el size at m ++ ring el size (at + m) n
  unfolding ring
  ring_append at zero n = ap (ring el size at) (zero-add n) ∙ ap (λ (k : ℕ). ring el size k n) (sym (add-zero at))
  ring_append at (suc m) n =
      ap (ring el size at) (suc-add m n)
      ∙ ap (λ (l : List A). el (at % size) ∷ l)
      (ring_append (suc at) m n ∙ ap (λ (k : ℕ). ring el size (suc at) m ++ ring el size k n) (suc-add at m ∙ sym (add-suc at m)))

  pub length_ring : (at n : ℕ) → length (ring el size at n) ≡ n
  unfolding ring
  length_ring at zero = refl
  length_ring at (suc n) = ap suc (length_ring (suc at) n)

  pub ring_split : (at m n : ℕ) → m ≤ n → ring el size at n ≡ ring el size at m ++ ring el size (at + m) (n - m)
  ring_split at m n h =
      let e : n ≡ m + (n - m) = omega arith in
      ap (ring el size at) e ∙ ring_append at m (n - m)

  pub ring_take : (at m n : ℕ) → m ≤ n → take m (ring el size at n) ≡ ring el size at m
  ring_take at m n h =
      ap (take m) (ring_split at m n h) ∙ take_at (ring el size at m) (ring el size (at + m) (n - m)) m (length_ring at m)

  pub ring_drop : (at m n : ℕ) → m ≤ n → drop m (ring el size at n) ≡ ring el size (at + m) (n - m)
  ring_drop at m n h =
      ap (drop m) (ring_split at m n h) ∙ drop_at (ring el size at m) (ring el size (at + m) (n - m)) m (length_ring at m)

-- elements that agree on the places used
pub ring_same : {A : Type 0} (el el' : ℕ → A) (size at n : ℕ) → ((i : ℕ) → i < n → el' ((at + i) % size) ≡ el ((at + i) % size))
    → ring el' size at n ≡ ring el size at n
unfolding ring
ring_same el el' size at zero f = refl
ring_same {A} el el' size at (suc n) f =
    let h : el' (at % size) ≡ el (at % size) = rw add-zero at (f 0 (omega arith)) in
    ap (λ (x : A). x ∷ ring el' size (suc at) n) h
    ∙ ap (λ (l : List A). el (at % size) ∷ l)
    (ring_same el el' size (suc at) n (λ i l. rw (suc-add at i ∙ sym (add-suc at i)) (f (suc i) (omega arith))))
