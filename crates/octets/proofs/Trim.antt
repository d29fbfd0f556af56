-- Laws of `trimmed_length`, from the end of the list.
-- Assumes nothing.
use Prim.Native.Nat.{ℕ, zero, suc, ◌+◌, ◌≤◌, ◌<◌}
use mathlib.Core.Path.{◌≡◌, refl, sym, ap, ◌∙◌}
use mathlib.Core.List.{List, [], ◌∷◌, ◌++◌}
use native.Mathlib.Omega.{arith}
use lib.ListN.{length, take, drop, get_or, replicate, take-append-drop}
use lib.Seq.{take-suc, take-take, length-take-le}
use native.Mathlib.Nat.{le_of_lt}
use native.Mathlib.Numerals.{add-one}
use Rattle.octets.specs.Numbers.{le}
use Rattle.octets.specs.Trim.{extended, trimmed_length, TrimsTo, ZerosFrom}

snoc : (xs : List ℕ) (x : ℕ) → (x ≡ 0 → ⊥) → trimmed_length (xs ++ (x ∷ [])) ≡ suc (length xs)
snoc [] zero h = absurd (h refl)
snoc [] (suc x) h = refl
snoc (y ∷ xs) x h = ap (extended y) (snoc xs x h)

zeros : (xs : List ℕ) → le xs ≡ 0 → trimmed_length xs ≡ 0
zeros [] e = refl
zeros (x ∷ xs) e =
    let h : x ≡ 0 = omega arith in
    rw (h, zeros xs (omega arith))

append_zeros : (ys xs : List ℕ) → trimmed_length xs ≡ 0 → trimmed_length (ys ++ xs) ≡ trimmed_length ys
append_zeros [] xs e = e
append_zeros (y ∷ ys) xs e = ap (extended y) (append_zeros ys xs e)

-- zeros put at the end do not count
pub trimmed_padded : (xs : List ℕ) (n : ℕ) → trimmed_length (xs ++ replicate n 0) ≡ trimmed_length xs
trimmed_padded [] zero = refl
trimmed_padded [] (suc n) = ap (extended 0) (trimmed_padded [] n)
trimmed_padded (x ∷ xs) n = ap (extended x) (trimmed_padded xs n)

-- a group at the end that makes the number 0 does not count
pub group_dropped : (n : ℕ) (s kept before group : List ℕ) → kept ≡ take (length kept) s → TrimsTo s (length kept) → n ≤ length kept
    → before ≡ take n kept → group ≡ drop n kept → le group ≡ 0 → (before ≡ take (length before) s) × TrimsTo s (length before)
group_dropped n s kept before group ek t h eb eg z =
    let l : length before ≡ n = ap length eb ∙ length-take-le n kept h in
    let b : before ≡ take (length before) s =
    eb ∙ ap (take n) ek ∙ take-take n (length kept) s h ∙ ap (λ m. take m s) (sym l) in
    let e : before ++ group ≡ kept = rw (eb, eg) (take-append-drop n kept) in (
      b,
      record {
        within = omega (arith, t.within);
        same = ap trimmed_length (sym b) ∙ sym (append_zeros before group (zeros group z)) ∙ ap trimmed_length (e ∙ ek) ∙ t.same;
      },
    )

-- nor do those that stand from a place on
zeros_from : (t : List ℕ) (n : ℕ) → ZerosFrom t n → trimmed_length (take n t) ≡ trimmed_length t
zeros_from [] zero h = refl
zeros_from [] (suc n) h = refl
zeros_from (x ∷ xs) zero h =
    rw (h 0 (omega arith) (omega arith), sym (zeros_from xs zero (λ k a b. h (suc k) (omega arith) (omega arith)))) refl
zeros_from (x ∷ xs) (suc n) h = ap (extended x) (zeros_from xs n (λ k a b. h (suc k) (omega arith) (omega arith)))

module _ (s t : List ℕ) (et : t ≡ take (length t) s) (trims : TrimsTo s (length t)) where
  same : trimmed_length t ≡ trimmed_length s
  same = ap trimmed_length et ∙ trims.same

  pub trimmed_at : (i : ℕ) → i < length t → (get_or t i 0 ≡ 0 → ⊥) → ZerosFrom t (i + 1) → i + 1 ≡ trimmed_length s
  trimmed_at i h other zs =
      let e : take (i + 1) t ≡ take i t ++ (get_or t i 0 ∷ []) = rw add-one (take-suc t i 0 h) in
      let l : length (take i t) ≡ i = length-take-le i t (le_of_lt h) in
      omega (arith, l, snoc (take i t) (get_or t i 0) other, ap trimmed_length e, zeros_from t (i + 1) zs, same)

  pub trimmed_to_none : ZerosFrom t 0 → 0 ≡ trimmed_length s
  trimmed_to_none h = zeros_from t 0 h ∙ same
