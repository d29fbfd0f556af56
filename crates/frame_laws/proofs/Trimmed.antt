-- What an ASnd loses from its payload is the padding.
-- Assumes nothing.
use Prim.Native.Nat.{ℕ, zero, suc, ◌+◌, ◌-◌, ◌≤◌, ◌<◌}
use mathlib.Core.Path.{◌≡◌, refl, sym, ap, ◌∙◌}
use mathlib.Core.List.{List, [], ◌∷◌, append-nil}
use mathlib.Core.Logic.{◌⊎◌, inl, inr}
use native.Mathlib.Numerals.{unary_clauses}
use native.Mathlib.Omega.{arith}
use lib.ListN.{length, drop, replicate, length-drop, take-append-drop}
use lib.Seq.{drop-drop, take_all, length-take-le}
use borrow.Author.Tests.{eq-eqb, ne_eqb}
use Rattle.std.proofs.lemmas.Bool.{cases_lt}
use Rattle.octets.specs.Trim.{extended, trimmed_length}
use Rattle.section.specs.Write.{padded}
use Rattle.codec.specs.ASnd.{asnd_payload_length}
use Rattle.frame_laws.specs.WriteBack.{PaddedFrom}

-- behind what is left only zeros stood
one_more : (x : ℕ) (xs : List ℕ) (n : ℕ) → drop n xs ≡ replicate (length xs - n) 0
    → drop (extended x n) (x ∷ xs) ≡ replicate (suc (length xs) - extended x n) 0
one_more zero xs zero e = simp unary_clauses (ap (λ (l : List ℕ). 0 ∷ l) (simp unary_clauses at e))
one_more (suc x) xs zero e = simp unary_clauses (simp unary_clauses at e)
one_more zero xs (suc n) e = simp unary_clauses (simp unary_clauses at e)
one_more (suc x) xs (suc n) e = simp unary_clauses (simp unary_clauses at e)

trimmed_zeros : (xs : List ℕ) → drop (trimmed_length xs) xs ≡ replicate (length xs - trimmed_length xs) 0
trimmed_zeros [] = refl
trimmed_zeros (x ∷ xs) = one_more x xs (trimmed_length xs) (trimmed_zeros xs)

trimmed_within : (xs : List ℕ) → trimmed_length xs ≤ length xs
trimmed_within [] = omega arith
trimmed_within (x ∷ xs) = go x (trimmed_length xs) (trimmed_within xs)
  where
    go : (y n : ℕ) → n ≤ length xs → extended y n ≤ suc (length xs)
    go zero zero h = omega arith
    go (suc y) zero h = omega arith
    go zero (suc n) h = omega arith
    go (suc y) (suc n) h = omega arith

module _ (s : List ℕ) where
  -- behind n octets of a section stand zeros alone
  zeros_behind : (n : ℕ) → n ≤ length s → drop n s ≡ replicate (46 - n) 0 → PaddedFrom n s
  unfolding padded
  zeros_behind n h e = sym (take-append-drop n s) ∙ rw (e, length-take-le n s h)

  smallest : length s ≡ 46 → PaddedFrom (4 + asnd_payload_length s) s
  unfolding asnd_payload_length
  smallest e =
      let k : ℕ = trimmed_length (drop 4 s) in
      let w : k ≤ length s - 4 = rw (← length-drop 4 s) (trimmed_within (drop 4 s)) in
      let left : length (drop 4 s) - k ≡ 46 - (4 + k) = rw (length-drop 4 s, e) (omega arith) in
      rw (eq-eqb (length s) 46 e)
      (zeros_behind (4 + k) (omega arith) (sym (drop-drop k 4 s) ∙ trimmed_zeros (drop 4 s) ∙ ap (λ (i : ℕ). replicate i 0) left))

  longer : 46 < length s → PaddedFrom (4 + asnd_payload_length s) s
  unfolding asnd_payload_length padded
  longer h =
      let other : length s ≡ 46 → ⊥ = λ e. omega arith in
      let all : 4 + length (drop 4 s) ≡ length s = omega (arith, length-drop 4 s) in
      let none : 46 - length s ≡ 0 = omega arith in
      rw (ne_eqb (length s) 46 other, all, take_all (length s) s (omega arith), none, append-nil s)

  pub asnd_padding : 46 ≤ length s → PaddedFrom (4 + asnd_payload_length s) s
  asnd_padding h = split (cases_lt 46 (length s))
    where
      split : (46 < length s) ⊎ (length s ≤ 46) → PaddedFrom (4 + asnd_payload_length s) s
      split (inl k) = longer k
      split (inr k) = smallest (omega arith)
