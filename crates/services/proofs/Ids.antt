-- Which numbers are among the IDs of a list, and which 01 lists, range by range.
-- Assumes nothing.
use Prim.Native.Nat.{ℕ, ◌≤◌, ◌<◌}
use mathlib.Core.Bool.{Bool, true, false, not, ◌||◌, and-false}
use mathlib.Core.Path.{◌≡◌, refl, sym, ◌∙◌}
use mathlib.Core.List.{List, [], ◌∷◌}
use native.Mathlib.Omega.{arith}
use lib.Dec.{T, leb, ltb}
use borrow.Author.Tests.{ne_eqb, ltb-true, ltb-false, lt-leb}
use Rattle.types.specs.Codes.{pick}
use Rattle.types.proofs.Codes.{at}
use Rattle.services.specs.Ids.{ds301_ids, is_in, within, is_listed}

-- all of the IDs are below n
abbrev pub below : ℕ → List ℕ → Bool
below n [] = true
below n (x ∷ ids) = pick (ltb x n) (below n ids) false

-- then none is n or above
pub none_above : (b n : ℕ) (ids : List ℕ) → T (below n ids) → n ≤ b → is_in b ids ≡ false
none_above b n [] t h = refl
none_above b n (x ∷ ids) t h = split (ltb x n) refl (λ u. none_above b n ids u h) t
  where
    split : (e : Bool) → ltb x n ≡ e → (T (below n ids) → is_in b ids ≡ false) → T (pick e (below n ids) false)
        → is_in b (x ∷ ids) ≡ false
    split true q rest u = rw (ne_eqb x b (λ e. omega (arith, ltb-true x n q))) (rest u)
    split false q rest u = absurd u

-- r is whether 01 lists b
abbrev pub tells : Bool → ℕ → Bool
tells r b = pick (is_listed b) r (not r)

told : (r e : Bool) → T (pick e r (not r)) → r ≡ e
told true true t = refl
told true false t = absurd t
told false true t = absurd t
told false false t = refl

-- a number behind a range is not in it
past : (lo hi b : ℕ) → hi < b → within lo hi b ≡ false
past lo hi b h = rw (lt-leb b hi h) (and-false (leb lo b))

none : {x y z : Bool} → x ≡ false → y ≡ false → z ≡ false → x || (y || z) ≡ false
none p q r = rw (p, q, r)

-- what 01 lists is below 13 h
pub unlisted_above : (b : ℕ) → 0x13 ≤ b → is_listed b ≡ false
unfolding is_listed
unlisted_above b h = none (past _ _ b (omega arith)) (ne_eqb b _ (λ e. omega arith)) (past _ _ b (omega arith))

-- the names are those of the numbers that 01 lists
pub named : (b : ℕ) → is_in b ds301_ids ≡ is_listed b
unfolding is_listed
named b = split (ltb b 0x13) refl
  where
    split : (e : Bool) → ltb b 0x13 ≡ e → is_in b ds301_ids ≡ is_listed b
    split true q =
        told (is_in b ds301_ids) (is_listed b)
        (at (λ (k : ℕ). tells (is_in k ds301_ids) k) 0x13 0 b tt (omega arith) (ltb-true b 0x13 q))
    split false q =
        let h : 0x13 ≤ b = ltb-false b 0x13 q in
        none_above b 0x13 ds301_ids tt h ∙ sym (unlisted_above b h)
