-- The order of the IDs of a table that is loaded.
-- Assumes nothing.
use Prim.Native.Nat.{ℕ, zero, suc, ◌+◌}
use mathlib.Core.Bool.{Bool, true, false, and-false}
use mathlib.Core.Path.{◌≡◌, refl, sym, ap, ◌∙◌}
use mathlib.Core.List.{List, [], ◌∷◌}
use native.Mathlib.Omega.{arith}
use lib.ListN.{get_or}
use lib.Dec.{ltb}
use Rattle.std.specs.List.{IsAllAdjacentAnswer}
use Rattle.services.specs.Load.{is_ascending}

ltb_next : (x : ℕ) (ids : List ℕ) (k d : ℕ) → ltb (get_or ids k d) (get_or (x ∷ ids) (suc k + 1) d) ≡ ltb (get_or ids k d) (get_or ids (k + 1) d)
ltb_next x ids k d = let e : suc k + 1 ≡ suc (k + 1) = omega arith in ap (λ n. ltb (get_or ids k d) (get_or (x ∷ ids) n d)) e

-- `is_sorted_by` tells whether IDs ascend
pub ascends : (ids : List ℕ) (r : Bool) → IsAllAdjacentAnswer (λ x y b. b ≡ ltb x y) ids r → r ≡ is_ascending ids
unfolding is_ascending
ascends [] true h = refl
ascends [] false h = absurd (omega (arith, h.1))
ascends (x ∷ []) true h = refl
ascends (x ∷ []) false h = absurd (omega (arith, h.1))
ascends (x ∷ y ∷ ids) true h =
    rw (sym (h 0 0 (omega arith))) (ascends (y ∷ ids) true (λ k d l. h (suc k) d (omega arith) ∙ ltb_next x (y ∷ ids) k d))
ascends (x ∷ y ∷ ids) false (zero, p, never) = rw (sym (never 0))
ascends (x ∷ y ∷ ids) false (suc k, p, never) =
    let e : false ≡ is_ascending (y ∷ ids) = ascends (y ∷ ids) false (k, omega arith, λ d. never d ∙ ltb_next x (y ∷ ids) k d) in
    rw (sym e, and-false (ltb x y))
