-- Facts on lists, places in lists, and Booleans.
-- Assumes nothing.
use Prim.Native.Nat.{ℕ, zero, suc, ◌<◌}
use mathlib.Core.Path.{◌≡◌, refl}
use mathlib.Core.Logic.{◌⊎◌, inl, inr}
use mathlib.Core.Bool.{Bool, true, false, not, beq, true≢false}
use mathlib.Core.List.{List, [], ◌∷◌, ◌++◌, append_assoc}
use native.Mathlib.Omega.{arith}
use lib.ListN.{length}
pub use borrow.Table.Steps.{cases as either}
use Rattle.std.specs.Prelude.{Some, slice_get}
use Rattle.types.specs.Codes.{pick}

-- ---- Booleans

-- a bit is not its own opposite
pub opposite : {X : Type 0} (a : Bool) → a ≡ not a → X
opposite true e = absurd (true≢false cc)
opposite false e = absurd (true≢false cc)

pub beq_same : (a : Bool) → beq a a ≡ true
beq_same true = refl
beq_same false = refl

pub beq_not : (a : Bool) → beq (not a) a ≡ false
beq_not true = refl
beq_not false = refl

pub beq_other : (a : Bool) → beq a (not a) ≡ false
beq_other true = refl
beq_other false = refl

pub beq_true : (a b : Bool) → beq a b ≡ true → a ≡ b
beq_true true true e = refl
beq_true true false e = cc
beq_true false true e = cc
beq_true false false e = refl

pub beq_false : (a b : Bool) → beq a b ≡ false → a ≡ not b
beq_false true true e = cc
beq_false true false e = refl
beq_false false true e = refl
beq_false false false e = cc

-- ---- places

-- an element of a longer list stands in the list, or is the last
pub at_snoc : {A : Type 0} (l : List A) (x a : A) (p : ℕ) → slice_get (l ++ (x ∷ [])) p ≡ Some a
    → ((p < length l) × (slice_get l p ≡ Some a)) ⊎ ((p ≡ length l) × (x ≡ a))
at_snoc [] x a zero e = inr (refl, cc)
at_snoc [] x a (suc p) e = absurd (true≢false cc)
at_snoc (y ∷ l) x a zero e = inl (omega arith, e)
at_snoc (y ∷ l) x a (suc p) e =
    elim (at_snoc l x a p e) [ inl h ↦ inl (omega (arith, h.0), h.1) | inr h ↦ inr (omega (arith, h.0), h.1) ]

-- ---- lists joined

pub join_more : {A : Type 0} (t u w x : List A) {a : List A} → t ++ (u ++ w) ≡ a → t ++ (u ++ (w ++ x)) ≡ a ++ x
join_more t u w x e = cc (append_assoc u w x, append_assoc t (u ++ w) x)

pub join_book : {A : Type 0} (t k b w : List A) {a : List A} → t ++ k ++ (b ++ w) ≡ a → t ++ (k ++ b) ++ w ≡ a
join_book t k b w e = cc (append_assoc t k b, append_assoc (t ++ k) b w)

pub no_batch : {A : Type 0} (s : Bool) (b : List A) → b ≡ [] → pick s [] b ≡ []
no_batch true b e = refl
no_batch false b e = e

pub is_cons : {A : Type 0} {x : A} {w l : List A} {X : Type 0} → l ≡ x ∷ w → l ≡ [] → X
is_cons e n = absurd (true≢false cc)
