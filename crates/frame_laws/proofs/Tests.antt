-- What is read has passed the tests in front of it.
-- Assumes nothing.
use Prim.Native.Nat.{ℕ, ◌≤◌}
use mathlib.Core.Path.{◌≡◌, refl, sym, ap}
use mathlib.Core.Bool.{Bool, true, false, true≢false}
use lib.Dec.{leb}
use borrow.Author.Tests.{leb-true}
use Rattle.std.specs.Prelude.{Result, Ok, Err, is_ok}
use Rattle.types.specs.Codes.{need}

-- no refusal is a value
pub no_value : {A E : Type 0} {e : E} {x : A} → Err e ≡ Ok x → ⊥
no_value q = true≢false (sym (ap is_ok q))

-- what is read is one value
pub one_value : {A E : Type 0} {x y : A} → ◌≡◌ {A = Result A E} (Ok x) (Ok y) → x ≡ y
one_value e = cc

-- a test in front of a value, and one of a length
pub passed : {A E : Type 0} {x : A} (t : Bool) (e : E) (next : Result A E) → need t (Err e) next ≡ Ok x → (t ≡ true) × (next ≡ Ok x)
passed true e next q = (refl, q)
passed false e next q = absurd (no_value q)

pub enough : {A E : Type 0} {x : A} (n m : ℕ) (e : E) (next : Result A E) → need (leb n m) (Err e) next ≡ Ok x → (n ≤ m) × (next ≡ Ok x)
enough n m e next q = let r = passed (leb n m) e next q in (leb-true n m r.0, r.1)
