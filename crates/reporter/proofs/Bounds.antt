-- The bounds of a head.
-- Assumes nothing.
use Prim.Native.Nat.{◌≤◌}
use mathlib.Core.Path.{◌≡◌, refl}
use mathlib.Core.List.{List, [], ◌∷◌}
use native.Mathlib.Omega.{arith}
use lib.ListN.{length}
use Rattle.error_entry.specs.declared.ErrorEntry.{ErrorEntry}
use Rattle.reporter.specs.Bounds.{HeadBounds}
use Rattle.reporter.specs.Layout.{head_of}
use Rattle.reporter.proofs.Meaning.{batch_small, waiting_few}

some_length : (es : List ErrorEntry) → (es ≡ [] → ⊥) → 1 ≤ length es
some_length [] h = absurd (h refl)
some_length (e ∷ es) h = omega arith

pub head_bounds : HeadBounds
head_bounds = record { batch = λ s h. (some_length (head_of s).batch h, batch_small s); waiting = waiting_few }
