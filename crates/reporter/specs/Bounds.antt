-- 01's bounds of a head, for any octets of a state.
-- Assumes nothing.
use Rattle.std.specs.Prelude.{ℕ, ◌≤◌, ◌≡◌, List, [], length}
use Rattle.reporter.specs.Layout.{head_of}

pub record HeadBounds : Type 0 where
  -- "at most one open batch (1 to 4 entries)"
  pub batch : (s : List ℕ) → ((head_of s).batch ≡ [] → ⊥) → (1 ≤ length (head_of s).batch) × (length (head_of s).batch ≤ 4)
  -- "up to 16 waiting entries"
  pub waiting : (s : List ℕ) → length (head_of s).waiting ≤ 16
