-- `find`: no block before the next one has the node ID.
-- Assumes nothing.
use Prim.Native.Nat.{ℕ, ◌<◌}
use mathlib.Core.Path.{◌≡◌}
use Rattle.collector.specs.Layout.{node_in}
use Rattle.collector.proofs.state.find.Given as goal

abbrev pub invariant-loop-number : goal.invariant-loop-number
invariant-loop-number l = (o : ℕ) → o < l.number → node_in l.state o ≡ l.id → ⊥
