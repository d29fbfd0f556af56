-- What a frame of the box's host says of EA, in one place for the laws that go by it.
-- Assumes nothing.
use Prim.Native.Nat.{ℕ}
use mathlib.Core.List.{List}
use Rattle.signaling.specs.Calls.{Tells}

-- the frame gives EA as the box has it when the frame is sent
pub told_now : (i : ℕ) (s bs : List ℕ) → Tells i s bs → Tells i s bs
told_now i s bs told = told
