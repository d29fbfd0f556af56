-- The octet that holds priority and requests, taken apart.
-- Assumes nothing.
use Prim.Native.Nat.{ℕ, ◌/◌, ◌%◌, ◌≤◌}
use mathlib.Core.Path.{◌≡◌, ap, ◌∙◌}
use native.Mathlib.Nat.{min-eq_left}
use native.Mathlib.Omega.{arith}
use Rattle.types.specs.PollFlags.{priority_code, priority_in, poll_octet}
use Rattle.types.specs.declared.poll_flags.PRFlag.{PRFlag}
use Rattle.types.proofs.ReadBack.{priority_known}

module _ (p : PRFlag) (n : ℕ) (h : n ≤ 7) where
  pub poll_priority : priority_in (poll_octet p n / 8) ≡ p
  unfolding poll_octet
  poll_priority =
      let e : poll_octet p n / 8 ≡ priority_code p = rw (min-eq_left h) (omega arith) in
      ap priority_in e ∙ priority_known p

  pub poll_requests : poll_octet p n % 8 ≡ n
  unfolding poll_octet
  poll_requests = rw (min-eq_left h) (omega arith)
