-- What the tests of the code tell of a state.
-- Assumes nothing.
use Prim.Native.Nat.{ℕ, ◌-◌, ◌≤◌, min}
use mathlib.Core.Path.{◌≡◌, refl, sym, ap, ◌∙◌}
use mathlib.Core.Bool.{Bool, true, false, not}
use mathlib.Core.List.{List}
use native.Mathlib.Omega.{arith}
use lib.ListN.{set}
use Rattle.std.specs.Int.{from_bool}
use Rattle.types.specs.Codes.{pick}
use Rattle.reporter.specs.Layout.{waiting_at, open_at, en_at, en_of, waiting_of, head_of, opens_in, carried_in, opened_bytes}
use Rattle.reporter.specs.Rules.{batch_length, opened}
use Rattle.reporter.proofs.Opening.{en_opened, carried_few, kept_octets}

-- EN of an answer, by whether it opens a batch
module _ (s : List ℕ) (en o t : Bool) (ee : en ≡ en_of s) (eo : o ≡ opens_in s) where
  pub en_flips : o ≡ true → t ≡ not en → t ≡ (opened (head_of s)).en
  en_flips h e = e ∙ ap not ee ∙ sym (en_opened s ∙ rw (sym eo ∙ h))

  pub en_stays : o ≡ false → t ≡ en → t ≡ (opened (head_of s)).en
  en_stays h e = e ∙ ee ∙ sym (en_opened s ∙ rw (sym eo ∙ h))

flipped : (b : Bool) → from_bool (not b) ≡ pick b 0 1
flipped true = refl
flipped false = refl

module _ (s : List ℕ) (o : Bool) (eo : o ≡ opens_in s) where
  pub opens_nothing : o ≡ false → s ≡ opened_bytes s
  opens_nothing h = sym (kept_octets s (sym eo ∙ h))

  module _ (h : o ≡ true) (n w : ℕ) (en : n ≡ carried_in s) (ew : w ≡ waiting_of s) where
    pub opens_some : n ≤ w
    opens_some = let f : carried_in s ≡ min (waiting_of s) batch_length = carried_few s (sym eo ∙ h) in omega arith

    pub opens_octets : (x : ℕ) (b : Bool) → b ≡ en_of s → x ≡ from_bool (not b)
        → set (set (set s en_at x) open_at n) waiting_at (w - n) ≡ opened_bytes s
    unfolding opened_bytes
    opens_octets x b eb ex = rw (ex ∙ flipped b, eb, en, ew, sym eo ∙ h)

pub ruleset opens_laws = (opens_nothing, opens_some, opens_octets)
