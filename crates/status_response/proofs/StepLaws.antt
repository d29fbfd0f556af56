-- The cases of `step_at`, each from the tests that lead to it.
-- Assumes nothing.
use Prim.Native.Nat.{ℕ, ◌+◌, ◌-◌, ◌≤◌, ◌<◌}
use mathlib.Core.Path.{◌≡◌, sym, ap, ◌∙◌}
use mathlib.Core.List.{List}
use mathlib.Core.Logic.{◌⊎◌, inl, inr}
use lib.ListN.{length, drop}
use native.Mathlib.Omega.{arith}
use borrow.Author.Tests.{le-leb, lt-leb}
use Rattle.std.proofs.lemmas.Bool.{cases_lt}
use Rattle.std.specs.Prelude.{Option, Some, None}
use Rattle.types.specs.declared.error_mode.ErrorEntryMode.{ErrorEntryMode}
use Rattle.error_entry.specs.Entry.{entry_of}
use Rattle.error_entry.specs.declared.ErrorEntry.{ErrorEntry}
use Rattle.status_response.specs.Steps.{unless_terminator, step_at}

module _ (s : List ℕ) (offset : ℕ) where
  -- under 20 octets are left
  pub step_none : length s - offset < 20 → None ≡ step_at s offset
  unfolding step_at
  step_none h = split (cases_lt (length s) 20)
    where
      split : (length s < 20) ⊎ (20 ≤ length s) → None ≡ step_at s offset
      split (inl short) = rw (lt-leb 20 (length s) short)
      split (inr long) = rw (le-leb 20 (length s) long, lt-leb offset (length s - 20) (omega arith))

  -- by the mode of the entry that stands there
  pub step_by_mode : (t : List ℕ) (e : ErrorEntry) (m : ErrorEntryMode) (r : Option (ErrorEntry × ℕ)) → 20 ≤ length s - offset → t ≡ drop offset s → e ≡ entry_of t
      → e.entry_type.mode ≡ m → r ≡ unless_terminator m (Some (e, (offset + 20))) None → r ≡ step_at s offset
  unfolding step_at
  step_by_mode t e m r h et ee em er =
      rw (le-leb 20 (length s) (omega arith), le-leb offset (length s - 20) (omega arith), ← et, ← ee)
      (er ∙ ap (λ (k : ErrorEntryMode). unless_terminator k (Some (e, (offset + 20))) None) (sym em))
