-- 01's bounds of a box: of a book, for any octets of a state; of the registered IDs, after any list of calls from a fresh state.
-- Assumes nothing.
use Rattle.std.specs.Prelude.{ℕ, ◌+◌, ◌≤◌, Bool, true, false, ◌≡◌, List, [], ◌∷◌, length, eqb, Result, Some}
use Rattle.types.specs.Codes.{pick}
use Rattle.types.specs.declared.NodeId.{NodeId}
use Rattle.collector.specs.Calls.{Fresh, Registers, Reads, Takes}
use Rattle.collector.specs.Layout.{account_of, vacant_of}
use Rattle.collector.specs.Rules.{Account, is_registered}
use Rattle.collector.specs.declared.RegisterError.{RegisterError}
use Rattle.error_entry.specs.declared.ErrorEntry.{ErrorEntry}
use Rattle.collector.specs.declared.TakeError.{TakeError}
use Rattle.collector.specs.declared.ReadOutcome.{ReadOutcome}
use Rattle.collector.specs.declared.ReadError.{ReadError}

-- the calls that may change the state, in any order; the others are lent it to be read
pub data BoxRun : List ℕ → Type 0 where
  fresh : (s : List ℕ) → Fresh s → BoxRun s
  registers : {s : List ℕ} (i : NodeId) (r : Result Unit RegisterError) (after : List ℕ) → BoxRun s → Registers i r s after → BoxRun after
  reads : {s : List ℕ} (services frame : List ℕ) (r : Result ReadOutcome ReadError) (after : List ℕ) → BoxRun s → Reads services frame r s after → BoxRun after
  takes : {s : List ℕ} (i : NodeId) (r : Result ErrorEntry TakeError) (after : List ℕ) → BoxRun s → Takes i r s after → BoxRun after

abbrev pub is_in : ℕ → List ℕ → Bool
is_in i [] = false
is_in i (j ∷ l) = pick (eqb i j) true (is_in i l)

abbrev pub EachOnce : List ℕ → Type 0
EachOnce [] = Unit {0}
EachOnce (i ∷ l) = (is_in i l ≡ false) × EachOnce l

-- "ID to register not 1 to 239" is refused
abbrev pub OfHeads : List ℕ → Type 0
OfHeads [] = Unit {0}
OfHeads (i ∷ l) = (1 ≤ i) × (i ≤ 239) × OfHeads l

-- the registered IDs of a state
pub record Ids (s : List ℕ) : Type 0 where
  pub ids : List ℕ
  pub are : (i : ℕ) → is_registered (account_of s i) ≡ is_in i ids
  pub once : EachOnce ids
  pub range : OfHeads ids
  -- "up to four registered heads": with the vacant places they make four
  pub four : length ids + vacant_of s ≡ 4

pub record BoxBounds : Type 0 where
  -- "a book of up to 64 entries"
  pub book : (s : List ℕ) (i : ℕ) (p : Account) → account_of s i ≡ Some p → length p.book ≤ 64
  pub registered : (s : List ℕ) → BoxRun s → Ids s
