-- `ErrorEntry::serialize` meets its contract.
-- Assumes nothing.
use mathlib.Core.Path.{refl}
use Rattle.section.proofs.Sections.{refuses, writes}
use Rattle.error_entry.specs.Entry.{entry_bytes}
use Rattle.error_entry.proofs.ErrorEntry.serialize.Goals as goal

pub returns-then-target-lt-ENTRY_LEN : goal.returns-then-target-lt-ENTRY_LEN
unfolding entry_bytes
returns-then-target-lt-ENTRY_LEN c = refuses _ _ c.if-target-lt-ENTRY_LEN.true

pub returns : goal.returns
unfolding entry_bytes
returns c =
    rw c.put.ensures (writes _ _ 20 refl c.if-target-lt-ENTRY_LEN.false)
