-- `write` meets its contract.
-- Assumes nothing.
use mathlib.Core.Path.{sym, ◌∙◌}
use Rattle.journal_records.proofs.RecordLaws.{record_short, record_bad, record_put}
use Rattle.journal_records.proofs.write.Goals as goal

pub returns-then-target-lt-JOURNAL_RECORD_LEN : goal.returns-then-target-lt-JOURNAL_RECORD_LEN
returns-then-target-lt-JOURNAL_RECORD_LEN c = record_short _ _ _ c.if-target-lt-JOURNAL_RECORD_LEN.true

pub returns-then-not-valid : goal.returns-then-not-valid
returns-then-not-valid c =
    record_bad _ _ _ c.if-target-lt-JOURNAL_RECORD_LEN.false (sym c.valid.ensures ∙ c.if-not-valid.true)

pub returns : goal.returns
returns c =
    record_put _ _ _ c.if-target-lt-JOURNAL_RECORD_LEN.false _ _ (sym c.valid.ensures ∙ c.if-not-valid.false) c.serialize.ensures
