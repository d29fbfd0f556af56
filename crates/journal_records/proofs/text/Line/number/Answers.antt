-- `number` meets its contract.
-- Assumes nothing.
use mathlib.Core.Path.{refl}
use Rattle.journal_records.proofs.TextLaws.{put_ended}
use Rattle.journal_records.proofs.text.Line.number.Goals as goal

pub returns-clause-adds : goal.returns-clause-adds
returns-clause-adds c = record { puts = put_ended c.put_decimal-next.ensures _ c.put_octet.ensures; same_reference = refl }
