-- `code` meets its contract.
-- Assumes nothing.
use mathlib.Core.Path.{refl}
use Rattle.journal_records.proofs.TextLaws.{put_digits, put_ended}
use Rattle.journal_records.proofs.text.Line.code.Goals as goal

pub returns-clause-adds : goal.returns-clause-adds
returns-clause-adds c = record { puts = put_ended (put_digits _ _ c.put_hex.ensures) _ c.put_octet.ensures; same_reference = refl }
