-- The loop of `put_hex`: what is stored, with the digits that remain put in front of it, is the text.
-- Assumes nothing.
use mathlib.Core.Path.{◌≡◌}
use lib.Seq.{sets}
use Rattle.journal_records.specs.Text.{hex}
use Rattle.journal_records.proofs.text.put_hex.Given as goal

abbrev pub invariant-loop-i : goal.invariant-loop-i
invariant-loop-i l = sets l.out l.at (hex l.i l.rest) ≡ sets l.initial.out l.at (hex l.digits l.v)
