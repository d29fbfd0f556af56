-- The measure of `put_decimal` is its number, which each call makes ten times smaller.
-- Assumes nothing.
use Rattle.journal_records.proofs.text.+put_decimal.Given as goal

abbrev pub decreases-put_decimal : goal.decreases-put_decimal
decreases-put_decimal l = l.v
