-- `new` meets its contract.
-- Assumes nothing.
use mathlib.Core.Path.{refl}
use Rattle.collector.proofs.Meaning.{fresh_means}
use Rattle.collector.proofs.new.Goals as goal

pub returns : goal.returns
returns c = record { box = fresh_means; bytes = refl }
