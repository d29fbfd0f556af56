-- `load::ascending` meets its contract.
-- Assumes nothing.
use lib.Dec.{ltb}
use Rattle.std.proofs.Common.{rules, of_calls}
use Rattle.std.proofs.lemmas.List.Sorted.{answers_always}
use Rattle.services.proofs.Laws.{ascends}
use Rattle.services.proofs.load.ascending.Goals as goal

pub returns : goal.returns
returns c =
    ascends _ _ (c.is_sorted_by.ensures.cases ltb (answers_always _ _ _ (λ f a r f' k. search (rules, of_calls))))
