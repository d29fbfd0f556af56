-- `demo::house::table_of` meets its contract: the house's file loads, and else the twelve stay.
-- Assumes nothing.
use mathlib.Core.Path.{sym, ap, ◌∙◌}
use Rattle.octets.specs.Mark.{is_marked}
use Rattle.octets.specs.Numbers.{le_at}
use Rattle.types.specs.Codes.{pick}
use Rattle.services.specs.Load.{is_table, is_ascending, ids_answer, load_answer}
use Rattle.services.specs.Table.{marked, table_of, ds301}
use Rattle.demo.specs.World.{house_ids}
use Rattle.demo.proofs.house.table_of.Goals as goal

pub returns-then-has : goal.returns-then-has
unfolding is_marked le_at is_table is_ascending ids_answer load_answer
returns-then-has c = c.load.ensures.bytes ∙ rw c.load.ensures.answer (ap (λ b. pick b (table_of house_ids) ds301) (sym (sym c.has.ensures ∙ c.if-has.true)))

pub returns-else-has : goal.returns-else-has
unfolding marked
returns-else-has c = ap (λ b. pick b (table_of house_ids) ds301) (sym (sym c.has.ensures ∙ c.if-has.false))
