-- `put_line` meets its contract: the columns one after the other are the line.
-- Assumes nothing.
use borrow.Author.Rules.{rules}
use Rattle.journal_records.proofs.LineLaws.{line_adds}
use Rattle.journal_records.proofs.TextLaws.{put_first, put_left}
use Rattle.journal_records.proofs.text.put_line.Goals as goal

pub returns : goal.returns
returns c =
    let a = c.args in
    put_left
    (put_first c.new-line.ensures.empty
    (line_adds a.node.0 a.entry c.from.ensures c.number.ensures.adds c.code.ensures.adds c.number-2.ensures.adds c.number-3.ensures.adds
    c.number-4.ensures.adds c.number-5.ensures.adds c.code-2.ensures.adds).puts)
    (search rules)
