-- `put` meets its contract: the rest of the octets from the place on is written at its front.
-- Assumes nothing.
use Rattle.records.proofs.PutLaws.{put_none, put_rest}
use Rattle.records.proofs.put.Goals as goal

pub returns-then-s-at : goal.returns-then-s-at
returns-then-s-at c =
    let a = c.args in
    put_none a.s.now a.at a.e c.if-s-at.true

pub returns : goal.returns
returns c =
    let a = c.args in
    put_rest a.s.now a.at a.e _ _ c.if-s-at.false c.serialize.ensures
