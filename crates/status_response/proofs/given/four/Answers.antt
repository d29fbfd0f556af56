-- `given::four` meets its contract.
-- Assumes nothing.
use lib.Seq.{drop-drop}
use Rattle.status_response.proofs.given.four.Goals as goal

pub returns : goal.returns
returns c =
    rw (
      c.or_terminator-4.ensures,
      c.deserialize-4.ensures.answer,
      c.tail-3.ensures.octets,
      c.or_terminator-3.ensures,
      c.deserialize-3.ensures.answer,
      c.tail-2.ensures.octets,
      c.or_terminator-2.ensures,
      c.deserialize-2.ensures.answer,
      c.tail.ensures.octets,
      c.or_terminator.ensures,
      c.deserialize.ensures.answer,
    )
    (simp drop-drop)
