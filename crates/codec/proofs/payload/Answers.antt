-- `codec::payload` meets its contract: it is the front of a tail.
-- Assumes nothing.
use mathlib.Core.Path.{◌∙◌}
use native.Mathlib.Omega.{arith}
use Rattle.codec.proofs.payload.Goals as goal

pub returns : goal.returns
returns c =
    let t = c.tail.ensures in
    let f = c.front.ensures in
    record {
      octets = rw (f.octets, t.octets);
      block = f.block ∙ t.block;
      offset = omega (arith, f.offset, t.offset);
    }
