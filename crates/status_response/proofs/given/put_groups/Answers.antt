-- `given::put_groups` meets its contract. The loop's invariant: `at` is a multiple of an entry's octets, and as many are put.
-- The measure is what is left of the octets.
-- Assumes nothing.
use Prim.Native.Nat.{◌+◌, ◌-◌}
use mathlib.Core.Path.{ap, ◌∙◌}
use native.Mathlib.Omega.{arith}
use lib.ListN.{length}
use lib.Seq.{length-sets}
use Rattle.status_response.proofs.GivenLaws.{group_behind, all_put}
use Rattle.status_response.proofs.given.put_groups.Goals as goal

pub loop-at-preserved : goal.loop-at-preserved
loop-at-preserved c =
    let a = c.args in
    let next =
    group_behind c.loop-at.at (c.loop-at.at + 80 - c.loop-at.at) a.entries.now c.loop-at.target a.target.now (omega arith) (omega arith) c.loop-at.invariant.1.1.0 (c.loop-at.at + 80) _ (omega arith)
    c.put_four.ensures in
    (omega arith, (omega arith, (next, ap length next ∙ simp length-sets)))

pub returns-then-at-len : goal.returns-then-at-len
returns-then-at-len c =
    let a = c.args in
    all_put (length a.entries.now) a.entries.now _ a.target.now (omega arith)
    (group_behind c.loop-at.at (length a.entries.now - c.loop-at.at) a.entries.now c.loop-at.target a.target.now (omega arith) (omega arith) c.loop-at.invariant.1.1.0 (length a.entries.now) _ (omega arith)
    c.put_rest.ensures)
