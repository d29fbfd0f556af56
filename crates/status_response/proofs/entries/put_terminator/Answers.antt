-- `entries::put_terminator` meets its contract: zeros are put into the part of the target that is the terminator's.
-- Assumes nothing.
use mathlib.Core.Path.{ap, ◌∙◌}
use mathlib.Core.List.{List}
use Prim.Native.Nat.{ℕ, ◌+◌, ◌*◌, ◌-◌}
use native.Mathlib.Omega.{arith}
use lib.ListN.{replicate, length-replicate}
use borrow.Rule.Slice.PartMut.{put_mid}
use Rattle.status_response.proofs.Places.{sets_part}
use Rattle.status_response.proofs.entries.put_terminator.Goals as goal

pub returns : goal.returns
returns c =
    let a = c.args in
    let at : ℕ = 14 + 20 * a.n in
    let t : List ℕ = a.target.now in
    let k : ℕ = at + 20 - at in
    ap (λ (l : List ℕ). put_mid at k t l) c.put.ensures
    ∙ sets_part at k t (replicate 20 0) (omega arith) (omega (arith, length-replicate {A = ℕ} 20 0))
