-- `entries::put_entry` meets its contract: the part of the target that is the entry's is written at its front.
-- Assumes nothing.
use mathlib.Core.Path.{ap, ◌∙◌}
use mathlib.Core.List.{List}
use Prim.Native.Nat.{ℕ, ◌+◌, ◌*◌, ◌-◌}
use native.Mathlib.Omega.{arith}
use borrow.Rule.Slice.PartMut.{mid_of, put_mid}
use Rattle.error_entry.specs.Entry.{entry_bytes}
use Rattle.error_entry.proofs.Places.{writes_sets}
use Rattle.status_response.proofs.Places.{entry_length, part_length, sets_part}
use Rattle.status_response.proofs.entries.put_entry.Goals as goal

pub returns : goal.returns
returns c =
    let a = c.args in
    let at : ℕ = 14 + 20 * a.i in
    let t : List ℕ = a.target.now in
    let k : ℕ = at + 20 - at in
    ap (λ (l : List ℕ). put_mid at k t l)
    (writes_sets (entry_bytes a.e) (mid_of at k t) _ _ c.serialize.ensures (omega (arith, entry_length a.e, part_length at k t (omega arith))))
    ∙ sets_part at k t (entry_bytes a.e) (omega arith) (omega (arith, entry_length a.e))
