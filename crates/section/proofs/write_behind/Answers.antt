-- `section::write_behind` meets its contract.
-- Assumes nothing.
use mathlib.Core.Path.{sym, ◌∙◌}
use mathlib.Core.List.{◌++◌}
use lib.ListN.{length}
use native.Mathlib.Omega.{arith}
use Rattle.section.specs.Write.{padded}
use Rattle.section.proofs.Sections.{behind_length, room, no_room_lem, refuses, writes}
use Rattle.section.proofs.write_behind.Goals as goal

pub returns-then-not-fits : goal.returns-then-not-fits
returns-then-not-fits c =
    let a = c.args in
    refuses (a.front.now ++ padded (a.header.now ++ a.payload.now)) a.target.now
    (no_room_lem a.front.now a.header.now a.payload.now (length a.target.now) (sym c.fits.ensures ∙ c.if-not-fits.true))

pub put_behind-requires : goal.put_behind-requires
put_behind-requires c =
    let a = c.args in
    room a.front.now a.header.now a.payload.now (length a.target.now) (sym c.fits.ensures ∙ c.if-not-fits.false)

pub returns : goal.returns
returns c =
    let a = c.args in
    let e = behind_length a.front.now a.header.now a.payload.now in
    let enough = room a.front.now a.header.now a.payload.now (length a.target.now) (sym c.fits.ensures ∙ c.if-not-fits.false) in
    rw c.put_behind.ensures
    (writes (a.front.now ++ padded (a.header.now ++ a.payload.now)) a.target.now _ (omega (arith, c.padded_len.ensures)) (omega (arith, c.padded_len.ensures)))
