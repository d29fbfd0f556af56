-- `ASndFrame::serialize_behind` meets its contract: a service that the table does not hold is refused once the frame would fit.
-- Assumes nothing.
use mathlib.Core.Path.{sym, ◌∙◌}
use mathlib.Core.List.{◌++◌}
use lib.ListN.{length}
use Rattle.section.proofs.Sections.{room, no_room_lem}
use Rattle.control.specs.ASnd.{asnd_bytes, asnd_section}
use Rattle.control.proofs.Served.{served_held, served_refused, served_short}
use Rattle.control.proofs.asnd.ASndFrame.serialize_behind.Goals as goal

pub returns-then-contains : goal.returns-then-contains
unfolding asnd_section
returns-then-contains c =
    let a = c.args in
    served_held a.services.now a.self.service_id (a.front.now ++ asnd_section a.self a.payload.now) a.target.now
    (sym c.contains.ensures ∙ c.if-contains.true) _ _ (rw c.to_bytes.ensures at c.write_behind.ensures)

pub returns-then-not-fits : goal.returns-then-not-fits
unfolding asnd_section
returns-then-not-fits c =
    let a = c.args in
    served_short a.services.now a.self.service_id (a.front.now ++ asnd_section a.self a.payload.now) a.target.now
    (sym c.contains.ensures ∙ c.if-contains.false)
    (no_room_lem a.front.now (asnd_bytes a.self) a.payload.now (length a.target.now) (sym c.fits.ensures ∙ c.if-not-fits.true))

pub returns : goal.returns
unfolding asnd_section
returns c =
    let a = c.args in
    served_refused a.services.now a.self.service_id (a.front.now ++ asnd_section a.self a.payload.now) a.target.now
    (sym c.contains.ensures ∙ c.if-contains.false)
    (room a.front.now (asnd_bytes a.self) a.payload.now (length a.target.now) (sym c.fits.ensures ∙ c.if-not-fits.false))
