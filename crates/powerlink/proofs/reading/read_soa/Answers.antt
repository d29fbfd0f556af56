-- `reading::read_soa` meets its contract: what is read is told as its values.
-- Assumes nothing.
use Rattle.frame.specs.declared.PowerlinkFrame.TheVariants.{SoA}
use Rattle.powerlink.proofs.Readers.{section_frame}
use Rattle.powerlink.proofs.States.{soa_told}
use Rattle.powerlink.proofs.reading.read_soa.Goals as goal

pub returns-in-Ok : goal.returns-in-Ok
returns-in-Ok c =
    let judged = rw c.in-Ok.is at c.judge.ensures in
    section_frame _ _ _ _ _ (SoA c.fields-f.result) (rw c.fields-f.ensures judged)
    (rw (c.fields-f.ensures, c.byte_at-in-Ok.ensures, c.byte_at.ensures) (soa_told _ _ _ judged _ _ (rw (c.payload_place.ensures, c.fields-f.ensures) at c.soa_values-numbers.ensures)))
