-- `PowerlinkFrame::serialize_behind` meets its contract: the kind picks the section.
-- Assumes nothing.
use Rattle.control.specs.SoA.{soa_section}
use Rattle.control.specs.SoC.{soc_section}
use Rattle.poll.specs.PReq.{preq_section}
use Rattle.poll.specs.PRes.{pres_section}
use Rattle.section.proofs.Coded.{serializes}
use Rattle.frame.proofs.PowerlinkFrame.serialize_behind.Goals as goal

pub returns-in-Soc : goal.returns-in-Soc
unfolding soc_section
returns-in-Soc c =
    rw c.in-Soc.is (serializes _ _ _ _ (rw c.to_bytes.ensures at c.write_behind.ensures))

pub returns-in-PReq : goal.returns-in-PReq
unfolding preq_section
returns-in-PReq c =
    rw c.in-PReq.is (serializes _ _ _ _ (rw c.to_bytes-in-PReq.ensures at c.write_behind-in-PReq.ensures))

pub returns-in-PRes : goal.returns-in-PRes
unfolding pres_section
returns-in-PRes c =
    rw c.in-PRes.is (serializes _ _ _ _ (rw c.to_bytes-in-PRes.ensures at c.write_behind-in-PRes.ensures))

pub returns-in-SoA : goal.returns-in-SoA
unfolding soa_section
returns-in-SoA c =
    rw c.in-SoA.is (serializes _ _ _ _ (rw c.to_bytes-in-SoA.ensures at c.write_behind-in-SoA.ensures))
