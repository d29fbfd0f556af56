-- `reading::read_kind` meets its contract: each arm is the reader of its kind.
-- Assumes nothing.
use Rattle.powerlink.proofs.reading.read_kind.Goals as goal

pub returns-in-SoC : goal.returns-in-SoC
returns-in-SoC c = rw c.in-SoC.is c.read_soc.ensures

pub returns-in-PReq : goal.returns-in-PReq
returns-in-PReq c = rw c.in-PReq.is c.read_preq.ensures

pub returns-in-PRes : goal.returns-in-PRes
returns-in-PRes c = rw c.in-PRes.is c.read_pres.ensures

pub returns-in-SoA : goal.returns-in-SoA
returns-in-SoA c = rw c.in-SoA.is c.read_soa.ensures

pub returns-in-ASnd : goal.returns-in-ASnd
returns-in-ASnd c = rw c.in-ASnd.is c.read_asnd.ensures
