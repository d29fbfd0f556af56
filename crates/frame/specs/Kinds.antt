-- A frame asked for as one kind: that kind, or the frame as it was.
-- Assumes nothing.
use Rattle.std.specs.Prelude.{Result, Ok, Err}
use Rattle.frame.specs.declared.PowerlinkFrame.{PowerlinkFrame}
use Rattle.frame.specs.declared.PowerlinkFrame.TheVariants.{Soc, PReq, PRes, SoA, ASnd}
use Rattle.control.specs.declared.soc.SocFrame.{SocFrame}
use Rattle.poll.specs.declared.preq.PReqFrame.{PReqFrame}
use Rattle.poll.specs.declared.pres.PResFrame.{PResFrame}
use Rattle.control.specs.declared.soa.SoAFrame.{SoAFrame}
use Rattle.control.specs.declared.asnd.ASndFrame.{ASndFrame}

abbrev pub into_soc : PowerlinkFrame → Result SocFrame PowerlinkFrame
into_soc (Soc f) = Ok f
into_soc (PReq f) = Err (PReq f)
into_soc (PRes f) = Err (PRes f)
into_soc (SoA f) = Err (SoA f)
into_soc (ASnd f) = Err (ASnd f)

abbrev pub into_preq : PowerlinkFrame → Result PReqFrame PowerlinkFrame
into_preq (Soc f) = Err (Soc f)
into_preq (PReq f) = Ok f
into_preq (PRes f) = Err (PRes f)
into_preq (SoA f) = Err (SoA f)
into_preq (ASnd f) = Err (ASnd f)

abbrev pub into_pres : PowerlinkFrame → Result PResFrame PowerlinkFrame
into_pres (Soc f) = Err (Soc f)
into_pres (PReq f) = Err (PReq f)
into_pres (PRes f) = Ok f
into_pres (SoA f) = Err (SoA f)
into_pres (ASnd f) = Err (ASnd f)

abbrev pub into_soa : PowerlinkFrame → Result SoAFrame PowerlinkFrame
into_soa (Soc f) = Err (Soc f)
into_soa (PReq f) = Err (PReq f)
into_soa (PRes f) = Err (PRes f)
into_soa (SoA f) = Ok f
into_soa (ASnd f) = Err (ASnd f)

abbrev pub into_asnd : PowerlinkFrame → Result ASndFrame PowerlinkFrame
into_asnd (Soc f) = Err (Soc f)
into_asnd (PReq f) = Err (PReq f)
into_asnd (PRes f) = Err (PRes f)
into_asnd (SoA f) = Err (SoA f)
into_asnd (ASnd f) = Ok f
