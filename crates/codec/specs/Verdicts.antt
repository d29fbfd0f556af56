-- What a section is by what its kind's `judge` answers.
-- Assumes nothing.
use Rattle.std.specs.Prelude.{ℕ, List, Result, Ok, Err}
use Rattle.types.specs.declared.common.NetTime.{NetTime}
use Rattle.types.specs.declared.common.RelativeTime.{RelativeTime}
use Rattle.types.specs.declared.requested_service.RequestedServiceId.{RequestedServiceId}
use Rattle.types.specs.declared.states.NmtState.{NmtState}
use Rattle.control.specs.declared.soc.SocFrame.{SocFrame}
use Rattle.codec.specs.ASnd.{asnd_of}
use Rattle.codec.specs.PReq.{preq_of}
use Rattle.codec.specs.PRes.{pres_of}
use Rattle.codec.specs.SoA.{soa_of}
use Rattle.codec.specs.SoC.{soc_of}
use Rattle.frame.specs.declared.PowerlinkFrame.TheVariants.{Soc, PReq, PRes, SoA, ASnd}
use Rattle.frame.specs.declared.PowerlinkFrame.{PowerlinkFrame}
use Rattle.types.specs.declared.hal.PowerlinkError.{PowerlinkError}

-- a SoC with the times given
abbrev pub soc_timed : List ℕ → NetTime → RelativeTime → SocFrame
soc_timed s net relative =
    record {
      destination = (soc_of s).destination;
      source = (soc_of s).source;
      flags = (soc_of s).flags;
      net_time = net;
      relative_time = relative;
    }

abbrev pub soc_answer : Result (NetTime × RelativeTime) PowerlinkError → List ℕ → Result PowerlinkFrame PowerlinkError
soc_answer (Ok times) s = Ok (Soc (soc_timed s times.0 times.1))
soc_answer (Err e) s = Err e

abbrev pub preq_answer : Result ℕ PowerlinkError → List ℕ → Result PowerlinkFrame PowerlinkError
preq_answer (Ok n) s = Ok (PReq (preq_of s n))
preq_answer (Err e) s = Err e

abbrev pub pres_answer : Result (NmtState × ℕ) PowerlinkError → List ℕ → Result PowerlinkFrame PowerlinkError
pres_answer (Ok read) s = Ok (PRes (pres_of s read.0 read.1))
pres_answer (Err e) s = Err e

abbrev pub soa_answer : Result (NmtState × RequestedServiceId) PowerlinkError → List ℕ → Result PowerlinkFrame PowerlinkError
soa_answer (Ok read) s = Ok (SoA (soa_of s read.0 read.1))
soa_answer (Err e) s = Err e

abbrev pub asnd_answer : Result Unit PowerlinkError → List ℕ → Result PowerlinkFrame PowerlinkError
asnd_answer (Ok _) s = Ok (ASnd (asnd_of s))
asnd_answer (Err e) s = Err e
