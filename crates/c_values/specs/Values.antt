-- The numbers of what was read, for a caller in C, where a flag is 1 or 0; and the entry that a caller's numbers give.
-- Assumes nothing.
use Rattle.std.specs.Prelude.{ℕ, Bool, List, [], ◌∷◌}
use Rattle.types.specs.Messages.{message_code}
use Rattle.types.specs.PollFlags.{priority_code}
use Rattle.types.specs.RequestedServices.{requested_code}
use Rattle.types.specs.States.{state_code}
use Rattle.types.specs.declared.common.NetTime.{NetTime}
use Rattle.types.specs.declared.error_mode.ErrorEntryMode.{ErrorEntryMode}
use Rattle.types.specs.declared.message_type.MessageType.TheVariants as message
use Rattle.control.specs.declared.asnd.ASndFrame.{ASndFrame}
use Rattle.control.specs.declared.soa.SoAFrame.{SoAFrame}
use Rattle.control.specs.declared.soc.SocFrame.{SocFrame}
use Rattle.poll.specs.declared.preq.PReqFrame.{PReqFrame}
use Rattle.poll.specs.declared.pres.PResFrame.{PResFrame}
use Rattle.frame.specs.declared.PowerlinkFrame.{PowerlinkFrame}
use Rattle.frame.specs.declared.PowerlinkFrame.TheVariants.{Soc, PReq, PRes, SoA, ASnd}
use Rattle.codec.specs.declared.PayloadPlace.{PayloadPlace}
pub use Rattle.error_entry.specs.Values.{as_number, entry_numbers}
use Rattle.error_entry.specs.declared.ErrorEntry.{ErrorEntry}
use Rattle.status_response.specs.declared.fields.StatusFields.{StatusFields}

-- ---- frames

-- 0 message type, 1 destination, 2 source, 3 and 4 the payload's place, 5 mc, 6 ps, 7 seconds, 8 nanoseconds, 9 relative time
abbrev pub soc_numbers : SocFrame → PayloadPlace → List ℕ
soc_numbers f p =
    message_code message.SoC ∷ f.destination.0 ∷ f.source.0 ∷ p.start ∷ p.len ∷ as_number f.flags.mc ∷ as_number f.flags.ps
    ∷ f.net_time.seconds ∷ f.net_time.nanoseconds ∷ f.relative_time.0 ∷ 0 ∷ 0 ∷ 0 ∷ 0 ∷ 0 ∷ 0 ∷ []

-- from 5 on ms, ea, rd, PDO version, payload size
abbrev pub preq_numbers : PReqFrame → PayloadPlace → List ℕ
preq_numbers f p =
    message_code message.PReq ∷ f.destination.0 ∷ f.source.0 ∷ p.start ∷ p.len ∷ as_number f.flags.ms ∷ as_number f.flags.ea
    ∷ as_number f.flags.rd ∷ f.pdo_version.0 ∷ f.payload_size ∷ 0 ∷ 0 ∷ 0 ∷ 0 ∷ 0 ∷ 0 ∷ []

-- from 5 on ms, en, rd, PDO version, payload size, state, pr, rs
abbrev pub pres_numbers : PResFrame → PayloadPlace → List ℕ
pres_numbers f p =
    message_code message.PRes ∷ f.destination.0 ∷ f.source.0 ∷ p.start ∷ p.len ∷ as_number f.flags.ms ∷ as_number f.flags.en
    ∷ as_number f.flags.rd ∷ f.pdo_version.0 ∷ f.payload_size ∷ state_code f.nmt_state ∷ priority_code f.flags.pr
    ∷ f.flags.rs.0 ∷ 0 ∷ 0 ∷ 0 ∷ []

-- from 5 on ea, er, requested service, target, EPL version, state
abbrev pub soa_numbers : SoAFrame → PayloadPlace → List ℕ
soa_numbers f p =
    message_code message.SoA ∷ f.destination.0 ∷ f.source.0 ∷ p.start ∷ p.len ∷ as_number f.flags.ea ∷ as_number f.flags.er
    ∷ requested_code f.req_service_id ∷ f.target_node_id.0 ∷ f.epl_version.0 ∷ state_code f.nmt_state ∷ 0 ∷ 0 ∷ 0 ∷ 0 ∷ 0 ∷ []

-- 5 service
abbrev pub asnd_numbers : ASndFrame → PayloadPlace → List ℕ
asnd_numbers f p =
    message_code message.ASnd ∷ f.destination.0 ∷ f.source.0 ∷ p.start ∷ p.len ∷ f.service_id.0
    ∷ 0 ∷ 0 ∷ 0 ∷ 0 ∷ 0 ∷ 0 ∷ 0 ∷ 0 ∷ 0 ∷ 0 ∷ []

abbrev pub frame_numbers : PowerlinkFrame → PayloadPlace → List ℕ
frame_numbers (Soc f) p = soc_numbers f p
frame_numbers (PReq f) p = preq_numbers f p
frame_numbers (PRes f) p = pres_numbers f p
frame_numbers (SoA f) p = soa_numbers f p
frame_numbers (ASnd f) p = asnd_numbers f p

-- ---- StatusResponse

-- en, ec, pr, rs, state
abbrev pub status_numbers : StatusFields → List ℕ
status_numbers f =
    as_number f.en_flag ∷ as_number f.ec_flag ∷ priority_code f.pr ∷ f.rs.0 ∷ state_code f.nmt_state ∷ []

-- ---- an entry

abbrev pub time : ℕ → ℕ → NetTime
time s ns = record { seconds = s; nanoseconds = ns }

abbrev pub entry_with : Bool → Bool → ErrorEntryMode → ℕ → ℕ → NetTime → ℕ → ErrorEntry
entry_with status queue mode profile code stamp information =
    record {
      entry_type = record { is_status_entry = status; send_to_queue = queue; mode = mode; profile = profile };
      error_code = code;
      timestamp = stamp;
      additional_information = information;
    }
