-- The table of P lines holds: the definitions compute to what each line says.
-- Assumes nothing.
use Prim.Native.Nat.{ℕ}
use mathlib.Core.Path.{◌≡◌, refl}
use mathlib.Core.List.{List, map}
use Rattle.octets.specs.Numbers.{le_at, be_at}
use Rattle.types.specs.Header.{eth_header_of}
use Rattle.types.specs.Messages.{message_of}
use Rattle.types.specs.Modes.{mode_in}
use Rattle.types.specs.PollFlags.{priority_in}
use Rattle.types.specs.RequestedServices.{requested_of}
use Rattle.types.specs.States.{state_of}
use Rattle.services.specs.Table.{holds}
use Rattle.codec.specs.ASnd.{read_asnd, asnd_payload_length}
use Rattle.codec.specs.Frame.{kind_in, kind_of, read_frame, deserialize_frame}
use Rattle.codec.specs.PReq.{read_preq}
use Rattle.codec.specs.PRes.{pres_flags_of, read_pres}
use Rattle.codec.specs.SoA.{read_soa}
use Rattle.codec.specs.SoC.{read_soc}
use Rattle.error_entry.specs.Entry.{entry_type_of, entry_of}
use Rattle.status_response.specs.Fields.{read_fields}
use Rattle.status_response.specs.Steps.{status_entries}
use Rattle.frame_laws.specs.FrameLines.{frame_lines}
use Rattle.frame_laws.specs.Lines.{frame_outcome, status_outcome, TableHolds}
use Rattle.frame_laws.specs.StatusLines.{status_lines}
use Rattle.frame_laws.proofs.FlagLines.{flag_line_holds}

frames_hold : (services : List ℕ) → map (frame_outcome services) frame_lines ≡ frame_lines
unfolding le_at be_at eth_header_of message_of priority_in requested_of state_of holds read_asnd asnd_payload_length kind_in kind_of read_frame deserialize_frame read_preq pres_flags_of read_pres read_soa read_soc
frames_hold services = refl

statuses_hold : map status_outcome status_lines ≡ status_lines
unfolding le_at priority_in state_of read_fields status_entries entry_type_of entry_of mode_in
statuses_hold = refl

pub table_holds : TableHolds
table_holds = record { frames = frames_hold; statuses = statuses_hold; flags = flag_line_holds }
