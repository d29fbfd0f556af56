-- Reading the section of a PRes frame (EPSG DS 301, 4.6.1.1.4, Table 20).
-- Assumes nothing.
use Rattle.std.specs.Prelude.{ℕ, ◌-◌, List, length, get_or, leb, eqb, Result, Ok, Err}
use Rattle.octets.specs.Numbers.{bit, le_at}
use Rattle.types.specs.Codes.{need}
use Rattle.types.specs.Nodes.{broadcast_node}
use Rattle.types.specs.PollFlags.{priority_at, requests_at}
use Rattle.types.specs.States.{state_of}
use Rattle.types.specs.declared.hal.PowerlinkError.TheVariants.{BufferTooShort, InvalidPlFrame}
use Rattle.types.specs.declared.states.NmtState.{NmtState}
use Rattle.poll.specs.Poll.{poll_fields_length, ms_bit, rd_bit}
use Rattle.poll.specs.PRes.{en_bit}
use Rattle.poll.specs.declared.pres.PResFlags.{PResFlags}
use Rattle.poll.specs.declared.pres.PResFrame.{PResFrame}
use Rattle.frame.specs.declared.PowerlinkFrame.TheVariants.{PRes}
use Rattle.types.specs.declared.hal.PowerlinkError.{PowerlinkError}
use Rattle.frame.specs.declared.PowerlinkFrame.{PowerlinkFrame}

-- octet 4: ms, en, rd; octet 5: pr and rs
unfoldable pub pres_flags_of : ℕ → ℕ → PResFlags
pres_flags_of octet4 octet5 =
    record {
      ms = bit ms_bit octet4;
      en = bit en_bit octet4;
      rd = bit rd_bit octet4;
      pr = priority_at octet5;
      rs = requests_at octet5;
    }

-- octet 1 destination, 2 source, 3 state, 4 and 5 flags, 6 PDO version, 8 to 9 payload size, then the payload
abbrev pub pres_of : List ℕ → NmtState → ℕ → PResFrame
pres_of s state size =
    record {
      destination = record { 0 = get_or s 1 0 };
      source = record { 0 = get_or s 2 0 };
      nmt_state = state;
      flags = pres_flags_of (get_or s 4 0) (get_or s 5 0);
      pdo_version = record { 0 = get_or s 6 0 };
      payload_size = size;
    }

abbrev pub pres_by_state : List ℕ → Result NmtState PowerlinkError → Result PowerlinkFrame PowerlinkError
pres_by_state s (Err e) = Err e
pres_by_state s (Ok state) =
    need (leb (le_at 2 8 s) (length s - poll_fields_length)) (Err BufferTooShort)
    (Ok (PRes (pres_of s state (le_at 2 8 s))))

-- the octets of the fields are needed, then all nodes as destination, then a state, then the octets of the payload
unfoldable pub read_pres : List ℕ → Result PowerlinkFrame PowerlinkError
read_pres s =
    need (leb poll_fields_length (length s)) (Err BufferTooShort)
    (need (eqb (get_or s 1 0) broadcast_node) (Err InvalidPlFrame)
    (pres_by_state s (state_of (get_or s 3 0))))
