-- The lines of 01 that are marked P, together as one table over the definitions: what the definitions give is what each line says.
-- Assumes nothing.
use Rattle.std.specs.Prelude.{ℕ, ◌≡◌, List, map, length, Result, Ok, Err}
use Rattle.codec.specs.Frame.{deserialize_frame, frame_in, frame_cause, payload_of}
use Rattle.codec.specs.declared.DeserializedFrame.{DeserializedFrame}
use Rattle.codec.specs.declared.RefusedFrame.{RefusedFrame}
use Rattle.status_response.specs.Fields.{read_fields, status_cause}
use Rattle.status_response.specs.Steps.{status_entries}
use Rattle.frame_laws.specs.FlagLines.{FlagLineHolds}
use Rattle.frame_laws.specs.FrameLines.{FrameLine, frame_lines}
use Rattle.frame_laws.specs.StatusLines.{StatusLine, status_lines}

-- the payload of what was read from these bytes, or refused
abbrev pub payload_read : List ℕ → Result DeserializedFrame RefusedFrame → List ℕ
payload_read bytes (Ok d) = payload_of d.payload_place bytes
payload_read bytes (Err x) = payload_of x.payload_place bytes

-- what reading the line's bytes under a table gives, in the form of a line
abbrev pub frame_outcome : List ℕ → FrameLine → FrameLine
frame_outcome services l =
    record {
      bytes = l.bytes;
      number = (frame_cause (frame_in (deserialize_frame services l.bytes))).number;
      returned = (frame_cause (frame_in (deserialize_frame services l.bytes))).returned;
      payload = length (payload_read l.bytes (deserialize_frame services l.bytes));
    }

-- what reading the line's payload gives, in the form of a line
abbrev pub status_outcome : StatusLine → StatusLine
status_outcome l =
    record {
      payload = l.payload;
      number = (status_cause (read_fields l.payload)).number;
      returned = (status_cause (read_fields l.payload)).returned;
      entries = length (status_entries l.payload);
    }

pub record TableHolds : Type 0 where
  -- under every table: the services of these lines are StatusResponse
  pub frames : (services : List ℕ) → map (frame_outcome services) frame_lines ≡ frame_lines
  pub statuses : map status_outcome status_lines ≡ status_lines
  pub flags : FlagLineHolds
