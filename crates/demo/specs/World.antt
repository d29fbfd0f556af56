-- The world in which the demonstration begins: a fresh box and fresh heads, nothing on the line, nothing counted.
-- Assumes nothing.
use Rattle.std.specs.Prelude.{ℕ, ◌%◌, Bool, List, [], ◌∷◌, false, None, Some, Option, eqb, replicate}
use Rattle.types.specs.Codes.{pick}
use Rattle.services.specs.Ids.{status_response}
use Rattle.services.specs.Table.{table_of, ds301}
use Rattle.reporter.specs.Layout.{reporter_length, new_bytes}
use Rattle.reporter.specs.Rules.{new_answer}
use Rattle.collector.specs.Layout.{fresh_bytes}
use Rattle.demo.specs.declared.account.Batch.{Batch}
use Rattle.demo.specs.declared.account.Head.{Head}
use Rattle.demo.specs.declared.line.Line.{Line}
use Rattle.demo.specs.declared.target.Frame.{Frame}
use Rattle.demo.specs.declared.world.Node.{Node}
use Rattle.demo.specs.declared.world.Scene.{Scene}
use Rattle.demo.specs.declared.world.World.{World}

-- octets that hold a frame
abbrev pub room : ℕ
room = 240

-- an octet that nothing has written
abbrev pub unwritten : ℕ
unwritten = 0xFC

abbrev pub no_frame : Frame
no_frame = record { octets = replicate room unwritten; len = 0 }

-- the five heads, and the managing node
abbrev pub senders : ℕ
senders = 6

-- the last frames of each that the line keeps
abbrev pub kept : ℕ
kept = 8

abbrev pub empty_line : Line
empty_line = record { frames = replicate senders (replicate kept no_frame) }

-- a place for each number as far as the largest
abbrev pub causes : ℕ
causes = 24

abbrev pub first_world : World
first_world = record {
  at_box = fresh_bytes;
  line = empty_line;
  calls = 0;
  refusals = replicate causes 0;
  faults = 0;
  sent = 0;
  by_host = 0;
}

-- ---- heads

-- StatusResponse, and the three IDs of a house's own
abbrev pub house_ids : List ℕ
house_ids = status_response ∷ 0x20 ∷ 0x80 ∷ 0xFF ∷ []

-- every second head is the house's
abbrev pub is_house : ℕ → Bool
is_house n = eqb (n % 2) 1

abbrev pub services_of : ℕ → List ℕ
services_of n = pick (is_house n) (table_of house_ids) ds301

-- entries of the open batch
abbrev pub in_batch : Option Batch → ℕ
in_batch None = 0
in_batch (Some b) = b.entries

abbrev pub first_head : ℕ → ℕ → Head
first_head number id = record {
  number = number;
  id = id;
  registered = false;
  accepted = 0;
  refused = 0;
  waiting = 0;
  «open» = None;
  booked = 0;
  taken = 0;
  sent = 0;
  read = 0;
  lost = 0;
  repeated = 0;
  heard = 0;
}

-- its state made anew; as it was, where no head can have the ID
abbrev pub renewed : ℕ → Node → Node
renewed id n = record { head = n.head; state = new_bytes (new_answer id) id n.state; services = n.services }

abbrev pub first_node : ℕ → ℕ → Node
first_node number id =
    renewed id (record { head = first_head number id; state = replicate reporter_length 0; services = services_of number })

-- the five heads, beside a fresh box
abbrev pub first_scene : World → Scene
first_scene w = record {
  nodes = first_node 0 7 ∷ first_node 1 21 ∷ first_node 2 120 ∷ first_node 3 239 ∷ first_node 4 200 ∷ [];
  world = record {
    at_box = fresh_bytes;
    line = w.line;
    calls = w.calls;
    refusals = w.refusals;
    faults = w.faults;
    sent = w.sent;
    by_host = w.by_host;
  };
}
