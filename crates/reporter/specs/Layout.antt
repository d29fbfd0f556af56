-- What the octets of a reporter's state mean, and what each call makes of them. The papers leave the layout to the program; every
-- list of octets means a head: a start counts modulo `places`, a count above its bound is the bound, EN is the lowest bit.
-- Assumes nothing.
use Rattle.std.specs.Prelude.{ℕ, ◌+◌, ◌*◌, ◌-◌, ◌%◌, min, Bool, ◌&&◌, List, get_or, set, replicate, eqb, ltb, Result, Ok, Err}
use Rattle.types.specs.Codes.{pick}
use Rattle.error_entry.specs.declared.ErrorEntry.{ErrorEntry}
use Rattle.records.specs.Records.{entry_length, record_at, with_record}
use Rattle.records.specs.Ring.{ring}
use Rattle.reporter.specs.Rules.{batch_length, queue_length, Head, when_raised, when_written, when_closed}
use Rattle.types.specs.declared.hal.PowerlinkError.{PowerlinkError}
use Rattle.reporter.specs.declared.RaiseError.{RaiseError}
use Rattle.reporter.specs.declared.NewError.{NewError}
use Rattle.reporter.specs.declared.ReadOutcome.{ReadOutcome}

-- ---- where the octets stand: control octets, then the ring's records

-- the control octets: the node ID, EN, the ring's start, how many entries are open and how many wait; the others are spare
abbrev pub control_length : ℕ
control_length = 8

abbrev pub id_at : ℕ
id_at = 0

abbrev pub en_at : ℕ
en_at = 1

abbrev pub start_at : ℕ
start_at = 2

abbrev pub open_at : ℕ
open_at = 3

abbrev pub waiting_at : ℕ
waiting_at = 4

-- a record of the ring: the entry
abbrev pub record_length : ℕ
record_length = entry_length

-- places for the largest open batch and for all entries that may wait
abbrev pub places : ℕ
places = batch_length + queue_length

abbrev pub reporter_length : ℕ
reporter_length = control_length + record_length * places

unfoldable pub en_of : List ℕ → Bool
en_of s = eqb (get_or s en_at 0 % 2) 1

unfoldable pub start_of : List ℕ → ℕ
start_of s = get_or s start_at 0 % places

unfoldable pub open_of : List ℕ → ℕ
open_of s = min (get_or s open_at 0) batch_length

unfoldable pub waiting_of : List ℕ → ℕ
waiting_of s = min (get_or s waiting_at 0) queue_length

-- where the record at a place of the ring begins
abbrev pub record_place : ℕ → ℕ
record_place p = control_length + record_length * (p % places)

abbrev pub entry_in : List ℕ → ℕ → ErrorEntry
entry_in s p = record_at s (record_place p)

-- the open batch is the ring's first records, the waiting ones follow
unfoldable pub head_of : List ℕ → Head
head_of s =
    record {
      id = get_or s id_at 0;
      en = en_of s;
      batch = ring (entry_in s) places (start_of s) (open_of s);
      waiting = ring (entry_in s) places (start_of s + open_of s) (waiting_of s);
    }

-- ---- what the calls leave

abbrev pub new_bytes : Result Unit NewError → ℕ → List ℕ → List ℕ
new_bytes (Ok _) i s = set (replicate reporter_length 0) id_at i
new_bytes (Err e) i s = s

-- the entry's record behind the waiting ones
unfoldable pub raised_bytes : ErrorEntry → List ℕ → List ℕ
raised_bytes e s = set (with_record s (record_place (start_of s + open_of s + waiting_of s)) e) waiting_at (waiting_of s + 1)

abbrev pub raise_bytes : Result Unit RaiseError → ErrorEntry → List ℕ → List ℕ
raise_bytes r e s = when_raised r (raised_bytes e s) s

-- whether an answer opens a batch
abbrev pub opens_in : List ℕ → Bool
opens_in s = eqb (open_of s) 0 && ltb 0 (waiting_of s)

-- how many entries an answer carries
unfoldable pub carried_in : List ℕ → ℕ
carried_in s = pick (opens_in s) (min (waiting_of s) batch_length) (open_of s)

-- the four entries from the ring's start on
abbrev pub first_four : List ℕ → List ErrorEntry
first_four s = ring (entry_in s) places (start_of s) batch_length

-- opening moves the bound between the batch and the waiting ones, and no record
unfoldable pub opened_bytes : List ℕ → List ℕ
opened_bytes s =
    pick (opens_in s)
    (set (set (set s en_at (pick (en_of s) 0 1)) open_at (carried_in s)) waiting_at (waiting_of s - carried_in s))
    s

abbrev pub answer_bytes : Result ℕ PowerlinkError → List ℕ → List ℕ
answer_bytes r s = when_written r (opened_bytes s) s

-- closing moves the ring's start past the batch
abbrev pub closed_bytes : List ℕ → List ℕ
closed_bytes s = set (set s start_at ((start_of s + open_of s) % places)) open_at 0

abbrev pub acknowledge_bytes : Result ReadOutcome PowerlinkError → List ℕ → List ℕ
acknowledge_bytes r s = when_closed r (closed_bytes s) s
