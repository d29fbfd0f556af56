-- What a host in C sees of a list of calls: what it gave, the numbers that they answered, and what they left. 01's words of the list, and which
-- call of `signaling` each was, are read off the numbers.
-- Assumes nothing.
use Rattle.std.specs.Prelude.{ℕ, Bool, List, [], ◌∷◌, ◌++◌, take, eqb, Result, Ok, Err}
use Rattle.types.specs.Causes.{Cause, row}
use Rattle.types.specs.Codes.{pick}
use Rattle.types.specs.Modes.{mode_of}
use Rattle.types.specs.States.{state_of}
use Rattle.types.specs.declared.common.NetTime.{NetTime}
use Rattle.types.specs.declared.error_mode.ErrorEntryMode.{ErrorEntryMode}
use Rattle.error_entry.specs.Values.{entry_told}
use Rattle.error_entry.specs.declared.ErrorEntry.{ErrorEntry}
use Rattle.reporter.specs.CausesTell.{raise_told, write_told, read_told}
use Rattle.collector.specs.CausesTell as box
use Rattle.c_values.specs.Values.{entry_with}
use Rattle.signaling.specs.Calls.{Origin, raised, answered, head_read, registered, box_read, requested, taken, hosted, Log}
use Rattle.types.specs.declared.states.NmtState.{NmtState}
use Rattle.types.specs.declared.hal.PowerlinkError.{PowerlinkError}
use Rattle.types.specs.declared.error_mode.UnknownMode.{UnknownMode}

-- the parameters of a Raise
pub record Raising : Type 0 where
  pub status : Bool
  pub queue : Bool
  pub mode : ℕ
  pub profile : ℕ
  pub code : ℕ
  pub stamp : NetTime
  pub information : ℕ

-- A call: what it was given, as far as it matters, the number that it answered, and what then stood in the target and behind the
-- out-parameters. Where frames are read, these are the outcome and the octet.
pub data Call : Type 0 where
  reporter_raise : Raising → (number : ℕ) → Call
  reporter_answer : (state number : ℕ) (target : List ℕ) (written : ℕ) → Call
  reporter_read : (services : List ℕ) → Origin → (frame : List ℕ) (number outcome octet : ℕ) → Call
  collector_register : (node number : ℕ) → Call
  collector_read : (services : List ℕ) → Origin → (frame : List ℕ) (number outcome octet : ℕ) → Call
  collector_request : (node state number : ℕ) (target : List ℕ) (written : ℕ) → Call
  collector_take : (node number : ℕ) (values : List ℕ) → Call
  -- no call: a frame that the box's host sends
  host_sends : List ℕ → Call

abbrev pub raised_entry : Raising → ErrorEntryMode → ErrorEntry
raised_entry g m = entry_with g.status g.queue m g.profile g.code g.stamp g.information

-- ---- 01's words of it, by the numbers alone: what answered 0 was not refused

pub record Seen : Type 0 where
  -- "the entries of the Raises not refused, as given and in order"
  pub accepted : List ErrorEntry
  -- "what the Takes for the head's ID handed out, in order"
  pub handed_out : List ErrorEntry
  -- "An Answer or request not refused sends a copy of the bytes it wrote, as many as the returned length"
  pub answers_sent : List (List ℕ)
  pub requests_sent : List (List ℕ)

abbrev pub unseen : Seen
unseen = record { accepted = []; handed_out = []; answers_sent = []; requests_sent = [] }

-- 0: not refused
abbrev pub if_zero : {A : Type 0} → ℕ → List A → List A → List A
if_zero r new old = pick (eqb r 0) new old

-- the entry of a Raise whose mode is one
abbrev pub raised_entries : Raising → Result ErrorEntryMode UnknownMode → List ErrorEntry
raised_entries g (Err x) = []
raised_entries g (Ok m) = raised_entry g m ∷ []

-- what a call adds, for the head with ID i
abbrev pub seen_with : ℕ → Call → Seen → Seen
seen_with i (reporter_raise g r) s =
    record {
      accepted = if_zero r (s.accepted ++ raised_entries g (mode_of g.mode)) s.accepted;
      handed_out = s.handed_out;
      answers_sent = s.answers_sent;
      requests_sent = s.requests_sent;
    }
seen_with i (reporter_answer state r t n) s =
    record {
      accepted = s.accepted;
      handed_out = s.handed_out;
      answers_sent = if_zero r (s.answers_sent ++ (take n t ∷ [])) s.answers_sent;
      requests_sent = s.requests_sent;
    }
seen_with i (reporter_read services from bs r k o) s = s
seen_with i (collector_register j r) s = s
seen_with i (collector_read services from bs r k o) s = s
seen_with i (collector_request j state r t n) s =
    record {
      accepted = s.accepted;
      handed_out = s.handed_out;
      answers_sent = s.answers_sent;
      requests_sent = if_zero r (s.requests_sent ++ (take n t ∷ [])) s.requests_sent;
    }
seen_with i (collector_take j r vs) s =
    record {
      accepted = s.accepted;
      handed_out = pick (eqb j i) (if_zero r (s.handed_out ++ (entry_told vs ∷ [])) s.handed_out) s.handed_out;
      answers_sent = s.answers_sent;
      requests_sent = s.requests_sent;
    }
seen_with i (host_sends bs) s =
    record {
      accepted = s.accepted;
      handed_out = s.handed_out;
      answers_sent = s.answers_sent;
      requests_sent = s.requests_sent ++ (bs ∷ []);
    }

-- the newest call first
abbrev pub seen : ℕ → List Call → Seen
seen i [] = unseen
seen i (x ∷ l) = seen_with i x (seen i l)

-- ---- which call of `signaling` it was, by the numbers: none where a code names nothing

-- 0 is raised, 8 an invalid entry, 23 a status entry, 9 a full queue
abbrev pub raise_events : Raising → Result ErrorEntryMode UnknownMode → ℕ → Log
raise_events g (Err x) r = []
raise_events g (Ok m) r = raised (raised_entry g m) (raise_told (row r [])) ∷ []

-- 0 is written, with the length
abbrev pub answer_events : Result NmtState PowerlinkError → ℕ → List ℕ → ℕ → Log
answer_events (Err e) r t n = []
answer_events (Ok k) r t n = answered (write_told (row r (n ∷ []))) t ∷ []

abbrev pub request_events : ℕ → Result NmtState PowerlinkError → ℕ → List ℕ → ℕ → Log
request_events j (Err e) r t n = []
request_events j (Ok k) r t n = requested j (box.request_told (row r (n ∷ []))) t ∷ []

-- a reading's row: 0 with the outcome, or the cause with the octet
abbrev pub reading : ℕ → ℕ → ℕ → Cause
reading r k o = row r (pick (eqb r 0) k o ∷ [])

abbrev pub events_of : Call → Log
events_of (reporter_raise g r) = raise_events g (mode_of g.mode) r
events_of (reporter_answer s r t n) = answer_events (state_of s) r t n
events_of (reporter_read services from bs r k o) = head_read services from bs (read_told (reading r k o)) ∷ []
events_of (collector_register j r) = registered j (box.register_told (row r [])) ∷ []
events_of (collector_read services from bs r k o) = box_read services from bs (box.read_told (reading r k o)) ∷ []
events_of (collector_request j s r t n) = request_events j (state_of s) r t n
events_of (collector_take j r vs) = taken j (box.take_told (row r vs)) ∷ []
events_of (host_sends bs) = hosted bs ∷ []

-- the newest first; the open batch and the waiting entries are what the rules make of these (`ruled`, `unbooked`)
abbrev pub events : List Call → Log
events [] = []
events (x ∷ l) = events_of x ++ events l
