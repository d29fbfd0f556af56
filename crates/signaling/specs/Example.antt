-- What Demand3 and Progress ask for can be met: a list of all calls with losses, repeats and refusals that books two batches, and two
-- exchanges. And what they leave out has to be left out, three lists that lose entries: of a frame of the box's host with any EA, of one
-- that was built before a newer request, and of a StatusResponse under the head's ID that the head did not send.
-- Assumes nothing.
use Rattle.std.specs.Prelude.{ℕ, Bool, true, false, ◌≡◌, List, [], ◌∷◌, ◌++◌, take, drop, Result, Ok, Err, Some, slice_get}
use Rattle.types.specs.declared.error_mode.ErrorEntryMode.{ErrorEntryMode}
use Rattle.types.specs.declared.error_mode.ErrorEntryMode.TheVariants.{Terminator, ErrorActive, ErrorCleared, EventOccurred}
use Rattle.types.specs.declared.hal.PowerlinkError.TheVariants.{InvalidServiceId}
use Rattle.types.specs.declared.hal.PowerlinkError.{PowerlinkError}
use Rattle.services.specs.Table.{table_of, ds301}
use Rattle.frame.specs.Write.{frame_bytes}
use Rattle.frame.specs.declared.PowerlinkFrame.TheVariants.{ASnd}
use Rattle.error_entry.specs.Entry.{entry_bytes}
use Rattle.error_entry.specs.declared.ErrorEntry.{ErrorEntry}
use Rattle.status_response.specs.Fields.{head_bytes}
use Rattle.status_response.specs.Steps.{status_bytes}
use Rattle.reporter.specs.Calls as reporter
use Rattle.reporter.specs.Layout.{head_of}
use Rattle.reporter.specs.Rules.{status_fields, answer_asnd, ea_told}
use Rattle.reporter.specs.declared.AnswerFields.{AnswerFields}
use Rattle.reporter.specs.declared.RaiseError.TheVariants.{EntryInvalid, StatusEntry}
use Rattle.reporter.specs.declared.RaiseError.{RaiseError}
use Rattle.reporter.specs.declared.ReadOutcome.TheVariants as head
use Rattle.reporter.specs.declared.ReadOutcome.{ReadOutcome}
use Rattle.collector.specs.Calls as collector
use Rattle.collector.specs.Layout.{account_of}
use Rattle.collector.specs.declared.ReadError.TheVariants as refusal
use Rattle.collector.specs.declared.ReadError.{ReadError}
use Rattle.collector.specs.declared.ReadOutcome.TheVariants as box
use Rattle.collector.specs.declared.ReadOutcome.{ReadOutcome as BoxOutcome}
use Rattle.collector.specs.declared.RegisterError.{RegisterError}
use Rattle.collector.specs.declared.RequestError.{RequestError}
use Rattle.collector.specs.declared.TakeError.{TakeError}
use Rattle.signaling.specs.Arrival.{put_in}
use Rattle.signaling.specs.Calls.{Origin, sent, foreign, Event, raised, answered, head_read, registered, box_read, requested, taken, hosted, Log, tally, accepted, handed_out, answers_sent, is_booked, ruled, World, Reaches, Tells, Step, Run, Drained}
use Rattle.signaling.specs.Exchanges.{pending, Exchanges, done, more, Room}

abbrev pub example_entry : Bool → ErrorEntryMode → ℕ → ErrorEntry
example_entry status mode code =
    record {
      entry_type = record { is_status_entry = status; send_to_queue = true; mode = mode; profile = 2 };
      error_code = code;
      timestamp = record { seconds = 1; nanoseconds = 500 };
      additional_information = 0;
    }

abbrev pub entry : ErrorEntryMode → ℕ → ErrorEntry
entry mode code = example_entry false mode code

-- a status entry: but for bit 15 as any other
abbrev pub shown : ErrorEntryMode → ℕ → ErrorEntry
shown mode code = example_entry true mode code

-- a frame with one before its first entry, and one behind its second
abbrev pub two_put_in : List ℕ → List ℕ
two_put_in f = put_in 0 (entry_bytes (shown ErrorActive 0x8170)) (put_in 2 (entry_bytes (shown ErrorCleared 0x8171)) f)

-- of every mode that an entry has
abbrev pub five : List ErrorEntry
five =
    entry ErrorActive 0x8161 ∷ entry ErrorCleared 0x8162 ∷ entry EventOccurred 0x8163 ∷ entry ErrorActive 0x8164 ∷ entry ErrorCleared 0x8165
    ∷ []

-- a house's table: StatusResponse and a service that DS 301 does not know, without eleven of its own
abbrev pub house : List ℕ
house = table_of (0x02 ∷ 0x20 ∷ [])

-- the calls and what they answered, the readings with their tables, without the octets, and the frames of the box's host
pub data Call : Type 0 where
  raises : ErrorEntry → Result Unit RaiseError → Call
  answers : Result ℕ PowerlinkError → Call
  by_head : List ℕ → Origin → Result ReadOutcome PowerlinkError → Call
  registers : ℕ → Result Unit RegisterError → Call
  by_box : List ℕ → Origin → Result BoxOutcome ReadError → Call
  requests : ℕ → Result ℕ RequestError → Call
  takes : ℕ → Result ErrorEntry TakeError → Call
  hosts : Call

abbrev pub call_of : Event → Call
call_of (raised e r) = raises e r
call_of (answered r bs) = answers r
call_of (head_read services o bs r) = by_head services o r
call_of (registered j r) = registers j r
call_of (box_read services o bs r) = by_box services o r
call_of (requested j r bs) = requests j r
call_of (taken j r) = takes j r
call_of (hosted bs) = hosts

-- the oldest first
abbrev pub calls : Log → List Call
calls [] = []
calls (x ∷ l) = calls l ++ (call_of x ∷ [])

-- the list of calls between the head with ID 7, a head with ID 9 and the box

-- both are registered, and the box asks the other one: request 0
abbrev pub at_start : List Call
at_start = registers 7 (Ok tt) ∷ registers 9 (Ok tt) ∷ requests 9 (Ok 60) ∷ []

-- an entry of mode 0 is refused, and so is one with bit 15 set; five are waiting
abbrev pub five_raised : List Call
five_raised =
    raises (entry Terminator 0x8160) (Err EntryInvalid) ∷ raises (shown ErrorActive 0x8170) (Err StatusEntry) ∷ raises (entry ErrorActive 0x8161) (Ok tt)
    ∷ raises (entry ErrorCleared 0x8162) (Ok tt)
    ∷ raises (entry EventOccurred 0x8163) (Ok tt)
    ∷ raises (entry ErrorActive 0x8164) (Ok tt)
    ∷ raises (entry ErrorCleared 0x8165) (Ok tt)
    ∷ []

-- answers 0 and 1 carry the first four: answer 0 is lost
abbrev pub answered_twice : List Call
answered_twice = answers (Ok 132) ∷ answers (Ok 132) ∷ []

-- frames from elsewhere: one under the table of DS 301 and an ASnd of service 20h under `house` are no StatusResponse; that ASnd under the
-- table of DS 301, which does not hold 20h, is refused with 6. Answer 1 is booked under `house`, and its repeat is known under that of DS 301,
-- each with status entries of its own put in
abbrev pub read_twice : List Call
read_twice =
    by_box ds301 foreign (Err refusal.NotStatusResponse) ∷ by_box house foreign (Err refusal.NotStatusResponse)
    ∷ by_box ds301 foreign (Err (refusal.Frame (InvalidServiceId 0x20)))
    ∷ by_box house (sent 1) (Ok box.Booked)
    ∷ by_box ds301 (sent 1) (Ok box.Known)
    ∷ []

-- the other head's request and a frame from elsewhere are ignored; request 1 is lost; request 2 closes the batch under the table of DS 301,
-- and its repeat under `house` closes nothing
abbrev pub first_closed : List Call
first_closed =
    by_head house (sent 0) (Ok head.Ignored) ∷ by_head ds301 foreign (Ok head.Ignored) ∷ requests 7 (Ok 60) ∷ requests 7 (Ok 60)
    ∷ by_head ds301 (sent 2) (Ok head.Closed)
    ∷ by_head house (sent 2) (Ok head.Kept)
    ∷ []

-- answer 2 carries the fifth and is booked under the table of DS 301; a frame of the box's host, on the line of the requests behind
-- request 2, closes that batch under `house`
abbrev pub second_closed : List Call
second_closed = answers (Ok 72) ∷ by_box ds301 (sent 2) (Ok box.Booked) ∷ hosts ∷ by_head house (sent 3) (Ok head.Closed) ∷ []

-- the oldest is taken
abbrev pub one_taken : List Call
one_taken = takes 7 (Ok (entry ErrorActive 0x8161)) ∷ []

pub record LossAndRepeat : Type 0 where
  pub w : World
  pub run : Run 7 w
  pub made : calls w.log ≡ at_start ++ (five_raised ++ (answered_twice ++ (read_twice ++ (first_closed ++ (second_closed ++ one_taken)))))
  -- the ASnd of service 20h: under both tables it is the same frame
  pub asnd : List ℕ
  pub held : slice_get w.log 14 ≡ Some (box_read house foreign asnd (Err refusal.NotStatusResponse))
  pub unheld : slice_get w.log 13 ≡ Some (box_read ds301 foreign asnd (Err (refusal.Frame (InvalidServiceId 0x20))))
  -- answer 1: when the box books it, status entries stand before its first and behind its second entry; in its repeat another one behind the last
  pub answer : List ℕ
  pub is_sent : slice_get (answers_sent 7 w.log) 1 ≡ Some answer
  pub with_two : slice_get w.log 12 ≡ Some (box_read house (sent 1) (two_put_in answer) (Ok box.Booked))
  pub with_other : slice_get w.log 11 ≡ Some (box_read ds301 (sent 1) (put_in 4 (entry_bytes (shown EventOccurred 0x8172)) answer) (Ok box.Known))
  pub entries : accepted 7 w.log ≡ five
  pub handed : handed_out 7 w.log ≡ take 1 five
  -- the others are booked, and nothing is left at the head
  pub place : account_of w.box 7 ≡ Some (record { ea = false; book = drop 1 five })
  pub rest : ruled 7 w.log ≡ record { id = 7; en = false; batch = []; waiting = [] }
  pub state : head_of w.head ≡ ruled 7 w.log
  pub booked : is_booked 7 w.log ≡ true
  -- further Takes hand out each once, in order
  pub drained : Drained 7 w.box (drop 1 five)

-- what the box reads in each exchange
abbrev pub answers_read : {i n : ℕ} {w v : World} → Exchanges i n w v → List (List ℕ)
answers_read (done l) = []
answers_read (more l x xs) = x.answer_read ∷ answers_read xs

-- the same entries are closed by two exchanges, with status entries in the first
pub record TwoExchanges : Type 0 where
  pub w : World
  pub v : World
  pub run : Run 7 w
  pub room : Room 7 w
  pub waiting : pending 7 w ≡ five
  pub exchanges : Exchanges 7 2 w v
  pub answer : List ℕ
  pub is_sent : slice_get (answers_sent 7 v.log) 0 ≡ Some answer
  pub given : take 1 (answers_read exchanges) ≡ two_put_in answer ∷ []
  pub closed : pending 7 v ≡ []

-- Why a frame of the box's host may not give any EA: the first answer is lost, the box has EA 0 and an empty book, and a frame from 240 with
-- EA 1 closes the batch. Its four entries are then neither booked nor open nor waiting.
pub record FreeEaLoses : Type 0 where
  pub w : World
  pub run : Run 7 w
  pub entries : accepted 7 w.log ≡ five
  pub place : account_of w.box 7 ≡ Some (record { ea = false; book = [] })
  pub frame : List ℕ
  pub gives : (services : List ℕ) → ea_told services 7 frame ≡ Ok (Some true)
  pub after : List ℕ
  pub reads : (services : List ℕ) → reporter.Reads services frame (Ok head.Closed) w.head after
  pub left : head_of after ≡ record { id = 7; en = true; batch = []; waiting = entry ErrorCleared 0x8165 ∷ [] }

-- calls that go on from a world
pub data Onward (i : ℕ) (v : World) : World → Type 0 where
  here : Onward i v v
  further : {w u : World} {x : Event} → Onward i v w → Step i w x u → Onward i v u

-- Why a frame of the box's host is to give EA as the box has it when the frame is sent, and not when it was built: at v it is built with the
-- box's EA, 0. From there to w the first batch is booked, EA becomes 1, and a request closes the batch; the head opens the second, EN is 0,
-- and that answer is lost. The old frame, sent at w, closes the second batch. The fifth entry is then neither booked nor open nor waiting.
pub record BuiltAheadLoses : Type 0 where
  pub v : World
  pub before : Run 7 v
  pub frame : List ℕ
  pub gives : (services : List ℕ) → ea_told services 7 frame ≡ Ok (Some false)
  pub built : Tells 7 v.box frame
  pub w : World
  pub onward : Onward 7 v w
  pub run : Run 7 w
  pub entries : accepted 7 w.log ≡ five
  pub place : account_of w.box 7 ≡ Some (record { ea = true; book = take 4 five })
  pub holds : head_of w.head ≡ record { id = 7; en = false; batch = entry ErrorCleared 0x8165 ∷ []; waiting = [] }
  pub late : Tells 7 w.box frame → ⊥
  pub after : List ℕ
  pub reads : (services : List ℕ) → reporter.Reads services frame (Ok head.Closed) w.head after
  pub left : head_of after ≡ record { id = 7; en = false; batch = []; waiting = [] }

-- a StatusResponse of node 7 with EN 0 and no entries, as the writers of frames and of StatusResponses make it: no head is asked
abbrev pub made_status : AnswerFields → List ℕ
made_status f =
    frame_bytes (answer_asnd f 7).eth_header (ASnd (answer_asnd f 7).frame)
    (status_bytes (head_bytes (status_fields f false) f.static_error_bit_field) [])

-- Why a StatusResponse under the head's ID comes from its Answer alone: at v the first batch is booked and closed, and EA is 1. The box reads
-- such a frame, made without the head: nothing is booked, and EA becomes 0. The head opens the second batch, EN is 0; its answer is known,
-- and the next request, with EA 0, closes the batch. The fifth entry is then neither booked nor open nor waiting.
pub record MadeStatusLoses : Type 0 where
  pub v : World
  pub run : Run 7 v
  pub before : account_of v.box 7 ≡ Some (record { ea = true; book = take 4 five })
  pub fields : AnswerFields
  -- no step of a list: the head has not sent it, and its source is no other
  pub strange : (services : List ℕ) (o : Origin) → Reaches services 7 o (made_status fields) (tally 7 v.log).answers → ⊥
  pub after : List ℕ
  pub reads : (services : List ℕ) → collector.Reads services (made_status fields) (Ok box.Booked) v.box after
  -- the calls behind it are steps of a list
  pub w : World
  pub onward : Onward 7 (record { head = v.head; box = after; log = v.log }) w
  pub entries : accepted 7 w.log ≡ five
  pub made : calls w.log
      ≡ calls v.log
      ++ (answers (Ok 72) ∷ by_box house (sent 2) (Ok box.Known) ∷ requests 7 (Ok 60) ∷ by_head ds301 (sent 3) (Ok head.Closed) ∷ [])
  pub place : account_of w.box 7 ≡ Some (record { ea = false; book = take 4 five })
  pub left : head_of w.head ≡ record { id = 7; en = false; batch = []; waiting = [] }
