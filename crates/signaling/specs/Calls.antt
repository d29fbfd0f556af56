-- Demand 3: no error lost, none twice. What 01 says of a list of calls as a whole, from a fresh box, a fresh head and a line with
-- nothing sent. Each call is any that its contract allows, so this holds of the code. 01's box is the collector, its head the reporter.
-- Beside the calls stand the frames that the box's host sends by itself, and an answer may reach the box with status entries put in (02,
-- CR 2: `Reaches`); 01's own lists are those without either. A frame of the host that gives the head an EA gives the box's when it is sent
-- (`Tells`), as `collector::flags` tells it (`FlagsTell`); Example.antt has lists that lose entries by a frame that does not. Each Answer and
-- each reading has a table of services of its own (02, CR 1: "An error exchange under any loaded table books as before"): any octets, more
-- than the 256 that a call can be lent, and others from call to call.
-- Assumes nothing.
use Rattle.std.specs.Prelude.{ℕ, suc, ◌≤◌, Bool, true, false, ◌||◌, ◌≡◌, List, [], ◌∷◌, ◌++◌, length, take, leb, eqb, Result, Ok, Err, IsErr, Some, None, Option, slice_get}
use Rattle.types.specs.Codes.{pick}
use Rattle.types.specs.Nodes.{managing_node}
pub use Rattle.types.specs.Nodes.{node}
use Rattle.types.specs.declared.hal.PowerlinkError.{PowerlinkError}
use Rattle.control.specs.declared.soa.SoAFlags.{SoAFlags}
use Rattle.frame.specs.declared.PowerlinkFrame.{PowerlinkFrame}
use Rattle.frame.specs.declared.PowerlinkFrame.TheVariants.{Soc, PReq, PRes, SoA, ASnd}
use Rattle.codec.specs.Frame.{read_frame}
use Rattle.error_entry.specs.declared.ErrorEntry.{ErrorEntry}
use Rattle.reporter.specs.Calls as reporter
use Rattle.reporter.specs.Layout.{head_of}
use Rattle.reporter.specs.Rules.{when_written, when_raised, Head, fresh_head, raise_answer, after_raise, opens, after_answer, acknowledge_answer, after_acknowledge, ea_told}
use Rattle.reporter.specs.declared.AnswerFields.{AnswerFields}
use Rattle.reporter.specs.declared.RaiseError.{RaiseError}
use Rattle.reporter.specs.declared.ReadOutcome.{ReadOutcome}
use Rattle.collector.specs.Calls as collector
use Rattle.collector.specs.Layout.{account_of}
use Rattle.collector.specs.Rules.{when_booked, Account}
use Rattle.collector.specs.declared.ReadError.{ReadError}
use Rattle.collector.specs.declared.ReadOutcome.{ReadOutcome as BoxOutcome}
use Rattle.collector.specs.declared.RegisterError.{RegisterError}
use Rattle.collector.specs.declared.RequestError.{RequestError}
use Rattle.collector.specs.declared.RequestFields.{RequestFields}
use Rattle.collector.specs.declared.TakeError.{TakeError}
use Rattle.signaling.specs.Arrival.{Arrives}

-- ---- the log of calls, their answers, and the octets that were given or written

-- a frame that is read: the one sent at this place, counted from 0, by the other of the two, or octets from elsewhere
-- (no Option: in a list of calls `sent 2` and `foreign` say more than `Some 2` and `None`)
pub data Origin : Type 0 where
  sent : ℕ → Origin
  foreign : Origin

pub data Event : Type 0 where
  raised : ErrorEntry → Result Unit RaiseError → Event
  answered : Result ℕ PowerlinkError → List ℕ → Event
  head_read : (services : List ℕ) → Origin → List ℕ → Result ReadOutcome PowerlinkError → Event
  registered : ℕ → Result Unit RegisterError → Event
  box_read : (services : List ℕ) → Origin → List ℕ → Result BoxOutcome ReadError → Event
  requested : ℕ → Result ℕ RequestError → List ℕ → Event
  taken : ℕ → Result ErrorEntry TakeError → Event
  hosted : List ℕ → Event

-- the newest first
abbrev pub Log : Type 0
Log = List Event

-- ---- what a list of calls adds up to, in the words of 01

pub record Entries : Type 0 where
  -- "the entries of the Raises not refused, as given and in order"
  pub accepted : List ErrorEntry
  -- "what the Takes for the head's ID handed out, in order"
  pub handed_out : List ErrorEntry

-- one direction of the line
pub record Line : Type 0 where
  -- "An Answer or request not refused sends a copy of the bytes it wrote, as many as the returned length"; the frames of the box's host go
  -- the same way as its requests
  pub frames : List (List ℕ)
  -- the place of the last of them that the other end was given: "in the order of sending; any may be skipped, late or repeated"
  pub at : ℕ

pub record Ruled : Type 0 where
  -- "Open batch and waiting entries: what the rules above make of the list"
  pub head : Head
  -- the place among the answers of the first one sent since the last batch opened
  pub opened_at : ℕ
  -- whether that batch is booked: "the box's reading of an answer sent since it first opened ends neither refused nor known"; true
  -- where none ever opened
  pub is_booked : Bool

pub record Tally : Type 0 where
  pub entries : Entries
  -- from the head to the box
  pub answers : Line
  -- from the box and its host to the head
  pub requests : Line
  pub ruled : Ruled

-- "The list starts from a fresh box, a fresh head and a line with nothing sent"
abbrev pub nothing_yet : ℕ → Tally
nothing_yet i =
    record {
      entries = record { accepted = []; handed_out = [] };
      answers = record { frames = []; at = 0 };
      requests = record { frames = []; at = 0 };
      ruled = record { head = fresh_head i; opened_at = 0; is_booked = true };
    }

-- a change of one of the four

abbrev pub on_entries : (Entries → Entries) → Tally → Tally
on_entries f t = record { entries = f t.entries; answers = t.answers; requests = t.requests; ruled = t.ruled }

abbrev pub on_answers : (Line → Line) → Tally → Tally
on_answers f t = record { entries = t.entries; answers = f t.answers; requests = t.requests; ruled = t.ruled }

abbrev pub on_requests : (Line → Line) → Tally → Tally
on_requests f t = record { entries = t.entries; answers = t.answers; requests = f t.requests; ruled = t.ruled }

abbrev pub on_ruled : (Ruled → Ruled) → Tally → Tally
on_ruled f t = record { entries = t.entries; answers = t.answers; requests = t.requests; ruled = f t.ruled }

-- the entries: "of the Raises not refused"; "what the Takes for the head's ID handed out"

abbrev pub accepts : Result Unit RaiseError → ErrorEntry → Entries → Entries
accepts r e es = record { accepted = when_raised r (es.accepted ++ (e ∷ [])) es.accepted; handed_out = es.handed_out }

abbrev pub if_taken : Result ErrorEntry TakeError → List ErrorEntry → List ErrorEntry
if_taken (Ok e) es = es ++ (e ∷ [])
if_taken (Err x) es = es

abbrev pub hands : Bool → Result ErrorEntry TakeError → Entries → Entries
hands mine r es = record { accepted = es.accepted; handed_out = pick mine (if_taken r es.handed_out) es.handed_out }

-- the line: "not refused sends a copy of the bytes it wrote, as many as the returned length"; and a frame is given to the other end

abbrev pub if_written : {E : Type 0} → Result ℕ E → List ℕ → List (List ℕ) → List (List ℕ)
if_written (Ok n) bs fs = fs ++ (take n bs ∷ [])
if_written (Err e) bs fs = fs

abbrev pub sends : (List (List ℕ) → List (List ℕ)) → Line → Line
sends f l = record { frames = f l.frames; at = l.at }

abbrev pub given_at : Origin → ℕ → ℕ
given_at (sent p) before = p
given_at foreign before = before

abbrev pub gives : Origin → Line → Line
gives o l = record { frames = l.frames; at = given_at o l.at }

-- the head: "what the rules above make of the list"; a batch opens with an answer that is sent

abbrev pub becomes : (Head → Head) → Ruled → Ruled
becomes f s = record { head = f s.head; opened_at = s.opened_at; is_booked = s.is_booked }

abbrev pub raises : ErrorEntry → Head → Head
raises e h = after_raise (raise_answer e h) e h

abbrev pub hears : List ℕ → ℕ → List ℕ → Head → Head
hears services i bs h = after_acknowledge (acknowledge_answer (ea_told services i bs) h) h

abbrev pub answers : Result ℕ PowerlinkError → ℕ → Ruled → Ruled
answers r next s =
    let new = when_written r (opens s.head) false in
    record { head = after_answer r s.head; opened_at = pick new next s.opened_at; is_booked = pick new false s.is_booked }

-- "the box's reading of an answer sent since it first opened ends neither refused nor known"
abbrev pub books_since : Origin → Result BoxOutcome ReadError → ℕ → Bool
books_since foreign r at = false
books_since (sent p) r at = when_booked r (leb at p) false

abbrev pub books : Origin → Result BoxOutcome ReadError → Ruled → Ruled
books o r s = record { head = s.head; opened_at = s.opened_at; is_booked = books_since o r s.opened_at || s.is_booked }

-- THE TABLE: what each call adds, for the head with ID i. A call that is not named in a part changes nothing there; a new call is one row.
abbrev pub adds : ℕ → Event → Tally → Tally
adds i (raised e r) t = on_entries (accepts r e) (on_ruled (becomes (raises e)) t)
adds i (answered r bs) t = on_answers (sends (if_written r bs)) (on_ruled (answers r (length t.answers.frames)) t)
adds i (head_read services o bs r) t = on_requests (gives o) (on_ruled (becomes (hears services i bs)) t)
adds i (registered j r) t = t
adds i (box_read services o bs r) t = on_answers (gives o) (on_ruled (books o r) t)
adds i (requested j r bs) t = on_requests (sends (if_written r bs)) t
adds i (taken j r) t = on_entries (hands (eqb j i) r) t
adds i (hosted bs) t = on_requests (sends (λ fs. fs ++ (bs ∷ []))) t

abbrev pub tally : ℕ → Log → Tally
tally i [] = nothing_yet i
tally i (x ∷ l) = adds i x (tally i l)

-- and the words by themselves

abbrev pub accepted : ℕ → Log → List ErrorEntry
accepted i l = (tally i l).entries.accepted

abbrev pub handed_out : ℕ → Log → List ErrorEntry
handed_out i l = (tally i l).entries.handed_out

abbrev pub answers_sent : ℕ → Log → List (List ℕ)
answers_sent i l = (tally i l).answers.frames

abbrev pub requests_sent : ℕ → Log → List (List ℕ)
requests_sent i l = (tally i l).requests.frames

abbrev pub ruled : ℕ → Log → Head
ruled i l = (tally i l).ruled.head

abbrev pub is_booked : ℕ → Log → Bool
is_booked i l = (tally i l).ruled.is_booked

-- the open batch, if it is unbooked
abbrev pub unbooked : ℕ → Log → List ErrorEntry
unbooked i l = pick (is_booked i l) [] (ruled i l).batch

-- ---- the list of calls

-- the octets of both states, and the log
pub record World : Type 0 where
  pub head : List ℕ
  pub box : List ℕ
  pub log : Log

-- "any bytes that `deserialize_frame` refuses or reads with a source other than" i, under the table of the reading
abbrev pub source_of : PowerlinkFrame → ℕ
source_of (Soc f) = f.source.0
source_of (PReq f) = f.source.0
source_of (PRes f) = f.source.0
source_of (SoA f) = f.source.0
source_of (ASnd f) = f.source.0

abbrev pub NotFrom : ℕ → Result PowerlinkFrame PowerlinkError → Type 0
NotFrom i (Err e) = Unit {0}
NotFrom i (Ok f) = source_of f ≡ i → ⊥

-- what 01's line does to a frame: it neither alters nor reorders, so what is given is what was sent, at or behind the last place given
abbrev pub Delivered : List ℕ → ℕ → Origin → List ℕ → Line → Type 0
Delivered services i (sent p) bs l = (l.at ≤ p) × (slice_get l.frames p ≡ Some bs)
Delivered services i foreign bs l = NotFrom i (read_frame services bs)

-- What reaches the box is what the line delivers, an answer with status entries put in (02, CR 2), at each repeat with others; none of them is
-- 01's own line (`AsSent`).
abbrev pub Reaches : List ℕ → ℕ → Origin → List ℕ → Line → Type 0
Reaches services i (sent p) bs l = (a : List ℕ) × Delivered services i (sent p) a l × Arrives a bs
Reaches services i foreign bs l = Delivered services i foreign bs l

-- EA as the box has it for a head; 0 before the head is registered
abbrev pub ea_of : Option Account → Bool
ea_of None = false
ea_of (Some p) = p.ea

-- What the box's host may send under 240 on the line of the requests: any octets, as long as those that give head i an EA, under whichever
-- table, give the box's
abbrev pub Tells : ℕ → List ℕ → List ℕ → Type 0
Tells i s bs = (services : List ℕ) (ea : Bool) → ea_told services i bs ≡ Ok (Some ea) → ea ≡ ea_of (account_of s i)

-- One call between the head with ID i and the box, with its event: "the head's Raise, Answer and reading, and the box's registering,
-- reading, request and Take, these for any ID"; or a frame that the box's host sends. What a call leaves is what its contract says; the other state stays.
pub data Step (i : ℕ) (w : World) : Event → World → Type 0 where
  raise : (e : ErrorEntry) (r : Result Unit RaiseError) (after : List ℕ) → reporter.Raises e r w.head after
      → Step i w (raised e r) (record { head = after; box = w.box; log = raised e r ∷ w.log })
  answer : (services : List ℕ) (f : AnswerFields) (r : Result ℕ PowerlinkError) (after target written : List ℕ)
      → reporter.Answers services f r w.head after target written
      → Step i w (answered r written) (record { head = after; box = w.box; log = answered r written ∷ w.log })
  head_reads : (services : List ℕ) (o : Origin) (bs : List ℕ) (r : Result ReadOutcome PowerlinkError) (after : List ℕ)
      → Delivered services managing_node o bs (tally i w.log).requests
      → reporter.Reads services bs r w.head after
      → Step i w (head_read services o bs r) (record { head = after; box = w.box; log = head_read services o bs r ∷ w.log })
  register : (j : ℕ) (r : Result Unit RegisterError) (after : List ℕ) → collector.Registers (node j) r w.box after
      → Step i w (registered j r) (record { head = w.head; box = after; log = registered j r ∷ w.log })
  box_reads : (services : List ℕ) (o : Origin) (bs : List ℕ) (r : Result BoxOutcome ReadError) (after : List ℕ)
      → Reaches services i o bs (tally i w.log).answers
      → collector.Reads services bs r w.box after
      → Step i w (box_read services o bs r) (record { head = w.head; box = after; log = box_read services o bs r ∷ w.log })
  request : (j : ℕ) (f : RequestFields) (r : Result ℕ RequestError) (target written : List ℕ)
      → collector.Requests (node j) f r w.box target written
      → Step i w (requested j r written) (record { head = w.head; box = w.box; log = requested j r written ∷ w.log })
  takes : (j : ℕ) (r : Result ErrorEntry TakeError) (after : List ℕ) → collector.Takes (node j) r w.box after
      → Step i w (taken j r) (record { head = w.head; box = after; log = taken j r ∷ w.log })
  hosts : (bs : List ℕ) → Tells i w.box bs
      → Step i w (hosted bs) (record { head = w.head; box = w.box; log = hosted bs ∷ w.log })

-- "The list starts from a fresh box, a fresh head and a line with nothing sent"
pub data Run (i : ℕ) : World → Type 0 where
  fresh : (before head box : List ℕ) → reporter.Makes (node i) (Ok tt) before head → collector.Fresh box
      → Run i (record { head = head; box = box; log = [] })
  call : {w v : World} {x : Event} → Run i w → Step i w x v → Run i v

-- ---- what holds after it

-- "what further Takes for it hand out until one is refused"
pub data Drained (i : ℕ) : List ℕ → List ErrorEntry → Type 0 where
  over : {s : List ℕ} (r : Result ErrorEntry TakeError) (after : List ℕ) → collector.Takes (node i) r s after → IsErr r → Drained i s []
  more : {s : List ℕ} (e : ErrorEntry) (after : List ℕ) (es : List ErrorEntry) → collector.Takes (node i) (Ok e) s after
      → Drained i after es → Drained i s (e ∷ es)

-- so many Takes for a head, one after the other, none refused
pub data TakenTimes (i : ℕ) : ℕ → List ℕ → Type 0 where
  start : {s : List ℕ} → TakenTimes i 0 s
  next : {n : ℕ} {s : List ℕ} (e : ErrorEntry) (after : List ℕ) → collector.Takes (node i) (Ok e) s after → TakenTimes i n after
      → TakenTimes i (suc n) s

-- "what the Takes for the head's ID handed out, in order, then what further Takes for it hand out until one is refused"
abbrev pub booked : ℕ → Log → List ErrorEntry → List ErrorEntry
booked i l further = handed_out i l ++ further

pub record NoneLost (i : ℕ) (w : World) : Type 0 where
  -- "the entries booked for the head, taken ones included, are the opening stretch of those it accepted, each once, in order" (00)
  pub opening : (further : List ErrorEntry) → Drained i w.box further
      → (rest : List ErrorEntry) × (booked i w.log further ++ rest ≡ accepted i w.log)
  -- "Followed by its open batch, if unbooked, and then by its waiting entries, they are exactly the accepted ones" (00)
  pub all : (further : List ErrorEntry) → Drained i w.box further
      → booked i w.log further ++ (unbooked i w.log ++ (ruled i w.log).waiting) ≡ accepted i w.log
  -- "the head holds the same after it"
  pub head : head_of w.head ≡ ruled i w.log
  -- Takes end in a refusal, 11 or 16: there is such a chain of further Takes
  pub ends : (further : List ErrorEntry) × Drained i w.box further
  -- and no more than 64 in a row are not refused
  pub most : (n : ℕ) → TakenTimes i n w.box → n ≤ 64

pub record Demand3 : Type 0 where
  pub holds : (i : ℕ) (w : World) → Run i w → NoneLost i w

-- ---- the frames of the box's host

pub record FlagsTell : Type 0 where
  -- a frame that carries what `flags` told is one that the host may send
  pub tells : (services : List ℕ) (i : ℕ) (s bs : List ℕ) (f : SoAFlags) → collector.Flags (node i) (Some f) s
      → ea_told services i bs ≡ Ok (Some f.ea)
      → Tells i s bs
  -- and where it refuses with 11, one that carries EA 0
  pub unregistered : (services : List ℕ) (i : ℕ) (s bs : List ℕ) → collector.Flags (node i) None s
      → ea_told services i bs ≡ Ok (Some false)
      → Tells i s bs
  -- and so is one that gives the head no EA, under one table and so under all
  pub silent : (services : List ℕ) (i : ℕ) (s bs : List ℕ) → ((ea : Bool) → ea_told services i bs ≡ Ok (Some ea) → ⊥) → Tells i s bs
