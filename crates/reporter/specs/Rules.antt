-- The rules of 01, "The error exchange", for the head: a controlled node that reports errors (EPSG DS 301, 6.5).
-- Assumes nothing.
use Rattle.std.specs.Prelude.{ℕ, zero, suc, ◌+◌, ◌*◌, ◌-◌, Bool, true, false, not, ◌&&◌, List, [], ◌∷◌, ◌++◌, length, take, drop, replicate, ltb, eqb, Result, Ok, Err, Option, Some, None}
use Rattle.std.specs.Bool.{beq}
use Rattle.types.specs.CauseNumbers as cause
use Rattle.types.specs.Causes.{Cause, row, cause_of}
use Rattle.types.specs.Codes.{pick, need}
use Rattle.types.specs.Header.{eth_bytes}
use Rattle.types.specs.Nodes.{is_cn_node_id, managing_node, broadcast_node}
use Rattle.services.specs.Ids.{status_response}
use Rattle.section.specs.Write.{min_frame, Coded}
use Rattle.control.specs.ASnd.{new_asnd, asnd_bytes, asnd_payload_at}
use Rattle.types.specs.declared.basic.NewFrame.{NewFrame}
use Rattle.control.specs.declared.asnd.ASndFrame.{ASndFrame}
use Rattle.frame.specs.Write.{frame_bytes, under_table}
use Rattle.frame.specs.declared.PowerlinkFrame.{PowerlinkFrame}
use Rattle.frame.specs.declared.PowerlinkFrame.TheVariants.{Soc, PReq, PRes, SoA, ASnd}
use Rattle.codec.specs.Frame.{read_frame}
use Rattle.error_entry.specs.declared.ErrorEntry.{ErrorEntry}
use Rattle.status_response.specs.Fields.{head_bytes}
use Rattle.status_response.specs.Steps.{unless_terminator, status_bytes}
use Rattle.status_response.specs.declared.fields.StatusFields.{StatusFields}
use Rattle.reporter.specs.declared.AnswerFields.{AnswerFields}
use Rattle.reporter.specs.declared.NewError.TheVariants.{IdOutOfRange}
use Rattle.reporter.specs.declared.RaiseError.TheVariants.{EntryInvalid, StatusEntry, QueueFull}
use Rattle.reporter.specs.declared.ReadOutcome.TheVariants.{Closed, Kept, Ignored}
use Rattle.types.specs.declared.hal.PowerlinkError.{PowerlinkError}
use Rattle.reporter.specs.declared.RaiseError.{RaiseError}
use Rattle.reporter.specs.declared.NewError.{NewError}
use Rattle.reporter.specs.declared.ReadOutcome.{ReadOutcome}

-- "at most one open batch (1 to 4 entries)"
abbrev pub batch_length : ℕ
batch_length = 4

-- "up to 16 waiting entries"
abbrev pub queue_length : ℕ
queue_length = 16

-- "A head has a node ID, a bit EN, at most one open batch (1 to 4 entries) and up to 16 waiting entries": no entries, no open batch
pub record Head : Type 0 where
  pub id : ℕ
  pub en : Bool
  pub batch : List ErrorEntry
  pub waiting : List ErrorEntry

-- "Fresh: bits 0, all empty"
abbrev pub fresh_head : ℕ → Head
fresh_head i = record { id = i; en = false; batch = []; waiting = [] }

abbrev pub with_batch : List ErrorEntry → Head → Head
with_batch b h = record { id = h.id; en = h.en; batch = b; waiting = h.waiting }

abbrev pub with_waiting : List ErrorEntry → Head → Head
with_waiting w h = record { id = h.id; en = h.en; batch = h.batch; waiting = w }

abbrev pub with_en : Bool → Head → Head
with_en b h = record { id = h.id; en = b; batch = h.batch; waiting = h.waiting }

-- ---- a new head

-- cause 13: the ID of a new head is not 1 to 239
abbrev pub new_answer : ℕ → Result Unit NewError
new_answer i = need (is_cn_node_id i) (Err IdOutOfRange) (Ok tt)

-- 01's number for each case: 0 where nothing is refused
abbrev pub new_cause : Result Unit NewError → Cause
new_cause (Ok _) = row 0 []
new_cause (Err IdOutOfRange) = row cause.id_out_of_range []

-- ---- Raise

-- cause 8 says what may not be raised: "entry of mode 0, or profile above 4,095"
unfoldable pub is_raisable : ErrorEntry → Bool
is_raisable e = unless_terminator e.entry_type.mode (ltb e.entry_type.profile 4096) false

-- 8, then 23 (02, CR 2), then 9: "16 already waiting"
abbrev pub raise_by : Bool → Bool → Bool → Result Unit RaiseError
raise_by raisable status room = need raisable (Err EntryInvalid) (pick status (Err StatusEntry) (need room (Err QueueFull) (Ok tt)))

unfoldable pub raise_answer : ErrorEntry → Head → Result Unit RaiseError
raise_answer e h = raise_by (is_raisable e) e.entry_type.is_status_entry (ltb (length h.waiting) queue_length)

abbrev pub raise_cause : Result Unit RaiseError → Cause
raise_cause (Ok _) = row 0 []
raise_cause (Err EntryInvalid) = row cause.entry_invalid []
raise_cause (Err StatusEntry) = row cause.is_status_entry []
raise_cause (Err QueueFull) = row cause.queue_full []

abbrev pub when_raised : {A : Type 0} → Result Unit RaiseError → A → A → A
when_raised (Ok _) a b = a
when_raised (Err e) a b = b

-- "the entry joins the waiting ones, last"
abbrev pub after_raise : Result Unit RaiseError → ErrorEntry → Head → Head
after_raise r e h = when_raised r (with_waiting (h.waiting ++ (e ∷ [])) h) h

-- ---- Answer

abbrev pub is_empty : List ErrorEntry → Bool
is_empty [] = true
is_empty (e ∷ es) = false

-- "with no batch open and entries waiting"
abbrev pub opens : Head → Bool
opens h = is_empty h.batch && not (is_empty h.waiting)

-- "the first 4 (or all, if fewer) become the open batch and EN flips"
abbrev pub with_new_batch : Head → Head
with_new_batch h = with_en (not h.en) (with_batch (take batch_length h.waiting) (with_waiting (drop batch_length h.waiting) h))

unfoldable pub opened : Head → Head
opened h = pick (opens h) (with_new_batch h) h

-- the caller's fields, with EN
abbrev pub status_fields : AnswerFields → Bool → StatusFields
status_fields f en =
    record { en_flag = en; ec_flag = f.ec_flag; pr = f.pr; rs = f.rs; nmt_state = f.nmt_state }

-- "EN, its batch and the caller's other fields"
unfoldable pub answer_payload : AnswerFields → Head → List ℕ
answer_payload f h = status_bytes (head_bytes (status_fields f h.en) f.static_error_bit_field) h.batch

abbrev pub answer_asnd : AnswerFields → ℕ → NewFrame ASndFrame
answer_asnd f i = new_asnd f.source_mac f.dest_mac (record { 0 = broadcast_node }) (record { 0 = i }) (record { 0 = status_response })

-- "an Ethernet frame from its ID to node 255, service 2"
unfoldable pub answer_frame : AnswerFields → Head → List ℕ
answer_frame f h = frame_bytes (answer_asnd f h.id).eth_header (ASnd (answer_asnd f h.id).frame) (answer_payload f h)

-- "Every reader and writer of ASnd now takes the table" (02, CR 1); AnyTable.antt has that no table refuses it
abbrev pub answer_writing : List ℕ → AnswerFields → Head → Coded
answer_writing services f h = under_table services (ASnd (answer_asnd f h.id).frame) (answer_frame f h)

-- its two parts: what stands in front of the payload, and the payload with the zeros up to the smallest frame

abbrev pub answer_front : AnswerFields → ℕ → List ℕ
answer_front f i = eth_bytes (answer_asnd f i).eth_header ++ asnd_bytes (answer_asnd f i).frame

-- the payload that fills the smallest frame
abbrev pub payload_min : ℕ
payload_min = min_frame - asnd_payload_at

abbrev pub filled_payload : AnswerFields → Head → List ℕ
filled_payload f h = answer_payload f h ++ replicate (payload_min - length (answer_payload f h)) 0

-- "60 bytes without entries, else 52 + 20 per entry"
abbrev pub answer_length : ℕ → ℕ
answer_length zero = 60
answer_length (suc n) = 52 + 20 * suc n

abbrev pub when_written : {A : Type 0} → Result ℕ PowerlinkError → A → A → A
when_written (Ok n) a b = a
when_written (Err e) a b = b

-- "A refused answer changes nothing"
abbrev pub after_answer : Result ℕ PowerlinkError → Head → Head
after_answer r h = when_written r (opened h) h

-- ---- reading a frame

-- EA, where the source is 240 and the frame is for node i
unfoldable pub ea_for : ℕ → ℕ → ℕ → Bool → Option Bool
ea_for i source target ea = need (eqb source managing_node) None (need (eqb target i) None (Some ea))

-- "a PReq to its ID or an SoA with it as target gives EA"
abbrev pub ea_in_frame : ℕ → PowerlinkFrame → Option Bool
ea_in_frame i (Soc f) = None
ea_in_frame i (PReq f) = ea_for i f.source.0 f.destination.0 f.flags.ea
ea_in_frame i (PRes f) = None
ea_in_frame i (SoA f) = ea_for i f.source.0 f.target_node_id.0 f.flags.ea
ea_in_frame i (ASnd f) = None

abbrev pub ea_in_answer : ℕ → Result PowerlinkFrame PowerlinkError → Result (Option Bool) PowerlinkError
ea_in_answer i (Err e) = Err e
ea_in_answer i (Ok f) = Ok (ea_in_frame i f)

-- what node i wants in the octets of a frame: the EA (exception acknowledge) that the managing node tells it, nothing, or why they
-- cannot be read, under a table
abbrev pub ea_told : List ℕ → ℕ → List ℕ → Result (Option Bool) PowerlinkError
ea_told services i f = ea_in_answer i (read_frame services f)

-- "If a batch is open and EA equals EN, it closes"
unfoldable pub ea_answer : Bool → Head → ReadOutcome
ea_answer ea h = pick (not (is_empty h.batch) && beq h.en ea) Closed Kept

-- "Other readable frames are ignored"; frames that cannot be read give their cause
abbrev pub acknowledge_answer : Result (Option Bool) PowerlinkError → Head → Result ReadOutcome PowerlinkError
acknowledge_answer (Err e) h = Err e
acknowledge_answer (Ok None) h = Ok Ignored
acknowledge_answer (Ok (Some ea)) h = Ok (ea_answer ea h)

-- 01's number for each case; behind 0 what C tells: 0 ignored, 1 kept, 2 closed
abbrev pub read_cause : Result ReadOutcome PowerlinkError → Cause
read_cause (Ok Closed) = row 0 (2 ∷ [])
read_cause (Ok Kept) = row 0 (1 ∷ [])
read_cause (Ok Ignored) = row 0 (0 ∷ [])
read_cause (Err e) = cause_of e

abbrev pub when_closed : {A : Type 0} → Result ReadOutcome PowerlinkError → A → A → A
when_closed (Ok Closed) a b = a
when_closed (Ok Kept) a b = b
when_closed (Ok Ignored) a b = b
when_closed (Err e) a b = b

abbrev pub after_acknowledge : Result ReadOutcome PowerlinkError → Head → Head
after_acknowledge r h = when_closed r (with_batch [] h) h
