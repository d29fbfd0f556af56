-- The rules of 01, "The error exchange", for the box: the managing node that collects errors (EPSG DS 301, 6.5).
-- Assumes nothing.
use Rattle.std.specs.Prelude.{ℕ, ◌+◌, ◌-◌, Bool, true, false, ◌≡◌, List, [], ◌∷◌, ◌++◌, length, drop, leb, ltb, eqb, Result, Ok, Err, Some, None, Option}
use Rattle.std.specs.Bool.{beq}
use Rattle.types.specs.CauseNumbers as cause
use Rattle.types.specs.Causes.{Cause, row, cause_of}
use Rattle.types.specs.Codes.{pick, need}
use Rattle.types.specs.Nodes.{is_cn_node_id}
use Rattle.types.specs.declared.NodeId.{NodeId}
use Rattle.types.specs.declared.requested_service.RequestedServiceId.TheVariants.{StatusRequest}
use Rattle.services.specs.Ids.{status_response}
use Rattle.services.specs.declared.ServiceId.{ServiceId}
use Rattle.section.specs.Write.{write_answer, overwritten}
use Rattle.control.specs.ASnd.{asnd_payload_at}
use Rattle.control.specs.SoA.{new_soa}
use Rattle.types.specs.declared.basic.NewFrame.{NewFrame}
use Rattle.control.specs.declared.soa.SoAFrame.{SoAFrame}
use Rattle.frame.specs.Write.{frame_bytes}
use Rattle.frame.specs.declared.PowerlinkFrame.{PowerlinkFrame}
use Rattle.frame.specs.declared.PowerlinkFrame.TheVariants.{Soc, PReq, PRes, SoA, ASnd}
use Rattle.codec.specs.Frame.{read_frame}
use Rattle.error_entry.specs.Values.{as_number, entry_numbers}
use Rattle.error_entry.specs.declared.ErrorEntry.{ErrorEntry}
use Rattle.status_response.specs.Fields.{read_fields}
use Rattle.status_response.specs.Steps.{status_entries}
use Rattle.collector.specs.declared.ReadError.TheVariants.{Frame, NotStatusResponse, NotRegistered, BookFull}
use Rattle.collector.specs.declared.ReadOutcome.TheVariants.{Booked, Known}
use Rattle.collector.specs.declared.RegisterError.TheVariants.{IdOutOfRange, IdRegistered, Full}
use Rattle.collector.specs.declared.RequestError.TheVariants as requesting
use Rattle.collector.specs.declared.RequestFields.{RequestFields}
use Rattle.collector.specs.declared.TakeError.TheVariants as taking
use Rattle.types.specs.declared.hal.PowerlinkError.{PowerlinkError}
use Rattle.status_response.specs.declared.fields.StatusFields.{StatusFields}
use Rattle.collector.specs.declared.RegisterError.{RegisterError}
use Rattle.collector.specs.declared.RequestError.{RequestError}
use Rattle.collector.specs.declared.TakeError.{TakeError}
use Rattle.control.specs.declared.soa.SoAFlags.{SoAFlags}
use Rattle.collector.specs.declared.ReadOutcome.{ReadOutcome}
use Rattle.collector.specs.declared.ReadError.{ReadError}

-- "up to four registered heads"
abbrev pub heads : ℕ
heads = 4

-- "up to 64 entries"
abbrev pub book_length : ℕ
book_length = 64

-- what a registered head has: "a bit EA and a book of up to 64 entries", oldest first
pub record Account : Type 0 where
  pub ea : Bool
  pub book : List ErrorEntry

-- "for each of up to four registered heads": what each ID has, if it is registered, and how many more can be
pub record Box : Type 0 where
  pub accounts : ℕ → Option Account
  pub vacant : ℕ

-- "Fresh: bits 0, all empty"
abbrev pub fresh_box : Box
fresh_box = record { accounts = λ i. None; vacant = heads }

abbrev pub fresh_account : Account
fresh_account = record { ea = false; book = [] }

abbrev pub with_ea : Bool → Account → Account
with_ea b p = record { ea = b; book = p.book }

abbrev pub with_book : List ErrorEntry → Account → Account
with_book es p = record { ea = p.ea; book = es }

-- two boxes in which every ID has the same
pub record Same (a b : Box) : Type 0 where
  pub accounts : (i : ℕ) → a.accounts i ≡ b.accounts i
  pub vacant : a.vacant ≡ b.vacant

-- what node i has becomes p
abbrev pub with_account : ℕ → Account → Box → Box
with_account i p b = record { accounts = λ j. pick (eqb j i) (Some p) (b.accounts j); vacant = b.vacant }

-- ---- registering

abbrev pub is_registered : Option Account → Bool
is_registered None = false
is_registered (Some p) = true

-- 14, then 15: "four registered"
abbrev pub register_vacant : Option Account → ℕ → Result Unit RegisterError
register_vacant (Some p) vacant = Err IdRegistered
register_vacant None vacant = need (ltb 0 vacant) (Err Full) (Ok tt)

-- 13: "ID to register not 1 to 239"
unfoldable pub register_answer : ℕ → Box → Result Unit RegisterError
register_answer i b = need (is_cn_node_id i) (Err IdOutOfRange) (register_vacant (b.accounts i) b.vacant)

-- 01's number for each case: 0 where nothing is refused
abbrev pub register_cause : Result Unit RegisterError → Cause
register_cause (Ok _) = row 0 []
register_cause (Err IdOutOfRange) = row cause.id_out_of_range []
register_cause (Err IdRegistered) = row cause.id_registered []
register_cause (Err Full) = row cause.four_registered []

abbrev pub when_registered : {A : Type 0} → Result Unit RegisterError → A → A → A
when_registered (Ok _) a b = a
when_registered (Err e) a b = b

-- "gives a head a place": EA 0 and an empty book
abbrev pub after_register : Result Unit RegisterError → ℕ → Box → Box
after_register r i b =
    when_registered r (record { accounts = (with_account i fresh_account b).accounts; vacant = b.vacant - 1 }) b

-- ---- reading a frame

-- service 2, whatever the table
abbrev pub response_of_service : ServiceId → NodeId → Result (Option NodeId) PowerlinkError
response_of_service s source = pick (eqb s.0 status_response) (Ok (Some source)) (Ok None)

abbrev pub response_in_frame : PowerlinkFrame → Result (Option NodeId) PowerlinkError
response_in_frame (Soc f) = Ok None
response_in_frame (PReq f) = Ok None
response_in_frame (PRes f) = Ok None
response_in_frame (SoA f) = Ok None
response_in_frame (ASnd f) = response_of_service f.service_id f.source

abbrev pub response_in_answer : Result PowerlinkFrame PowerlinkError → Result (Option NodeId) PowerlinkError
response_in_answer (Err e) = Err e
response_in_answer (Ok f) = response_in_frame f

-- what the box wants in the octets of a frame: whose StatusResponse it is, that it is another frame, or why they cannot be read under a
-- table ..
abbrev pub response_in : List ℕ → List ℕ → Result (Option NodeId) PowerlinkError
response_in services f = response_in_answer (read_frame services f)

-- "the box reads it from section byte 4, untrimmed"
abbrev pub status_payload : List ℕ → List ℕ
status_payload f = drop asnd_payload_at f

-- "The box books only the entries of a batch with bit 15 clear, and only those count against free places" (02, CR 2)
abbrev pub bookable : List ErrorEntry → List ErrorEntry
bookable [] = []
bookable (e ∷ es) = pick e.entry_type.is_status_entry (bookable es) (e ∷ bookable es)

-- what is booked of a payload
unfoldable pub booked_entries : List ℕ → List ErrorEntry
booked_entries payload = bookable (status_entries payload)

-- what a StatusResponse says to the box: its fields, or why they cannot be read, and the entries to book
pub record Said : Type 0 where
  pub fields : Result StatusFields PowerlinkError
  pub entries : List ErrorEntry

abbrev pub said_in : List ℕ → Said
said_in payload = record { fields = read_fields payload; entries = booked_entries payload }

-- .. and what that StatusResponse says
abbrev pub status_in : List ℕ → Said
status_in f = said_in (status_payload f)

-- EN, where the fields can be read
abbrev pub en_in : Result StatusFields PowerlinkError → Bool
en_in (Err e) = false
en_in (Ok f) = f.en_flag

-- "EN equal to EA means known", whatever the entries; 12: "fewer free places than batch entries", of those to book
unfoldable pub book_answer : Bool → List ErrorEntry → Account → Result ReadOutcome ReadError
book_answer en es p = pick (beq en p.ea) (Ok Known) (need (leb (length p.book + length es) book_length) (Err BookFull) (Ok Booked))

-- the StatusResponse rules, then known, then 12
abbrev pub status_answer : Result StatusFields PowerlinkError → List ErrorEntry → Account → Result ReadOutcome ReadError
status_answer (Err e) es p = Err (Frame e)
status_answer (Ok f) es p = book_answer f.en_flag es p

-- 11: "ID not registered"
abbrev pub account_answer : Said → Option Account → Result ReadOutcome ReadError
account_answer said None = Err NotRegistered
account_answer said (Some p) = status_answer said.fields said.entries p

-- "Box order: frame rules, 10, 11, StatusResponse rules (1, 5), known, 12"
abbrev pub response_answer : Result (Option NodeId) PowerlinkError → Said → Box → Result ReadOutcome ReadError
response_answer (Err e) said b = Err (Frame e)
response_answer (Ok None) said b = Err NotStatusResponse
response_answer (Ok (Some source)) said b = account_answer said (b.accounts source.0)

unfoldable pub read_answer : List ℕ → List ℕ → Box → Result ReadOutcome ReadError
read_answer services f b = response_answer (response_in services f) (status_in f) b

-- 01's number for each case; behind 0 what C tells: 0 known, 1 booked
abbrev pub read_cause : Result ReadOutcome ReadError → Cause
read_cause (Ok Booked) = row 0 (1 ∷ [])
read_cause (Ok Known) = row 0 (0 ∷ [])
read_cause (Err (Frame e)) = cause_of e
read_cause (Err NotStatusResponse) = row cause.not_status_response []
read_cause (Err NotRegistered) = row cause.not_registered []
read_cause (Err BookFull) = row cause.book_full []

abbrev pub when_booked : {A : Type 0} → Result ReadOutcome ReadError → A → A → A
when_booked (Ok Booked) a b = a
when_booked (Ok Known) a b = b
when_booked (Err e) a b = b

-- "the whole batch goes into the book and EA becomes EN": of the batch the entries to book, which may be none
abbrev pub booked_account : Said → Option Account → Account
booked_account said None = fresh_account
booked_account said (Some p) = with_ea (en_in said.fields) (with_book (p.book ++ said.entries) p)

abbrev pub after_booking : Result (Option NodeId) PowerlinkError → Said → Box → Box
after_booking (Err e) said b = b
after_booking (Ok None) said b = b
after_booking (Ok (Some source)) said b = with_account source.0 (booked_account said (b.accounts source.0)) b

-- only what is booked changes anything
abbrev pub after_response : List ℕ → Result ReadOutcome ReadError → List ℕ → Box → Box
after_response services r f b = when_booked r (after_booking (response_in services f) (status_in f) b) b

-- ---- the flags

-- what every frame of the box to a head carries: "EA, er 0"; or 11
abbrev pub flags_answer : Option Account → Option SoAFlags
flags_answer None = None
flags_answer (Some p) = Some (record { ea = p.ea; er = false })

-- EA, then ER
abbrev pub flags_cause : Option SoAFlags → Cause
flags_cause (Some f) = row 0 (as_number f.ea ∷ as_number f.er ∷ [])
flags_cause None = row cause.not_registered []

-- ---- request

abbrev pub request_soa : ℕ → RequestFields → Bool → NewFrame SoAFrame
request_soa i f ea =
    new_soa f.source_mac f.nmt_state (record { ea = ea; er = false }) StatusRequest (record { 0 = i }) f.epl_version

-- "a 60-byte SoA frame as its `new` makes it, source 240, service 2, target the head, EA, er 0"
unfoldable pub request_frame : ℕ → RequestFields → Bool → List ℕ
request_frame i f ea = frame_bytes (request_soa i f ea).eth_header (SoA (request_soa i f ea).frame) []

abbrev pub as_request : Result ℕ PowerlinkError → Result ℕ RequestError
as_request (Ok n) = Ok n
as_request (Err e) = Err (requesting.Frame e)

-- the answer of writing these octets
abbrev pub request_written : List ℕ → List ℕ → Result ℕ RequestError
request_written bs target = as_request (write_answer bs target)

-- 11, then 1
abbrev pub request_answer : ℕ → RequestFields → List ℕ → Option Account → Result ℕ RequestError
request_answer i f target None = Err requesting.NotRegistered
request_answer i f target (Some p) = request_written (request_frame i f p.ea) target

abbrev pub request_cause : Result ℕ RequestError → Cause
request_cause (Ok n) = row 0 (n ∷ [])
request_cause (Err requesting.NotRegistered) = row cause.not_registered []
request_cause (Err (requesting.Frame e)) = cause_of e

-- what the target then holds
abbrev pub after_request : ℕ → RequestFields → List ℕ → Option Account → List ℕ
after_request i f target None = target
after_request i f target (Some p) = overwritten (request_frame i f p.ea) target

-- ---- Take

-- 16: "nothing booked to take"
abbrev pub take_first : List ErrorEntry → Result ErrorEntry TakeError
take_first [] = Err taking.NothingBooked
take_first (e ∷ es) = Ok e

-- 11, then 16; "the oldest booked entry is handed out"
abbrev pub take_answer : Option Account → Result ErrorEntry TakeError
take_answer None = Err taking.NotRegistered
take_answer (Some p) = take_first p.book

-- the entry's numbers
abbrev pub take_cause : Result ErrorEntry TakeError → Cause
take_cause (Ok e) = row 0 (entry_numbers e)
take_cause (Err taking.NotRegistered) = row cause.not_registered []
take_cause (Err taking.NothingBooked) = row cause.nothing_booked []

-- "and its place is used again"
abbrev pub without_first : Option Account → Account
without_first None = fresh_account
without_first (Some p) = with_book (drop 1 p.book) p

abbrev pub when_taken : {A : Type 0} → Result ErrorEntry TakeError → A → A → A
when_taken (Ok e) a b = a
when_taken (Err x) a b = b

abbrev pub after_take : Result ErrorEntry TakeError → ℕ → Box → Box
after_take r i b = when_taken r (with_account i (without_first (b.accounts i)) b) b
