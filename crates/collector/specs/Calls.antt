-- What each call of a collector promises: its answer is the rule's on what the state means, with 01's number; what the state means
-- afterwards is the rule's, for every ID; and the octets themselves. A refusal leaves state and target as they were. The range that the
-- type of a request's fields gives is told too.
-- Assumes nothing.
use Rattle.std.specs.Prelude.{ℕ, Bool, ◌≡◌, List, length, Result, Ok, Option, Some}
use Rattle.types.specs.declared.NodeId.{NodeId}
use Rattle.collector.specs.Layout.{box_of, account_of, account_in, fresh_bytes, register_bytes, response_bytes, booked_bytes, booking_bytes, take_bytes}
use Rattle.collector.specs.Rules.{fresh_box, Same, register_answer, register_cause, after_register, book_answer, account_answer, read_answer, read_cause, said_in, when_booked, after_response, flags_answer, flags_cause, request_answer, request_cause, request_frame, after_request, take_answer, take_cause, after_take}
use Rattle.collector.specs.declared.RequestFields.{RequestFields}
use Rattle.collector.specs.declared.RegisterError.{RegisterError}
use Rattle.collector.specs.declared.RequestError.{RequestError}
use Rattle.error_entry.specs.declared.ErrorEntry.{ErrorEntry}
use Rattle.collector.specs.declared.TakeError.{TakeError}
use Rattle.control.specs.declared.soa.SoAFlags.{SoAFlags}
use Rattle.collector.specs.declared.ReadOutcome.{ReadOutcome}
use Rattle.collector.specs.declared.ReadError.{ReadError}

pub record Fresh (after : List ℕ) : Type 0 where
  pub box : Same (box_of after) fresh_box
  pub bytes : after ≡ fresh_bytes

pub record Registers (i : NodeId) (r : Result Unit RegisterError) (state after : List ℕ) : Type 0 where
  pub answer : r ≡ register_answer i.0 (box_of state)
  pub cause : register_cause r ≡ register_cause (register_answer i.0 (box_of state))
  pub box : Same (box_of after) (after_register r i.0 (box_of state))
  pub bytes : after ≡ register_bytes r i.0 state

pub record Reads (services frame : List ℕ) (r : Result ReadOutcome ReadError) (state after : List ℕ) : Type 0 where
  pub answer : r ≡ read_answer services frame (box_of state)
  pub cause : read_cause r ≡ read_cause (read_answer services frame (box_of state))
  pub box : Same (box_of after) (after_response services r frame (box_of state))
  pub bytes : after ≡ response_bytes services r frame state

-- the state is lent to be read: it stays
pub record Flags (i : NodeId) (r : Option SoAFlags) (state : List ℕ) : Type 0 where
  pub answer : r ≡ flags_answer (account_of state i.0)
  pub cause : flags_cause r ≡ flags_cause (flags_answer (account_of state i.0))

pub record Requests (i : NodeId) (f : RequestFields) (r : Result ℕ RequestError) (state target written : List ℕ) : Type 0 where
  pub answer : r ≡ request_answer i.0 f target (account_of state i.0)
  pub cause : request_cause r ≡ request_cause (request_answer i.0 f target (account_of state i.0))
  -- an address of six octets
  pub source : length f.source_mac.0 ≡ 6
  -- "a 60-byte SoA frame"
  pub size : (ea : Bool) → length (request_frame i.0 f ea) ≡ 60
  pub holds : written ≡ after_request i.0 f target (account_of state i.0)

pub record Takes (i : NodeId) (r : Result ErrorEntry TakeError) (state after : List ℕ) : Type 0 where
  pub answer : r ≡ take_answer (account_of state i.0)
  pub cause : take_cause r ≡ take_cause (take_answer (account_of state i.0))
  pub box : Same (box_of after) (after_take r i.0 (box_of state))
  pub bytes : after ≡ take_bytes r i.0 state

-- ---- the parts of reading that private functions do

-- the octets after a payload from a node
abbrev pub read_status_bytes : Result ReadOutcome ReadError → ℕ → List ℕ → List ℕ → List ℕ
read_status_bytes r source payload s = when_booked r (booking_bytes (Ok (Some (record { 0 = source }))) (said_in payload) s) s

pub record ReadsStatus (source : ℕ) (payload : List ℕ) (r : Result ReadOutcome ReadError) (state after : List ℕ) : Type 0 where
  pub answer : r ≡ account_answer (said_in payload) (account_of state source)
  pub bytes : after ≡ read_status_bytes r source payload state

pub record Books (k : ℕ) (en : Bool) (payload : List ℕ) (r : Result ReadOutcome ReadError) (state after : List ℕ) : Type 0 where
  pub answer : r ≡ book_answer en (said_in payload).entries (account_in state k)
  pub bytes : after ≡ when_booked r (booked_bytes state k en (said_in payload).entries) state
