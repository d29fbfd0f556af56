-- What each call of a reporter promises: its answer is the rule's on what the state means, with 01's number; what the state means
-- afterwards is the rule's; and the octets themselves. A refusal leaves state and target as they were. The ranges that the types of its
-- parameters give are told too.
-- Assumes nothing.
use Rattle.std.specs.Prelude.{ℕ, ◌^◌, ◌<◌, Bool, ◌≡◌, List, length, Result, Ok}
use Rattle.types.specs.declared.NodeId.{NodeId}
use Rattle.section.specs.Write.{Serializes}
use Rattle.codec.specs.Frame.{read_frame, frame_cause}
use Rattle.error_entry.specs.declared.ErrorEntry.{ErrorEntry}
use Rattle.reporter.specs.Layout.{head_of, new_bytes, raise_bytes, answer_bytes, acknowledge_bytes}
use Rattle.reporter.specs.Rules.{fresh_head, new_answer, new_cause, raise_answer, raise_cause, after_raise, opened, answer_frame, answer_writing, answer_length, after_answer, ea_answer, acknowledge_answer, read_cause, after_acknowledge, ea_told}
use Rattle.reporter.specs.declared.AnswerFields.{AnswerFields}
use Rattle.types.specs.declared.hal.PowerlinkError.{PowerlinkError}
use Rattle.reporter.specs.declared.RaiseError.{RaiseError}
use Rattle.reporter.specs.declared.NewError.{NewError}
use Rattle.reporter.specs.declared.ReadOutcome.{ReadOutcome}

-- the numbers of an entry are of their types' widths; its profile may have 16 bits
pub record Numbers (e : ErrorEntry) : Type 0 where
  pub code : e.error_code < 2 ^ 16
  pub seconds : e.timestamp.seconds < 2 ^ 32
  pub nanoseconds : e.timestamp.nanoseconds < 2 ^ 32
  pub information : e.additional_information < 2 ^ 64

-- addresses of six octets, an error field of eight
pub record AnswerSizes (f : AnswerFields) : Type 0 where
  pub source : length f.source_mac.0 ≡ 6
  pub destination : length f.dest_mac.0 ≡ 6
  pub errors : length f.static_error_bit_field.specific_errors ≡ 7

-- a head is made, and it is a fresh one; or "no head is made"
pub record Makes (i : NodeId) (r : Result Unit NewError) (state after : List ℕ) : Type 0 where
  pub answer : r ≡ new_answer i.0
  pub cause : new_cause r ≡ new_cause (new_answer i.0)
  pub head : r ≡ Ok tt → head_of after ≡ fresh_head i.0
  pub bytes : after ≡ new_bytes r i.0 state

pub record Raises (e : ErrorEntry) (r : Result Unit RaiseError) (state after : List ℕ) : Type 0 where
  pub answer : r ≡ raise_answer e (head_of state)
  pub cause : raise_cause r ≡ raise_cause (raise_answer e (head_of state))
  pub numbers : Numbers e
  pub head : head_of after ≡ after_raise r e (head_of state)
  pub bytes : after ≡ raise_bytes r e state

pub record Answers (services : List ℕ) (f : AnswerFields) (r : Result ℕ PowerlinkError) (state after target written : List ℕ) : Type 0 where
  pub writes : Serializes (answer_writing services f (opened (head_of state))) r target written
  pub size : length (answer_frame f (opened (head_of state))) ≡ answer_length (length (opened (head_of state)).batch)
  pub sizes : AnswerSizes f
  pub head : head_of after ≡ after_answer r (head_of state)
  pub bytes : after ≡ answer_bytes r state

-- the part of reading that EA decides
pub record Acknowledges (ea : Bool) (r : ReadOutcome) (state after : List ℕ) : Type 0 where
  pub answer : r ≡ ea_answer ea (head_of state)
  pub head : head_of after ≡ after_acknowledge (Ok r) (head_of state)
  pub bytes : after ≡ acknowledge_bytes (Ok r) state

pub record Reads (services frame : List ℕ) (r : Result ReadOutcome PowerlinkError) (state after : List ℕ) : Type 0 where
  pub answer : r ≡ acknowledge_answer (ea_told services (head_of state).id frame) (head_of state)
  pub cause : (read_cause r).number ≡ (frame_cause (read_frame services frame)).number
  pub head : head_of after ≡ after_acknowledge r (head_of state)
  pub bytes : after ≡ acknowledge_bytes r state
