-- What the calls of a collector leave to a caller in C: all that the call below promises, with the rule's answer; that answer's number; and
-- the out-parameters, off its row. Where a code names nothing, no call is made below: the target stays, and nothing is sent.
-- Assumes nothing.
use Rattle.std.specs.Prelude.{ℕ, Bool, ◌≡◌, List, length, Result, Ok, Err, Option, Some, None}
use Rattle.types.specs.States.{state_of}
use Rattle.types.specs.declared.states.NmtState.{NmtState}
use Rattle.section.specs.Write.{min_frame, unnamed_answer}
use Rattle.collector.specs.Calls.{Fresh, Registers, Reads, Flags, Requests, Takes}
use Rattle.collector.specs.Layout.{box_of, account_of}
use Rattle.collector.specs.Rules.{Account, register_answer, register_cause, read_answer, read_cause, flags_answer, flags_cause, as_request, request_answer, request_cause, take_answer, take_cause}
use Rattle.collector.specs.declared.RequestError.TheVariants as requesting
use Rattle.collector.specs.declared.RequestFields.{RequestFields}
use Rattle.c_values.specs.Answers.{values_told, flag_told, RowTold}
use Rattle.powerlink.specs.Given.{node, mac}
use Rattle.types.specs.declared.hal.PowerlinkError.{PowerlinkError}
use Rattle.collector.specs.declared.RequestError.{RequestError}

pub record CollectorMakes (r : ℕ) (s' : List ℕ) : Type 0 where
  pub cause : r ≡ 0
  pub fresh : Fresh s'

pub record CollectorRegisters (i r : ℕ) (s s' : List ℕ) : Type 0 where
  pub cause : r ≡ (register_cause (register_answer i (box_of s))).number
  pub registers : Registers (node i) (register_answer i (box_of s)) s s'

pub record CollectorReads (services f : List ℕ) (r : ℕ) (s s' : List ℕ) (k k' o o' : ℕ) : Type 0 where
  pub told : RowTold (read_cause (read_answer services f (box_of s))) r k k' o o'
  pub reads : Reads services f (read_answer services f (box_of s)) s s'

pub record CollectorFlags (i r : ℕ) (s : List ℕ) (a a' e e' : Bool) : Type 0 where
  pub cause : r ≡ (flags_cause (flags_answer (account_of s i))).number
  pub ea : a' ≡ flag_told (flags_cause (flags_answer (account_of s i))) 0 a
  pub er : e' ≡ flag_told (flags_cause (flags_answer (account_of s i))) 1 e
  pub flags : Flags (node i) (flags_answer (account_of s i)) s

-- the caller's fields of a request, but for the state
abbrev pub request_fields : List ℕ → ℕ → NmtState → RequestFields
request_fields from version state =
    record { source_mac = mac from; nmt_state = state; epl_version = record { 0 = version } }

-- a code that names no state: 11, then 1, then 5
abbrev pub unasked : PowerlinkError → List ℕ → Option Account → Result ℕ RequestError
unasked e t None = Err requesting.NotRegistered
unasked e t (Some p) = as_request (unnamed_answer min_frame e (length t))

abbrev pub request_by : ℕ → (NmtState → RequestFields) → Result NmtState PowerlinkError → List ℕ → Option Account → Result ℕ RequestError
request_by i f (Err e) t p = unasked e t p
request_by i f (Ok k) t p = request_answer i (f k) t p

-- what becomes of the target: what `request` promises, or it stays
abbrev pub RequestsBy : ℕ → (NmtState → RequestFields) → Result NmtState PowerlinkError → List ℕ → List ℕ → List ℕ → Type 0
RequestsBy i f (Err e) s t t' = t' ≡ t
RequestsBy i f (Ok k) s t t' = Requests (node i) (f k) (request_answer i (f k) t (account_of s i)) s t t'

pub record CollectorRequests (i : ℕ) (f : NmtState → RequestFields) (code r : ℕ) (s t t' : List ℕ) (n n' o o' : ℕ) : Type 0 where
  pub told : RowTold (request_cause (request_by i f (state_of code) t (account_of s i))) r n n' o o'
  pub requests : RequestsBy i f (state_of code) s t t'

pub record CollectorTakes (i r : ℕ) (s s' v v' : List ℕ) : Type 0 where
  pub cause : r ≡ (take_cause (take_answer (account_of s i))).number
  pub values : v' ≡ values_told (take_cause (take_answer (account_of s i))) v
  pub takes : Takes (node i) (take_answer (account_of s i)) s s'
