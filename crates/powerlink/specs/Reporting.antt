-- What the calls of a reporter leave to a caller in C: all that the call below promises, with the rule's answer; that answer's number; and the
-- out-parameters, off its row. Where a code names nothing, no call is made below: the state stays, and nothing is sent.
-- Assumes nothing.
use Rattle.std.specs.Prelude.{ℕ, Bool, ◌≡◌, List, length, Result, Ok, Err}
use Rattle.types.specs.Modes.{mode_of}
use Rattle.types.specs.PollFlags.{priority_in}
use Rattle.types.specs.States.{state_of}
use Rattle.types.specs.declared.common.NetTime.{NetTime}
use Rattle.types.specs.declared.error_mode.ErrorEntryMode.{ErrorEntryMode}
use Rattle.types.specs.declared.states.NmtState.{NmtState}
use Rattle.section.specs.Write.{Coded, coded_answer}
use Rattle.error_entry.specs.declared.ErrorEntry.{ErrorEntry}
use Rattle.status_response.specs.BitField.{field_of}
use Rattle.reporter.specs.Calls.{Makes, Raises, Answers, Reads}
use Rattle.reporter.specs.Layout.{head_of}
use Rattle.reporter.specs.Rules.{Head, new_answer, new_cause, raise_answer, raise_cause, opened, answer_writing, answer_length, acknowledge_answer, read_cause, ea_told}
use Rattle.reporter.specs.declared.AnswerFields.{AnswerFields}
use Rattle.reporter.specs.declared.RaiseError.TheVariants.{EntryInvalid}
use Rattle.c_values.specs.Answers.{RowTold}
use Rattle.powerlink.specs.Given.{node, mac, entry_with}
use Rattle.powerlink.specs.Writing.{stated, WritesCoded}
use Rattle.types.specs.declared.hal.PowerlinkError.{PowerlinkError}
use Rattle.types.specs.declared.error_mode.UnknownMode.{UnknownMode}
use Rattle.reporter.specs.declared.ReadOutcome.{ReadOutcome}

pub record ReporterMakes (i r : ℕ) (state after : List ℕ) : Type 0 where
  pub cause : r ≡ (new_cause (new_answer i)).number
  pub makes : Makes (node i) (new_answer i) state after

-- an entry is raised
pub record RaisesEntry (e : ErrorEntry) (r : ℕ) (state after : List ℕ) : Type 0 where
  pub cause : r ≡ (raise_cause (raise_answer e (head_of state))).number
  pub raises : Raises e (raise_answer e (head_of state)) state after

-- a mode that is none is refused as mode 0 is
pub record RaisesNone (r : ℕ) (state after : List ℕ) : Type 0 where
  pub cause : r ≡ (raise_cause (Err EntryInvalid)).number
  pub stays : after ≡ state

abbrev pub RaisesBy : (ErrorEntryMode → ErrorEntry) → Result ErrorEntryMode UnknownMode → ℕ → List ℕ → List ℕ → Type 0
RaisesBy e (Err x) r state after = RaisesNone r state after
RaisesBy e (Ok m) r state after = RaisesEntry (e m) r state after

abbrev pub ReporterRaises : Bool → Bool → ℕ → ℕ → ℕ → NetTime → ℕ → ℕ → List ℕ → List ℕ → Type 0
ReporterRaises status queue mode profile code stamp information r state after =
    RaisesBy (λ m. entry_with status queue m profile code stamp information) (mode_of mode) r state after

-- the caller's fields of an answer, but for the state
abbrev pub answer_fields : List ℕ → List ℕ → Bool → ℕ → ℕ → List ℕ → NmtState → AnswerFields
answer_fields from to ec pr rs field state =
    record {
      source_mac = mac from;
      dest_mac = mac to;
      ec_flag = ec;
      pr = priority_in pr;
      rs = record { 0 = rs };
      nmt_state = state;
      static_error_bit_field = field_of field;
    }

-- the answer of a state, where its fields' state is the one that a code names
abbrev pub answer_given : List ℕ → (NmtState → AnswerFields) → ℕ → Head → Coded
answer_given services f state h =
    stated (answer_length (length (opened h).batch)) (state_of state) (λ s. answer_writing services (f s) (opened h))

-- what becomes of the state: what `answer` promises, or it stays
abbrev pub AnswersBy : List ℕ → (NmtState → AnswerFields) → Result NmtState PowerlinkError → List ℕ → List ℕ → List ℕ → List ℕ → Type 0
AnswersBy services f (Err e) s s' t t' = s' ≡ s
AnswersBy services f (Ok k) s s' t t' =
    Answers services (f k) (coded_answer (answer_writing services (f k) (opened (head_of s))) t) s s' t t'

pub record ReporterAnswers (services : List ℕ) (f : NmtState → AnswerFields) (code r : ℕ) (s s' t t' : List ℕ) (n n' o o' : ℕ) : Type 0 where
  pub writes : WritesCoded (answer_given services f code (head_of s)) r t t' n n' o o'
  pub answers : AnswersBy services f (state_of code) s s' t t'

-- the state is lent to be read: it stays
pub record ReporterEn (r : ℕ) (s : List ℕ) (e' : Bool) : Type 0 where
  pub cause : r ≡ 0
  pub en : e' ≡ (head_of s).en

-- what reading a frame answers
abbrev pub reporter_reading : List ℕ → List ℕ → List ℕ → Result ReadOutcome PowerlinkError
reporter_reading services frame state = acknowledge_answer (ea_told services (head_of state).id frame) (head_of state)

pub record ReporterReads (services frame : List ℕ) (r : ℕ) (s s' : List ℕ) (k k' o o' : ℕ) : Type 0 where
  pub told : RowTold (read_cause (reporter_reading services frame s)) r k k' o o'
  pub reads : Reads services frame (reporter_reading services frame s) s s'
