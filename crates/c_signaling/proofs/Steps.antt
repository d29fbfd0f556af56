-- Each call of a host in C is a step of `signaling`, or changes nothing.
-- Assumes nothing.
use Prim.Native.Nat.{ℕ}
use mathlib.Core.Bool.{Bool, true, false}
use mathlib.Core.Path.{◌≡◌, refl}
use mathlib.Core.List.{List, [], ◌∷◌, ◌++◌}
use native.Mathlib.Omega.{arith}
use lib.ListN.{length}
use Rattle.std.specs.Prelude.{Result, Ok, Err}
use Rattle.types.specs.Causes.{row}
use Rattle.types.specs.Codes.{need}
use Rattle.types.specs.Modes.{mode_of}
use Rattle.types.specs.Nodes.{is_cn_node_id}
use Rattle.types.specs.States.{state_of}
use Rattle.types.specs.declared.states.NmtState.{NmtState}
use Rattle.section.specs.Write.{coded_answer}
use Rattle.reporter.specs.CausesTell.{raise_told, write_told}
use Rattle.reporter.specs.Layout.{head_of}
use Rattle.reporter.specs.Rules.{new_cause, raise_answer, opened, answer_frame, answer_writing, answer_length}
use Rattle.reporter.specs.declared.AnswerFields.{AnswerFields}
use Rattle.reporter.specs.declared.NewError.{NewError}
use Rattle.reporter.specs.declared.NewError.TheVariants.{IdOutOfRange}
use Rattle.reporter.proofs.AnyTable.{any_table}
use Rattle.collector.specs.CausesTell as box
use Rattle.collector.specs.Layout.{account_of, box_of}
use Rattle.collector.specs.Rules.{register_answer, read_answer, request_answer, request_cause, take_answer}
use Rattle.collector.specs.declared.RequestFields.{RequestFields}
use Rattle.c_values.specs.Answers.{RowTold}
use Rattle.powerlink.specs.Collecting.{request_by, RequestsBy, request_fields}
use Rattle.powerlink.specs.Reporting.{RaisesBy, AnswersBy, reporter_reading, answer_fields}
use Rattle.powerlink.specs.Writing.{stated, WritesCoded}
use Rattle.signaling.specs.Calls.{Event, Log, World, Step, raise, answer, head_reads, register, box_reads, request, takes, hosts, Run, fresh, call}
use Rattle.c_signaling.specs.Calls as c
use Rattle.c_signaling.specs.Calls.{Site, world_of, CStep, CRun, Translated, nothing, one}
use Rattle.c_signaling.specs.Log.{Raising, Call, raised_entry, raise_events, answer_events, request_events, events_of, events}
use Rattle.c_signaling.proofs.Told.{raise_number, register_number, write_number, read_row, box_row, request_row, take_row}
use Rattle.types.specs.declared.hal.PowerlinkError.{PowerlinkError}
use Rattle.types.specs.declared.error_mode.UnknownMode.{UnknownMode}
use Rattle.types.specs.declared.error_mode.ErrorEntryMode.{ErrorEntryMode}

module _ (i : ℕ) (w : Site) where
  raise_call : (g : Raising) (m : Result ErrorEntryMode UnknownMode) (r : ℕ) (after : List ℕ) → RaisesBy (raised_entry g) m r w.head after
      → Translated i (world_of w) (raise_events g m r) (record { head = after; box = w.box; log = raise_events g m r ++ events w.log })
  raise_call g (Err x) r after c = rw c.stays nothing
  raise_call g (Ok m) r after c =
      let a = raise_answer (raised_entry g m) (head_of w.head) in
      let e : raise_told (row r []) ≡ a = rw c.cause (raise_number a) in
      rw e (one (raise (raised_entry g m) a after c.raises))

  answer_call : (services : List ℕ) (f : NmtState → AnswerFields) (m : Result NmtState PowerlinkError) (r : ℕ) (after t t' : List ℕ) (n n' o o' : ℕ)
      → WritesCoded (stated (answer_length (length (opened (head_of w.head)).batch)) m (λ s. answer_writing services (f s) (opened (head_of w.head)))) r t t' n n' o o'
      → AnswersBy services f m w.head after t t'
      → Translated i (world_of w) (answer_events m r t' n') (record { head = after; box = w.box; log = answer_events m r t' n' ++ events w.log })
  answer_call services f (Err x) r after t t' n n' o o' c d = rw d nothing
  answer_call services f (Ok k) r after t t' n n' o o' c d =
      let h = opened (head_of w.head) in
      let a = coded_answer (answer_writing services (f k) h) t in
      let e : write_told (row r (n' ∷ [])) ≡ a = rw (c.cause, c.written, any_table.answer services (f k) h) (write_number (answer_frame (f k) h) t n) in
      rw e (one (answer services (f k) a after t t' d))

  request_call : (j : ℕ) (f : NmtState → RequestFields) (m : Result NmtState PowerlinkError) (r : ℕ) (t t' : List ℕ) (n n' o o' : ℕ)
      → RowTold (request_cause (request_by j f m t (account_of w.box j))) r n n' o o'
      → RequestsBy j f m w.box t t'
      → Translated i (world_of w) (request_events j m r t' n') (record { head = w.head; box = w.box; log = request_events j m r t' n' ++ events w.log })
  request_call j f (Err x) r t t' n n' o o' c d = nothing
  request_call j f (Ok k) r t t' n n' o o' c d =
      let a = request_answer j (f k) t (account_of w.box j) in
      let e : box.request_told (row r (n' ∷ [])) ≡ a = request_row j (f k) t (account_of w.box j) r n n' o o' c in
      rw e (one (request j (f k) a t t' d))

pub called : {i : ℕ} {w v : Site} {x : Call} → CStep i w x v → Translated i (world_of w) (events_of x) (world_of v)
called {i} {w} (c.raises g r after k) = raise_call i w g (mode_of g.mode) r after k
called {i} {w} (c.answers services from to ec pr rs field state r after t t' n n' o o' k) =
    answer_call i w services (answer_fields from to ec pr rs field) (state_of state) r after t t' n n' o o' k.writes k.answers
called {i} {w} (c.head_reads services from bs r k k' o o' after d y) =
    let a = reporter_reading services bs w.head in
    rw (read_row a r k k' o o' y.told) (one (head_reads services from bs a after d y.reads))
called {i} {w} (c.registers j r after y) =
    let a = register_answer j (box_of w.box) in
    let e : box.register_told (row r []) ≡ a = rw y.cause (register_number a) in
    rw e (one (register j a after y.registers))
called {i} {w} (c.box_reads services from bs r k k' o o' after d y) =
    let a = read_answer services bs (box_of w.box) in
    rw (box_row a r k k' o o' y.told) (one (box_reads services from bs a after d y.reads))
called {i} {w} (c.requests j from version state r t t' n n' o o' y) =
    request_call i w j (request_fields from version) (state_of state) r t t' n n' o o' y.told y.requests
called {i} {w} (c.takes j r after v v' y) =
    let a = take_answer (account_of w.box j) in
    rw (take_row a r v v' y.cause y.values) (one (takes j a after y.takes))
called {i} {w} (c.hosts bs told) = one (hosts bs told)

-- a call that is one
pub the_step : {i : ℕ} {w v : World} {x : Event} → Translated i w (x ∷ []) v → Step i w x v
the_step (one s) = s

-- ---- lists

-- a head was made where 0 is answered
is_made : (b : Bool) → 0 ≡ (new_cause (need b (Err IdOutOfRange) (Ok tt))).number → ◌≡◌ {A = Result Unit NewError} (need b (Err IdOutOfRange) (Ok tt)) (Ok tt)
is_made true e = refl
is_made false e = absurd (omega arith)

onward : {i : ℕ} {w v : World} {es : Log} → Run i w → Translated i w es v → Run i v
onward r nothing = r
onward r (one s) = call r s

pub runs : {i : ℕ} {w : Site} → CRun i w → Run i (world_of w)
runs {i} (c.fresh before head box r m f) =
    fresh before head box (rw (is_made (is_cn_node_id i) m.cause) at m.makes) f.fresh
runs (c.call r s) = onward (runs r) (called s)
