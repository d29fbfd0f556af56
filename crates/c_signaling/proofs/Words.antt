-- 01's words of what a host sees are those of the steps.
-- Assumes nothing.
use Prim.Native.Nat.{ℕ}
use mathlib.Core.Bool.{Bool, true, false}
use mathlib.Core.Path.{◌≡◌, refl, ap, ◌∙◌}
use mathlib.Core.List.{List, [], ◌∷◌, ◌++◌}
use lib.ListN.{length, take}
use lib.Dec.{eqb, leb, ltb}
use Rattle.section.proofs.CausesTell.{refused_number}
use Rattle.std.specs.Prelude.{Result, Ok, Err, Option}
use Rattle.types.specs.Codes.{pick}
use Rattle.types.specs.Modes.{mode_of}
use Rattle.types.specs.States.{state_of}
use Rattle.types.specs.declared.hal.PowerlinkError.{PowerlinkError}
use Rattle.types.specs.declared.states.NmtState.{NmtState}
use Rattle.section.specs.Write.{write_cause, Coded, coded_answer}
use Rattle.types.specs.Causes.{error_told}
use Rattle.error_entry.specs.Values.{entry_told}
use Rattle.error_entry.specs.declared.ErrorEntry.{ErrorEntry}
use Rattle.reporter.specs.Rules.{when_raised}
use Rattle.reporter.specs.declared.RaiseError.TheVariants.{EntryInvalid, StatusEntry, QueueFull}
use Rattle.collector.specs.Layout.{account_of}
use Rattle.collector.specs.Rules.{Account, request_cause}
use Rattle.collector.specs.declared.RequestError.TheVariants as requesting
use Rattle.collector.specs.declared.RequestFields.{RequestFields}
use Rattle.collector.specs.declared.TakeError.TheVariants as taking
use Rattle.powerlink.specs.Collecting.{request_by, request_fields}
use Rattle.powerlink.specs.Reporting.{RaisesBy}
use Rattle.powerlink.specs.Writing.{stated}
use Rattle.signaling.specs.Calls.{accepted, handed_out, answers_sent, requests_sent, if_taken, if_written, Log}
use Rattle.c_signaling.specs.Calls as c
use Rattle.c_signaling.specs.Calls.{Site, CStep, CRun, seen_in, CallsAreSteps}
use Rattle.c_signaling.specs.Log.{Raising, Call, Seen, seen_with, seen, if_zero, raised_entries, raised_entry, raise_events, answer_events, request_events, events_of, events}
use Rattle.c_signaling.proofs.Steps.{called, runs}
use Rattle.c_signaling.proofs.Told.{unasked_number}
use Rattle.types.specs.declared.error_mode.UnknownMode.{UnknownMode}
use Rattle.types.specs.declared.error_mode.ErrorEntryMode.{ErrorEntryMode}

-- ---- what answers 0 is not refused

module _ {A : Type 0} (new old : A) where
  raised_if : (zero invalid status : Bool)
      → when_raised (pick zero (Ok tt) (pick invalid (Err EntryInvalid) (pick status (Err StatusEntry) (Err QueueFull)))) new old ≡ pick zero new old
  raised_if true invalid status = refl
  raised_if false true status = refl
  raised_if false false true = refl
  raised_if false false false = refl

module _ (n : ℕ) (e : PowerlinkError) (bs : List ℕ) (fs : List (List ℕ)) where
  answered_if : (zero : Bool) → if_written (pick zero (Ok n) (Err e)) bs fs ≡ pick zero (fs ++ (take n bs ∷ [])) fs
  answered_if true = refl
  answered_if false = refl

  requested_if : (zero low : Bool)
      → if_written (pick zero (Ok n) (pick low (Err (requesting.Frame e)) (Err requesting.NotRegistered))) bs fs ≡ pick zero (fs ++ (take n bs ∷ [])) fs
  requested_if true low = refl
  requested_if false true = refl
  requested_if false false = refl

taken_if : (e : ErrorEntry) (es : List ErrorEntry) (zero absent : Bool)
    → if_taken (pick zero (Ok e) (pick absent (Err taking.NotRegistered) (Err taking.NothingBooked))) es ≡ pick zero (es ++ (e ∷ [])) es
taken_if e es true absent = refl
taken_if e es false true = refl
taken_if e es false false = refl

-- ---- each call

module _ (i : ℕ) (l : Log) where
  abbrev with_accepted : List ErrorEntry → Seen
  with_accepted es = record { accepted = es; handed_out = handed_out i l; answers_sent = answers_sent i l; requests_sent = requests_sent i l }

  abbrev with_answers : List (List ℕ) → Seen
  with_answers fs = record { accepted = accepted i l; handed_out = handed_out i l; answers_sent = fs; requests_sent = requests_sent i l }

  abbrev with_requests : List (List ℕ) → Seen
  with_requests fs = record { accepted = accepted i l; handed_out = handed_out i l; answers_sent = answers_sent i l; requests_sent = fs }

  abbrev with_handed : List ErrorEntry → Seen
  with_handed es = record { accepted = accepted i l; handed_out = es; answers_sent = answers_sent i l; requests_sent = requests_sent i l }

  raise_seen : (g : Raising) (m : Result ErrorEntryMode UnknownMode) (r : ℕ) (s after : List ℕ) → RaisesBy (raised_entry g) m r s after
      → seen_in i (raise_events g m r ++ l) ≡ with_accepted (if_zero r (accepted i l ++ raised_entries g m) (accepted i l))
  raise_seen g (Err x) r s after k = rw k.cause
  raise_seen g (Ok m) r s after k =
      ap with_accepted (raised_if (accepted i l ++ (raised_entry g m ∷ [])) (accepted i l) (eqb r 0) (eqb r 8) (eqb r 23))

  answer_seen : (m : Result NmtState PowerlinkError) (k : ℕ) (f : NmtState → Coded) (r : ℕ) (t t' : List ℕ) (n : ℕ)
      → r ≡ (write_cause (coded_answer (stated k m f) t)).number
      → seen_in i (answer_events m r t' n ++ l) ≡ with_answers (if_zero r (answers_sent i l ++ (take n t' ∷ [])) (answers_sent i l))
  answer_seen (Err x) k f r t t' n e = rw (e, refused_number (leb k (length t)) x)
  answer_seen (Ok m) k f r t t' n e = ap with_answers (answered_if n _ t' (answers_sent i l) (eqb r 0))

  request_seen : (j : ℕ) (f : NmtState → RequestFields) (m : Result NmtState PowerlinkError) (p : Option Account) (r : ℕ) (t t' : List ℕ) (n : ℕ)
      → r ≡ (request_cause (request_by j f m t p)).number
      → seen_in i (request_events j m r t' n ++ l) ≡ with_requests (if_zero r (requests_sent i l ++ (take n t' ∷ [])) (requests_sent i l))
  request_seen j f (Err x) p r t t' n e = rw (e, unasked_number x t p)
  request_seen j f (Ok m) p r t t' n e = ap with_requests (requested_if n (error_told r n) t' (requests_sent i l) (eqb r 0) (ltb r 8))

  take_seen : (mine : Bool) (r : ℕ) (vs : List ℕ)
      → with_handed (pick mine (if_taken (pick (eqb r 0) (Ok (entry_told vs)) (pick (eqb r 11) (Err taking.NotRegistered) (Err taking.NothingBooked))) (handed_out i l)) (handed_out i l))
      ≡ with_handed (pick mine (if_zero r (handed_out i l ++ (entry_told vs ∷ [])) (handed_out i l)) (handed_out i l))
  take_seen true r vs = ap with_handed (taken_if (entry_told vs) (handed_out i l) (eqb r 0) (eqb r 11))
  take_seen false r vs = refl

adds : {i : ℕ} {w v : Site} {x : Call} → CStep i w x v → seen_in i (events_of x ++ events w.log) ≡ seen_with i x (seen_in i (events w.log))
adds {i} {w} (c.raises g r after k) = raise_seen i (events w.log) g (mode_of g.mode) r w.head after k
adds {i} {w} (c.answers services from to ec pr rs field s r after t t' n n' o o' k) =
    answer_seen i (events w.log) (state_of s) _ _ r t t' n' k.writes.cause
adds (c.head_reads services from bs r k k' o o' after d y) = refl
adds (c.registers j r after y) = refl
adds (c.box_reads services from bs r k k' o o' after d y) = refl
adds {i} {w} (c.requests j from version s r t t' n n' o o' k) =
    request_seen i (events w.log) j (request_fields from version) (state_of s) (account_of w.box j) r t t' n' k.told.cause
adds {i} {w} (c.takes j r after v v' y) = take_seen i (events w.log) (eqb j i) r v'
adds (c.hosts bs told) = refl

-- ---- every list

grows : {i : ℕ} {w v : Site} {x : Call} → CStep i w x v → v.log ≡ x ∷ w.log
grows (c.raises g r after k) = refl
grows (c.answers services from to ec pr rs field s r after t t' n n' o o' k) = refl
grows (c.head_reads services from bs r k k' o o' after d y) = refl
grows (c.registers j r after y) = refl
grows (c.box_reads services from bs r k k' o o' after d y) = refl
grows (c.requests j from version s r t t' n n' o o' k) = refl
grows (c.takes j r after v v' y) = refl
grows (c.hosts bs told) = refl

pub words : {i : ℕ} {w : Site} → CRun i w → seen_in i (events w.log) ≡ seen i w.log
words (c.fresh before head box r m f) = refl
words {i} (c.call {x = x} run s) = rw (grows s) (adds s ∙ ap (seen_with i x) (words run))

pub calls_are_steps : CallsAreSteps
calls_are_steps = record { calls = λ i w v x s. called s; lists = λ i w r. runs r; words = λ i w r. words r }
