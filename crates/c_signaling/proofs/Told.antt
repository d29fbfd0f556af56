-- What C tells of an answer tells which it is.
-- Assumes nothing.
use Prim.Native.Nat.{ℕ}
use mathlib.Core.Bool.{Bool, true, false}
use mathlib.Core.Path.{◌≡◌, refl, ap, ◌∙◌}
use mathlib.Core.List.{List, [], ◌∷◌}
use lib.ListN.{length}
use lib.Dec.{eqb, leb}
use Rattle.std.specs.Prelude.{Result, Ok, Err, Option, Some, None}
use Rattle.types.specs.Causes.{row, cause_of, error_told}
use Rattle.types.specs.Codes.{need, pick}
use Rattle.types.specs.declared.hal.PowerlinkError.{PowerlinkError}
use Rattle.types.specs.declared.hal.PowerlinkError.TheVariants.{BufferTooShort}
use Rattle.section.specs.Write.{min_frame, write_answer, write_cause}
use Rattle.types.proofs.CausesTell.{not_0, below_8, error_told_lem, no_0}
use Rattle.error_entry.proofs.Values.{values_tell}
use Rattle.reporter.specs.CausesTell.{raise_told, write_told, read_told}
use Rattle.reporter.specs.Rules.{raise_cause, read_cause}
use Rattle.reporter.specs.declared.RaiseError.TheVariants.{EntryInvalid, StatusEntry, QueueFull}
use Rattle.reporter.specs.declared.ReadOutcome.TheVariants.{Closed, Kept, Ignored}
use Rattle.collector.specs.CausesTell as box
use Rattle.collector.specs.Rules as rules
use Rattle.collector.specs.declared.ReadError.TheVariants as readsError
use Rattle.collector.specs.declared.ReadOutcome.TheVariants as reads
use Rattle.collector.specs.declared.RegisterError.TheVariants.{IdOutOfRange, IdRegistered, Full}
use Rattle.collector.specs.declared.RequestFields.{RequestFields}
use Rattle.collector.specs.declared.TakeError.TheVariants as taking
use Rattle.c_values.specs.Answers.{length_after, octet_told, values_told, RowTold}
use Rattle.powerlink.specs.Collecting.{unasked}
use Rattle.c_signaling.specs.Log.{reading}
use Rattle.reporter.specs.declared.RaiseError.{RaiseError}
use Rattle.collector.specs.declared.RegisterError.{RegisterError}
use Rattle.error_entry.specs.declared.ErrorEntry.{ErrorEntry}
use Rattle.collector.specs.declared.TakeError.{TakeError}
use Rattle.reporter.specs.declared.ReadOutcome.{ReadOutcome}
use Rattle.collector.specs.declared.ReadOutcome.{ReadOutcome as BoxReadOutcome}
use Rattle.collector.specs.declared.ReadError.{ReadError}

-- ---- numbers alone

pub raise_number : (a : Result Unit RaiseError) → raise_told (row (raise_cause a).number []) ≡ a
raise_number (Ok _) = refl
raise_number (Err EntryInvalid) = refl
raise_number (Err StatusEntry) = refl
raise_number (Err QueueFull) = refl

pub register_number : (a : Result Unit RegisterError) → box.register_told (row (rules.register_cause a).number []) ≡ a
register_number (Ok _) = refl
register_number (Err IdOutOfRange) = refl
register_number (Err IdRegistered) = refl
register_number (Err Full) = refl

-- ---- writers: a refusal is of a target that is too short

written_by : (fits : Bool) (m n : ℕ)
    → let a = pick fits (Ok m) (Err BufferTooShort) in
    write_told (row (write_cause a).number (length_after a n ∷ [])) ≡ a
written_by true m n = refl
written_by false m n = refl

pub write_number : (bs t : List ℕ) (n : ℕ) → write_told (row (write_cause (write_answer bs t)).number (length_after (write_answer bs t) n ∷ [])) ≡ write_answer bs t
unfolding write_answer
write_number bs t n = written_by (leb (length bs) (length t)) (length bs) n

-- a request's too
request_by : (fits : Bool) (m r n n' o o' : ℕ)
    → let a = rules.as_request (pick fits (Ok m) (Err BufferTooShort)) in
    RowTold (rules.request_cause a) r n n' o o' → box.request_told (row r (n' ∷ [])) ≡ a
request_by true m r n n' o o' t = rw (t.cause, t.value)
request_by false m r n n' o o' t = rw t.cause

pub request_row : (j : ℕ) (f : RequestFields) (t : List ℕ) (p : Option rules.Account) (r n n' o o' : ℕ)
    → RowTold (rules.request_cause (rules.request_answer j f t p)) r n n' o o' → box.request_told (row r (n' ∷ [])) ≡ rules.request_answer j f t p
unfolding write_answer
request_row j f t None r n n' o o' y = rw y.cause
request_row j f t (Some p) r n n' o o' y =
    let bs = rules.request_frame j f p.ea in
    request_by (leb (length bs) (length t)) (length bs) r n n' o o' y

-- ---- a code that names no state does not answer 0

unasked_by : (fits : Bool) (e : PowerlinkError) → eqb (rules.request_cause (rules.as_request (need fits (Err BufferTooShort) (Err e)))).number 0 ≡ false
unasked_by true e = no_0 e
unasked_by false e = refl

pub unasked_number : (e : PowerlinkError) (t : List ℕ) (p : Option rules.Account) → eqb (rules.request_cause (unasked e t p)).number 0 ≡ false
unasked_number e t None = refl
unasked_number e t (Some p) = unasked_by (leb min_frame (length t)) e

-- ---- readings: the octet of a refusal

octet_back : (e : PowerlinkError) (k o : ℕ) → error_told (cause_of e).number (pick (eqb (cause_of e).number 0) k (octet_told (cause_of e) o)) ≡ e
octet_back e k o = ap (error_told (cause_of e).number) (not_0 e _ _ ∙ not_0 e _ _) ∙ error_told_lem e o

pub read_row : (a : Result ReadOutcome PowerlinkError) (r k k' o o' : ℕ) → RowTold (read_cause a) r k k' o o' → read_told (reading r k' o') ≡ a
read_row (Ok Closed) r k k' o o' t = rw (t.cause, t.value)
read_row (Ok Kept) r k k' o o' t = rw (t.cause, t.value)
read_row (Ok Ignored) r k k' o o' t = rw (t.cause, t.value)
read_row (Err e) r k k' o o' t = rw (t.cause, t.octet) (not_0 e _ _ ∙ ap Err (octet_back e k' o))

pub box_row : (a : Result BoxReadOutcome ReadError) (r k k' o o' : ℕ) → RowTold (rules.read_cause a) r k k' o o' → box.read_told (reading r k' o') ≡ a
box_row (Ok reads.Booked) r k k' o o' t = rw (t.cause, t.value)
box_row (Ok reads.Known) r k k' o o' t = rw (t.cause, t.value)
box_row (Err readsError.NotStatusResponse) r k k' o o' t = rw t.cause
box_row (Err readsError.NotRegistered) r k k' o o' t = rw t.cause
box_row (Err readsError.BookFull) r k k' o o' t = rw t.cause
box_row (Err (readsError.Frame e)) r k k' o o' t = rw (t.cause, t.octet) (not_0 e _ _ ∙ below_8 e _ _ ∙ ap (λ (x : PowerlinkError). Err (readsError.Frame x)) (octet_back e k' o))

-- ---- values

pub take_row : (a : Result ErrorEntry TakeError) (r : ℕ) (v v' : List ℕ) → r ≡ (rules.take_cause a).number → v' ≡ values_told (rules.take_cause a) v → box.take_told (row r v') ≡ a
take_row (Ok e) r v v' er ev = rw (er, ev) (ap Ok (values_tell.entries e))
take_row (Err taking.NotRegistered) r v v' er ev = rw er
take_row (Err taking.NothingBooked) r v v' er ev = rw er
