-- What the calls do to the octets is what the rules do to the head that they mean.
-- Assumes nothing.
use Prim.Native.Nat.{ℕ, zero, suc, ◌+◌, ◌*◌, ◌-◌, ◌≤◌, ◌<◌}
use mathlib.Core.Path.{◌≡◌, refl, sym, ◌∙◌}
use mathlib.Core.Bool.{Bool, true, false, true≢false}
use mathlib.Core.List.{List}
use native.Mathlib.Omega.{arith}
use lib.ListN.{length, take}
use lib.Dec.{ltb}
use borrow.Author.Tests.{ltb-true}
use Rattle.std.specs.Prelude.{Result, Ok, Err}
use borrow.Table.Steps.{cases as either}
use Rattle.types.specs.declared.error_mode.ErrorEntryMode.{ErrorEntryMode}
use Rattle.types.specs.declared.error_mode.ErrorEntryMode.TheVariants.{Terminator, ErrorActive, ErrorCleared, EventOccurred}
use Rattle.error_entry.specs.ReadBack.{InRange}
use Rattle.error_entry.specs.declared.ErrorEntry.{ErrorEntry}
use Rattle.records.specs.Ring.{ring}
use Rattle.records.proofs.RingLaws.{length_ring, ring_take}
use Rattle.status_response.specs.Steps.{unless_terminator}
use Rattle.reporter.specs.Calls.{Numbers}
use Rattle.reporter.specs.Layout.{reporter_length, places, en_of, start_of, open_of, waiting_of, entry_in, head_of, new_bytes, raise_bytes, opens_in, carried_in, first_four, opened_bytes, acknowledge_bytes}
use Rattle.reporter.specs.Rules.{queue_length, batch_length, Head, fresh_head, is_raisable, raise_by, raise_answer, after_raise, opened, answer_frame, answer_length, after_acknowledge}
use Rattle.reporter.specs.declared.AnswerFields.{AnswerFields}
use Rattle.reporter.specs.declared.ReadOutcome.TheVariants.{Closed, Kept, Ignored}
use Rattle.reporter.proofs.Answering.{payload_length, answer_octets}
use Rattle.reporter.proofs.Closing.{closed_length, closed_means}
use Rattle.reporter.proofs.Opening.{carried_few, batch_opened, opened_length, opened_means, kept_length, kept_means, batch_kept, carried_open}
use Rattle.reporter.proofs.Raising.{raised_length, raised_means}
use Rattle.reporter.proofs.Ranges.{open_small, waiting_small, batch_length_lem, waiting_length}
use Rattle.reporter.specs.declared.RaiseError.{RaiseError}
use Rattle.reporter.specs.declared.ReadOutcome.{ReadOutcome}
use Rattle.types.specs.declared.hal.PowerlinkError.{PowerlinkError}

-- ---- the bounds of a head

pub batch_small : (s : List ℕ) → length (head_of s).batch ≤ batch_length
batch_small s = rw (batch_length_lem s) (open_small s)

pub waiting_few : (s : List ℕ) → length (head_of s).waiting ≤ queue_length
waiting_few s = rw (waiting_length s) (waiting_small s)

-- ---- a new head

pub made : (i : ℕ) (s : List ℕ) → head_of (new_bytes (Ok tt) i s) ≡ fresh_head i
unfolding head_of en_of start_of open_of waiting_of ring
made i s = refl

pub new_length : (i : ℕ) (s : List ℕ) → length (new_bytes (Ok tt) i s) ≡ reporter_length
new_length i s = refl

-- ---- Raise

profile_small : (m : ErrorEntryMode) (p : ℕ) → unless_terminator m (ltb p 4096) false ≡ true → p < 4096
profile_small Terminator p e = absurd (true≢false cc)
profile_small ErrorActive p e = ltb-true p 4096 e
profile_small ErrorCleared p e = ltb-true p 4096 e
profile_small EventOccurred p e = ltb-true p 4096 e

pub raisable_range : (e : ErrorEntry) → Numbers e → is_raisable e ≡ true → InRange e
unfolding is_raisable
raisable_range e w h =
    record {
      profile = omega (arith, profile_small e.entry_type.mode e.entry_type.profile h);
      code = w.code;
      seconds = w.seconds;
      nanoseconds = w.nanoseconds;
      information = w.information;
    }

module _ (e : ErrorEntry) (s : List ℕ) where
  pub raises_length : (r : Result Unit RaiseError) → length (raise_bytes r e s) ≡ length s
  raises_length (Ok _) = raised_length s e
  raises_length (Err x) = refl

  means_by : length s ≡ reporter_length → Numbers e → (raisable status room : Bool) → is_raisable e ≡ raisable
      → ltb (length (head_of s).waiting) queue_length ≡ room
      → head_of (raise_bytes (raise_by raisable status room) e s) ≡ after_raise (raise_by raisable status room) e (head_of s)
  means_by size w true true room p q = refl
  means_by size w true false true p q =
      raised_means s e size (omega (arith, ltb-true (length (head_of s).waiting) queue_length q, waiting_length s)) (raisable_range e w p)
  means_by size w true false false p q = refl
  means_by size w false status room p q = refl

  pub raises_means : length s ≡ reporter_length → Numbers e
      → head_of (raise_bytes (raise_answer e (head_of s)) e s) ≡ after_raise (raise_answer e (head_of s)) e (head_of s)
  unfolding raise_answer
  raises_means size w =
      means_by size w (is_raisable e) e.entry_type.is_status_entry (ltb (length (head_of s).waiting) queue_length) refl refl

-- ---- Answer

module _ (s : List ℕ) where
  pub opens_length : length (opened_bytes s) ≡ length s
  opens_length = either (opens_in s) (opened_length s) (kept_length s)

  pub opens_means : length s ≡ reporter_length → head_of (opened_bytes s) ≡ opened (head_of s)
  opens_means size = either (opens_in s) (λ e. opened_means s e size) (kept_means s)

  batch_carried : (opened (head_of s)).batch ≡ ring (entry_in s) places (start_of s) (carried_in s)
  batch_carried = either (opens_in s) (λ e. rw (carried_few s e) (batch_opened s e)) (batch_kept s)

  pub carried_small : carried_in s ≤ batch_length
  carried_small = either (opens_in s) (λ e. rw (carried_few s e) (omega arith)) (λ e. rw (carried_open s e) (open_small s))

  pub carried_length : length (opened (head_of s)).batch ≡ carried_in s
  carried_length = rw batch_carried (length_ring (entry_in s) places (start_of s) (carried_in s))

  pub carried_batch : (opened (head_of s)).batch ≡ take (carried_in s) (first_four s)
  carried_batch = batch_carried ∙ sym (ring_take (entry_in s) places (start_of s) (carried_in s) batch_length carried_small)

by_count : (n : ℕ) → 14 + (4 + (34 + 20 * n) + (46 - (4 + (34 + 20 * n)))) ≡ answer_length n
by_count zero = refl
by_count (suc n) = omega arith

pub answer_size : (f : AnswerFields) (h : Head) → length (answer_frame f h) ≡ answer_length (length h.batch)
answer_size f h = answer_octets f h (34 + 20 * length h.batch) (payload_length f h) ∙ by_count (length h.batch)

-- ---- reading a frame

module _ (s : List ℕ) where
  pub reads_length : (r : Result ReadOutcome PowerlinkError) → length (acknowledge_bytes r s) ≡ length s
  reads_length (Ok Closed) = closed_length s
  reads_length (Ok Kept) = refl
  reads_length (Ok Ignored) = refl
  reads_length (Err e) = refl

  pub reads_means : length s ≡ reporter_length → (r : Result ReadOutcome PowerlinkError) → head_of (acknowledge_bytes r s) ≡ after_acknowledge r (head_of s)
  reads_means size (Ok Closed) = closed_means s size
  reads_means size (Ok Kept) = refl
  reads_means size (Ok Ignored) = refl
  reads_means size (Err e) = refl
