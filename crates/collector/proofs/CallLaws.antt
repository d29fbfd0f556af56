-- What each call promises, from its answer and the octets that it leaves.
-- Assumes nothing.
use Prim.Native.Nat.{ℕ, ◌≤◌, ◌<◌}
use mathlib.Core.Path.{◌≡◌, refl, ap, ◌∙◌}
use mathlib.Core.List.{List}
use lib.ListN.{length}
use Rattle.collector.proofs.AnswerLaws.{take_unknown, take_nothing, take_one}
use Rattle.std.specs.Prelude.{Result, Ok, Err, Some, None}
use Rattle.octets.proofs.NumberBack.{Octets}
use Rattle.types.specs.declared.NodeId.{NodeId}
use Rattle.types.specs.declared.hal.PowerlinkError.{PowerlinkError}
use Rattle.status_response.specs.Fields.{read_fields}
use Rattle.status_response.specs.declared.fields.StatusFields.{StatusFields}
use Rattle.collector.specs.Calls.{Registers, Reads, Requests, Takes, ReadsStatus, Books}
use Rattle.collector.specs.Layout.{collector_length, slot_of, account_in, account_of, box_of, register_bytes, response_bytes, take_bytes}
use Rattle.collector.specs.Rules.{heads, register_answer, register_cause, en_in, status_payload, book_answer, said_in, account_answer, read_answer, read_cause, request_answer, request_cause, after_request, take_answer, take_cause, response_in, booked_entries}
use Rattle.collector.specs.declared.ReadError.TheVariants.{Frame, NotStatusResponse, NotRegistered}
use Rattle.collector.specs.declared.RegisterError.TheVariants.{IdOutOfRange}
use Rattle.collector.specs.declared.RequestFields.{RequestFields}
use Rattle.collector.proofs.IdLaws.{place_none, place_some}
use Rattle.collector.proofs.Meaning.{register_means, same_box, take_means, read_means, request_size}
use Rattle.collector.specs.declared.RegisterError.{RegisterError}
use Rattle.collector.specs.declared.RequestError.{RequestError}
use Rattle.error_entry.specs.declared.ErrorEntry.{ErrorEntry}
use Rattle.collector.specs.declared.TakeError.{TakeError}
use Rattle.collector.specs.declared.ReadOutcome.{ReadOutcome}
use Rattle.collector.specs.declared.ReadError.{ReadError}

-- ---- register

pub registers : (i : NodeId) (r : Result Unit RegisterError) (s after : List ℕ) → length s ≡ collector_length → r ≡ register_answer i.0 (box_of s)
    → after ≡ register_bytes r i.0 s → Registers i r s after
registers i r s after size a b =
    record { answer = a; cause = ap register_cause a; box = rw (b, a) (register_means s size i.0); bytes = b }

-- an ID that no controlled node has
pub registers_none : (i : NodeId) (s : List ℕ) → (Err IdOutOfRange) ≡ register_answer i.0 (box_of s) → Registers i (Err IdOutOfRange) s s
registers_none i s a = record { answer = a; cause = ap register_cause a; box = same_box (box_of s); bytes = refl }

-- ---- take

pub takes : (i : NodeId) (r : Result ErrorEntry TakeError) (s after : List ℕ) → length s ≡ collector_length → r ≡ take_answer (account_of s i.0)
    → after ≡ take_bytes r i.0 s → Takes i r s after
takes i r s after size a b =
    record { answer = a; cause = ap take_cause a; box = rw (b, a) (take_means s size i.0); bytes = b }

-- ---- read

pub reads : (services s : List ℕ) → length s ≡ collector_length → (f : List ℕ) → Octets f → (r : Result ReadOutcome ReadError) (after : List ℕ)
    → r ≡ read_answer services f (box_of s) → after ≡ response_bytes services r f s → Reads services f r s after
reads services s size f octets r after a b =
    record { answer = a; cause = ap read_cause a; box = rw (b, a) (read_means s size services f octets); bytes = b }

module _ (s : List ℕ) (source : ℕ) (payload : List ℕ) where
  pub status_unknown : heads ≤ slot_of s source → ReadsStatus source payload (Err NotRegistered) s s
  status_unknown h = record { answer = rw (place_none s source h); bytes = refl }

  module _ (known : slot_of s source < heads) where
    pub status_refused : (e : PowerlinkError) → Err e ≡ read_fields payload → ReadsStatus source payload (Err (Frame e)) s s
    status_refused e is = record { answer = rw (place_some s source known, ← is); bytes = refl }

    pub status_books : (f : StatusFields) → Ok f ≡ read_fields payload → (k : ℕ) → k ≡ slot_of s source → (r : Result ReadOutcome ReadError) (after : List ℕ)
        → Books k f.en_flag payload r s after → ReadsStatus source payload r s after
    status_books f is k at r after b =
        record {
          answer = rw (place_some s source known, ← is)
              (b.answer ∙ ap (λ (j : ℕ). book_answer f.en_flag (booked_entries payload) (account_in s j)) at);
          bytes = b.bytes ∙ rw (at, ap en_in is);
        }

module _ (services s f : List ℕ) where
  pub reads_refused : (e : PowerlinkError) → Err e ≡ response_in services f → Reads services f (Err (Frame e)) s s
  unfolding read_answer
  reads_refused e is =
      let a : Err (Frame e) ≡ read_answer services f (box_of s) = rw (← is) in
      record { answer = a; cause = ap read_cause a; box = same_box (box_of s); bytes = refl }

  pub reads_other : (Ok None) ≡ response_in services f → Reads services f (Err NotStatusResponse) s s
  unfolding read_answer
  reads_other is =
      let a : (Err NotStatusResponse) ≡ read_answer services f (box_of s) = rw (← is) in
      record { answer = a; cause = ap read_cause a; box = same_box (box_of s); bytes = refl }

  pub reads_status : length s ≡ collector_length → Octets f → (source : NodeId) → Ok (Some source) ≡ response_in services f
      → (payload : List ℕ) → payload ≡ status_payload f → (r : Result ReadOutcome ReadError) (after : List ℕ) → ReadsStatus source.0 payload r s after
      → Reads services f r s after
  unfolding read_answer
  reads_status size octets source is payload from r after b =
      reads services s size f octets r after
      (rw (← is) (b.answer ∙ ap (λ (p : List ℕ). account_answer (said_in p) (account_of s source.0)) from))
      (b.bytes ∙ rw (from, ← is))

-- ---- request

pub requests : (i : NodeId) (f : RequestFields) → length f.source_mac.0 ≡ 6 → (r : Result ℕ RequestError) (s target written : List ℕ)
    → r ≡ request_answer i.0 f target (account_of s i.0) → written ≡ after_request i.0 f target (account_of s i.0) → Requests i f r s target written
requests i f six r s target written a h =
    record { answer = a; cause = ap request_cause a; source = six; size = λ ea. request_size i.0 f ea; holds = h }

pub ruleset take_laws = (takes, take_unknown, take_nothing, take_one)
