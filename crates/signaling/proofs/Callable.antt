-- Every call can be made in a state of the right length: what its rule answers, and the octets that it then leaves, meet its contract.
-- Assumes nothing.
use Prim.Native.Nat.{ℕ}
use mathlib.Core.Bool.{Bool, true, false}
use mathlib.Core.Path.{◌≡◌, refl, sym, ap, ◌∙◌}
use mathlib.Core.List.{List, [], ◌∷◌}
use lib.ListN.{length}
use lib.Dec.{leb}
use Rattle.std.specs.Prelude.{Result, Ok, Err}
use Rattle.octets.proofs.NumberBack.{Octets}
use Rattle.types.specs.Causes.{row}
use Rattle.types.specs.Codes.{pick}
use Rattle.types.specs.declared.hal.PowerlinkError.TheVariants.{BufferTooShort}
use Rattle.types.specs.declared.hal.PowerlinkError.{PowerlinkError}
use Rattle.section.specs.Write.{write_answer, overwritten, write_cause, octets, Serializes}
use Rattle.codec.specs.Frame.{read_frame}
use Rattle.error_entry.specs.declared.ErrorEntry.{ErrorEntry}
use Rattle.reporter.specs.Calls as reporter
use Rattle.reporter.specs.Calls.{Numbers, AnswerSizes}
use Rattle.reporter.specs.Layout.{reporter_length, head_of, new_bytes, raise_bytes, answer_bytes, acknowledge_bytes}
use Rattle.reporter.specs.Rules.{new_answer, new_cause, raise_answer, opened, answer_frame, after_answer, acknowledge_answer, ea_told}
use Rattle.reporter.specs.declared.AnswerFields.{AnswerFields}
use Rattle.reporter.proofs.AnyTable.{any_table}
use Rattle.reporter.proofs.Meaning.{answer_size, made, new_length, raises_length, raises_means, opens_length, opens_means, reads_length, reads_means}
use Rattle.reporter.proofs.Rows.{read_row as head-row}
use Rattle.collector.specs.Calls as collector
use Rattle.collector.specs.Layout as layout
use Rattle.collector.specs.Layout.{collector_length, box_of, account_of, fresh_bytes, register_bytes, take_bytes}
use Rattle.collector.specs.Rules.{register_answer, read_answer, request_answer, after_request, take_answer}
use Rattle.collector.specs.declared.RequestFields.{RequestFields}
use Rattle.collector.proofs.Meaning.{fresh_means, register_means, register_length, read_means, read_length, request_size, take_means, take_length}
use Rattle.signaling.specs.Calls.{node}

-- ---- the head's calls

pub makes : (i : ℕ) (s : List ℕ) → new_answer i ≡ Ok tt
    → reporter.Makes (node i) (Ok tt) s (new_bytes (Ok tt) i s)
    × (length (new_bytes (Ok tt) i s) ≡ reporter_length)
makes i s ok = (record { answer = sym ok; cause = ap new_cause (sym ok); head = λ e. made i s; bytes = refl }, new_length i s)

pub raises : (s : List ℕ) (e : ErrorEntry) → length s ≡ reporter_length → Numbers e
    → reporter.Raises e (raise_answer e (head_of s)) s (raise_bytes (raise_answer e (head_of s)) e s)
    × (length (raise_bytes (raise_answer e (head_of s)) e s) ≡ reporter_length)
raises s e size n = (
  record {
    answer = refl;
    cause = refl;
    numbers = n;
    head = raises_means e s size n;
    bytes = refl;
  },
  raises_length e s (raise_answer e (head_of s)) ∙ size,
)

by_test : (b : Bool) (n : ℕ) → write_cause (pick b (Ok n) (Err BufferTooShort)) ≡ pick b (row 0 (n ∷ [])) (row 1 [])
by_test true n = refl
by_test false n = refl

writes : (bs target : List ℕ) → Serializes (octets bs) (write_answer bs target) target (overwritten bs target)
unfolding write_answer
writes bs target = record { answer = refl; cause = by_test (leb (length bs) (length target)) (length bs); holds = refl }

module _ (s : List ℕ) (size : length s ≡ reporter_length) where
  answer_length : (r : Result ℕ PowerlinkError) → length (answer_bytes r s) ≡ reporter_length
  answer_length (Ok n) = opens_length s ∙ size
  answer_length (Err e) = size

  answer_means : (r : Result ℕ PowerlinkError) → head_of (answer_bytes r s) ≡ after_answer r (head_of s)
  answer_means (Ok n) = opens_means s size
  answer_means (Err e) = refl

pub answers : (services s : List ℕ) (f : AnswerFields) → AnswerSizes f → (target : List ℕ) → length s ≡ reporter_length
    → reporter.Answers services f (write_answer (answer_frame f (opened (head_of s))) target) s
    (answer_bytes (write_answer (answer_frame f (opened (head_of s))) target) s)
    target
    (overwritten (answer_frame f (opened (head_of s))) target)
    × (length (answer_bytes (write_answer (answer_frame f (opened (head_of s))) target) s) ≡ reporter_length)
answers services s f sizes target size =
    let r = write_answer (answer_frame f (opened (head_of s))) target in (
      record {
        writes = rw (any_table.answer services f (opened (head_of s))) (writes (answer_frame f (opened (head_of s))) target);
        size = answer_size f (opened (head_of s));
        sizes = sizes;
        head = answer_means s size r;
        bytes = refl;
      },
      answer_length s size r,
    )

pub hears : (services s bs : List ℕ) → length s ≡ reporter_length
    → reporter.Reads services bs (acknowledge_answer (ea_told services (head_of s).id bs) (head_of s)) s
    (acknowledge_bytes (acknowledge_answer (ea_told services (head_of s).id bs) (head_of s)) s)
    × (length (acknowledge_bytes (acknowledge_answer (ea_told services (head_of s).id bs) (head_of s)) s) ≡ reporter_length)
hears services s bs size =
    let r = acknowledge_answer (ea_told services (head_of s).id bs) (head_of s) in
    (record { answer = refl; cause = head-row (head_of s).id (read_frame services bs) (head_of s); head = reads_means s size r; bytes = refl }, reads_length s r ∙ size)

-- ---- the box's calls

pub freshes : collector.Fresh fresh_bytes
freshes = record { box = fresh_means; bytes = refl }

pub registers : (s : List ℕ) (i : ℕ) → length s ≡ collector_length
    → collector.Registers (node i) (register_answer i (box_of s)) s (register_bytes (register_answer i (box_of s)) i s)
    × (length (register_bytes (register_answer i (box_of s)) i s) ≡ collector_length)
registers s i size =
    (record { answer = refl; cause = refl; box = register_means s size i; bytes = refl }, register_length (register_answer i (box_of s)) i s ∙ size)

-- the frame's octets are asked to be octets, since its entries are kept as octets
pub books : (services s bs : List ℕ) → length s ≡ collector_length → Octets bs
    → collector.Reads services bs (read_answer services bs (box_of s)) s (layout.response_bytes services (read_answer services bs (box_of s)) bs s)
    × (length (layout.response_bytes services (read_answer services bs (box_of s)) bs s) ≡ collector_length)
books services s bs size each = (
  record { answer = refl; cause = refl; box = read_means s size services bs each; bytes = refl },
  read_length services (read_answer services bs (box_of s)) bs s ∙ size,
)

pub asks : (s : List ℕ) (i : ℕ) (f : RequestFields) → length f.source_mac.0 ≡ 6 → (target : List ℕ)
    → collector.Requests (node i) f (request_answer i f target (account_of s i)) s target (after_request i f target (account_of s i))
asks s i f six target = record { answer = refl; cause = refl; source = six; size = request_size i f; holds = refl }

pub hands : (s : List ℕ) (i : ℕ) → length s ≡ collector_length
    → collector.Takes (node i) (take_answer (account_of s i)) s (take_bytes (take_answer (account_of s i)) i s)
    × (length (take_bytes (take_answer (account_of s i)) i s) ≡ collector_length)
hands s i size = (record { answer = refl; cause = refl; box = take_means s size i; bytes = refl }, take_length (take_answer (account_of s i)) i s ∙ size)
