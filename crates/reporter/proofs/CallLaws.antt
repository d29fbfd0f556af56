-- What a new head, Raise and a reading promise, from the answer and the octets that it leaves; and the answer, by the tests that lead to it.
-- Assumes nothing.
use Prim.Native.Nat.{ℕ}
use mathlib.Core.Path.{◌≡◌, refl, sym, ap, ◌∙◌}
use mathlib.Core.Bool.{Bool, true, false, not, beq}
use mathlib.Core.List.{List}
use native.Mathlib.Omega.{arith}
use lib.Dec.{ltb}
use lib.ListN.{length}
use borrow.Author.Tests.{eq-eqb, ne_eqb, not-true, not-false}
use Rattle.std.specs.Prelude.{Ok, Err}
use Rattle.types.specs.Nodes.{is_cn_node_id}
use Rattle.types.specs.declared.NodeId.{NodeId}
use Rattle.error_entry.specs.declared.ErrorEntry.{ErrorEntry}
use Rattle.reporter.specs.Calls.{Makes, Numbers, Raises, Acknowledges}
use Rattle.reporter.specs.Layout.{reporter_length, en_of, open_of, waiting_of, head_of, new_bytes, raise_bytes, acknowledge_bytes}
use Rattle.reporter.specs.Rules.{queue_length, new_answer, new_cause, is_raisable, raise_answer, raise_cause, ea_answer}
use Rattle.reporter.specs.declared.RaiseError.TheVariants.{EntryInvalid, StatusEntry, QueueFull}
use Rattle.reporter.specs.declared.ReadOutcome.TheVariants.{Closed, Kept}
use Rattle.reporter.proofs.Meaning.{made, raises_means, reads_means}
use Rattle.reporter.proofs.Ranges.{en_is, waiting_length, batch_empty}
use Rattle.reporter.specs.declared.RaiseError.{RaiseError}
use Rattle.reporter.specs.declared.ReadOutcome.{ReadOutcome}

-- ---- a new head

module _ (i : NodeId) (s : List ℕ) where
  pub makes : (Ok tt) ≡ new_answer i.0 → Makes i (Ok tt) s (new_bytes (Ok tt) i.0 s)
  makes e = record { answer = e; cause = ap new_cause e; head = λ r. made i.0 s; bytes = refl }

  pub id_good : is_cn_node_id i.0 ≡ true → (Ok tt) ≡ new_answer i.0
  id_good h = rw h

-- ---- Raise

module _ (e : ErrorEntry) (s : List ℕ) where
  module _ (b : Bool) (eb : b ≡ is_raisable e) where
    pub raise_invalid : b ≡ false → (Err EntryInvalid) ≡ raise_answer e (head_of s)
    unfolding raise_answer
    raise_invalid h = rw (sym eb ∙ h)

    pub raise_status : b ≡ true → e.entry_type.is_status_entry ≡ true → (Err StatusEntry) ≡ raise_answer e (head_of s)
    unfolding raise_answer
    raise_status h st = rw (sym eb ∙ h, st)

    module _ (h : b ≡ true) (st : e.entry_type.is_status_entry ≡ false) where
      pub raise_full : ltb (waiting_of s) queue_length ≡ false → (Err QueueFull) ≡ raise_answer e (head_of s)
      unfolding raise_answer
      raise_full l = rw (sym eb ∙ h, st, waiting_length s, l)

      pub raise_good : ltb (waiting_of s) queue_length ≡ true → (Ok tt) ≡ raise_answer e (head_of s)
      unfolding raise_answer
      raise_good l = rw (sym eb ∙ h, st, waiting_length s, l)

  module _ (w : Numbers e) where
    pub not_raised : (x : RaiseError) → Err x ≡ raise_answer e (head_of s) → Raises e (Err x) s s
    not_raised x r = record { answer = r; cause = ap raise_cause r; numbers = w; head = refl; bytes = refl }

    pub raised : (after : List ℕ) → length s ≡ reporter_length → (Ok tt) ≡ raise_answer e (head_of s) → after ≡ raise_bytes (Ok tt) e s → Raises e (Ok tt) s after
    raised after size r b =
        record { answer = r; cause = ap raise_cause r; numbers = w; head = ap head_of b ∙ rw (← r) at (raises_means e s size w); bytes = b }

-- ---- reading

module _ (ea : Bool) (s : List ℕ) where
  pub acknowledges : length s ≡ reporter_length → (r : ReadOutcome) → r ≡ ea_answer ea (head_of s) → (after : List ℕ) → after ≡ acknowledge_bytes (Ok r) s → Acknowledges ea r s after
  acknowledges size r e after b = record { answer = e; head = ap head_of b ∙ reads_means s size (Ok r); bytes = b }

  module _ (n : ℕ) (eo : n ≡ open_of s) where
    pub none_open : n ≡ 0 → Kept ≡ ea_answer ea (head_of s)
    unfolding ea_answer
    none_open h = rw (batch_empty s, eq-eqb (open_of s) 0 (omega arith))

    module _ (h : n ≡ 0 → ⊥) (en : Bool) (ee : en ≡ en_of s) where
      pub other_ea : not (beq en ea) ≡ true → Kept ≡ ea_answer ea (head_of s)
      unfolding ea_answer
      other_ea t = rw (batch_empty s, ne_eqb (open_of s) 0 (λ z. h (eo ∙ z)), en_is s, ← ee, not-true (beq en ea) t)

      pub same_ea : not (beq en ea) ≡ false → Closed ≡ ea_answer ea (head_of s)
      unfolding ea_answer
      same_ea t = rw (batch_empty s, ne_eqb (open_of s) 0 (λ z. h (eo ∙ z)), en_is s, ← ee, not-false (beq en ea) t)
