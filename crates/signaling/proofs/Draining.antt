-- Takes can be made until one is refused.
-- Assumes nothing.
use Prim.Native.Nat.{ℕ}
use mathlib.Core.Path.{◌≡◌, refl, ap, ◌∙◌}
use mathlib.Core.List.{List, [], ◌∷◌}
use lib.ListN.{length}
use borrow.Author.Tests.{eq-eqb}
use Rattle.std.specs.Prelude.{Ok, Err, Option, Some, None}
use Rattle.error_entry.specs.declared.ErrorEntry.{ErrorEntry}
use Rattle.collector.specs.Layout.{collector_length, account_of, take_bytes}
use Rattle.collector.specs.Rules.{with_book, Account}
use Rattle.collector.specs.declared.TakeError.TheVariants as taking
use Rattle.collector.proofs.Meaning.{register_length, read_length, take_length}
use Rattle.signaling.specs.Calls.{Event, World, Step, raise, answer, head_reads, register, box_reads, request, takes, hosts, Run, fresh, call, Drained, over, more}
use Rattle.signaling.proofs.Callable.{hands}
use Rattle.signaling.proofs.Invariant.{book_of}

-- ---- a box has 5,184 octets

step_size : {i : ℕ} {w v : World} {x : Event} → Step i w x v → length v.box ≡ length w.box
step_size (raise e r after c) = refl
step_size (answer services f r after target written c) = refl
step_size (head_reads services o bs r after d c) = refl
step_size {w} (register j r after c) = ap length c.bytes ∙ register_length r j w.box
step_size {w} (box_reads services o bs r after d c) = ap length c.bytes ∙ read_length services r bs w.box
step_size (request j f r target written c) = refl
step_size {w} (takes j r after c) = ap length c.bytes ∙ take_length r j w.box
step_size (hosts bs told) = refl

pub box_size : {i : ℕ} {w : World} → Run i w → length w.box ≡ collector_length
box_size (fresh before head box m f) = ap length f.bytes
box_size (call r s) = step_size s ∙ box_size r

-- ---- what further Takes hand out is the book

module _ (i : ℕ) where
  draining_place : (es : List ErrorEntry) (p : Account) (b : List ℕ) → p.book ≡ es → length b ≡ collector_length → account_of b i ≡ Some p
      → Drained i b es
  draining_place [] p b is size e = let r = rw (e, is) at (hands b i size) in over (Err taking.NothingBooked) b r.0 refl
  draining_place (x ∷ es) p b is size e =
      let r = rw (e, is) at (hands b i size) in
      more x (take_bytes (Ok x) i b) es r.0
      (draining_place es (with_book es p) (take_bytes (Ok x) i b) refl r.1 (r.0.box.accounts i ∙ rw (eq-eqb i i refl, e, is)))

  pub draining : (o : Option Account) (b : List ℕ) → length b ≡ collector_length → account_of b i ≡ o → Drained i b (book_of o)
  draining None b size e = let r = rw e at (hands b i size) in over (Err taking.NotRegistered) b r.0 refl
  draining (Some p) b size e = draining_place p.book p b refl size e
