-- No error lost, none twice.
-- Assumes nothing.
use Prim.Native.Nat.{ℕ, ◌≤◌}
use mathlib.Core.Path.{◌≡◌, refl, ap, ◌∙◌}
use mathlib.Core.List.{List, [], ◌∷◌, ◌++◌}
use native.Mathlib.Omega.{arith}
use lib.ListN.{length}
use borrow.Author.Tests.{eq-eqb}
use mathlib.Core.Bool.{true≢false}
use Rattle.std.specs.Prelude.{IsErr, Ok, Option, Some, None}
use Rattle.error_entry.specs.declared.ErrorEntry.{ErrorEntry}
use Rattle.collector.specs.Calls as collector
use Rattle.collector.specs.Layout.{account_of}
use Rattle.collector.specs.Rules.{Account, take_first, take_answer}
use Rattle.signaling.specs.Calls.{accepted, handed_out, ruled, unbooked, node, World, Run, Drained, over, more, TakenTimes, start, next, NoneLost, Demand3}
use Rattle.signaling.proofs.Calls.{why_taken}
use Rattle.signaling.proofs.Draining.{box_size, draining}
use Rattle.signaling.proofs.Invariant.{book_of, place_for, Held}
use Rattle.signaling.proofs.Steps.{held}

-- where a Take is refused, the book is empty
first_refused : (b : List ErrorEntry) → IsErr (take_first b) → b ≡ []
first_refused [] y = refl
first_refused (e ∷ b) y = absurd (true≢false cc)

refused_empty : (o : Option Account) → IsErr (take_answer o) → book_of o ≡ []
refused_empty None y = refl
refused_empty (Some p) y = first_refused p.book y

-- a Take that is not refused hands out the first of the book, and leaves the others
handed_first : (i : ℕ) (e : ErrorEntry) (s after : List ℕ) → collector.Takes (node i) (Ok e) s after
    → book_of (account_of s i) ≡ e ∷ book_of (account_of after i)
handed_first i e s after c =
    let y = why_taken e (account_of s i) c.answer in
    rw (c.box.accounts i, eq-eqb i i refl, y.known) y.first

-- what further Takes hand out is the book
drained_book : {i : ℕ} {s : List ℕ} {es : List ErrorEntry} → Drained i s es → book_of (account_of s i) ≡ es
drained_book {i} (over {s} r after c refused) = refused_empty (account_of s i) (rw c.answer at refused)
drained_book {i} (more {s} e after es c d) =
    handed_first i e s after c ∙ ap (λ (l : List ErrorEntry). e ∷ l) (drained_book d)

-- no more Takes than booked entries are not refused
taken_times : {i n : ℕ} {s : List ℕ} → TakenTimes i n s → n ≤ length (book_of (account_of s i))
taken_times start = omega arith
taken_times {i} (next {s} e after c d) = omega (arith, taken_times d, ap length (handed_first i e s after c))

module _ {i : ℕ} {w : World} (run : Run i w) where
  t : Held i w
  t = held run

  all_kept : (further : List ErrorEntry) → Drained i w.box further
      → handed_out i w.log ++ further ++ (unbooked i w.log ++ (ruled i w.log).waiting) ≡ accepted i w.log
  all_kept further d = rw (← (drained_book d)) t.inv.total

  kept : NoneLost i w
  kept =
      record {
        all = all_kept;
        opening = λ further d. (unbooked i w.log ++ (ruled i w.log).waiting, all_kept further d);
        head = t.head;
        ends = (book_of (place_for i w), draining i (place_for i w) w.box (box_size run) refl);
        most = λ n d. omega (arith, taken_times d, t.inv.room);
      }

pub demand_3 : Demand3
demand_3 = record { holds = λ i w r. kept r }
