-- What is booked of a payload: laws of leaving status entries out, and of the entries that join a book one by one.
-- Assumes nothing.
use Prim.Native.Nat.{ℕ, ◌+◌, ◌≤◌}
use mathlib.Core.Path.{◌≡◌, refl}
use mathlib.Core.Bool.{Bool, true, false, not}
use mathlib.Core.List.{List, [], ◌∷◌}
use native.Mathlib.Omega.{arith}
use lib.ListN.{length}
use Rattle.std.specs.List.{filter}
use borrow.Table.Steps.{cases as either}
use Rattle.octets.proofs.NumberBack.{Octets}
use Rattle.types.specs.Codes.{pick}
use Rattle.error_entry.specs.declared.ErrorEntry.{ErrorEntry}
use Rattle.status_response.specs.ReadBack.{EachInRange}
use Rattle.status_response.specs.Steps.{status_entries}
use Rattle.collector.specs.Layout.{count_in, pushed_all}
use Rattle.collector.specs.Rules.{bookable, booked_entries, book_length}
use Rattle.collector.proofs.WalkLaws.{entries_in_range}

pub bookable_filter : (l : List ErrorEntry) → filter (λ e. not e.entry_type.is_status_entry) l ≡ bookable l
bookable_filter [] = refl
bookable_filter (e ∷ l) =
    either e.entry_type.is_status_entry (λ y. rw (y, bookable_filter l)) (λ y. rw (y, bookable_filter l))

pub bookable_few : (l : List ErrorEntry) → length (bookable l) ≤ length l
bookable_few [] = omega arith
bookable_few (e ∷ l) =
    either e.entry_type.is_status_entry (λ y. rw y (omega (arith, bookable_few l))) (λ y. rw y (omega (arith, bookable_few l)))

pick_range : (b : Bool) (l m : List ErrorEntry) → EachInRange l → EachInRange m → EachInRange (pick b l m)
pick_range true l m y z = y
pick_range false l m y z = z

bookable_range : (l : List ErrorEntry) → EachInRange l → EachInRange (bookable l)
bookable_range [] y = tt
bookable_range (e ∷ l) y =
    let z = bookable_range l y.1 in
    pick_range e.entry_type.is_status_entry (bookable l) (e ∷ bookable l) z (y.0, z)

pub booked_in_range : (s : List ℕ) → Octets s → EachInRange (booked_entries s)
unfolding booked_entries
booked_in_range s o = bookable_range (status_entries s) (entries_in_range s o)

-- ---- entries join a book one by one: t is the state that all have joined

module _ (k : ℕ) (t : List ℕ) where
  -- those that are left to join s, for which there is room
  abbrev pub Joins : List ℕ → List ErrorEntry → Type 0
  Joins s es = (pushed_all s k (bookable es) ≡ t) × (count_in s k + length (bookable es) ≤ book_length)
