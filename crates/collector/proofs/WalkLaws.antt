-- The entries of a payload: no more than its octets, and each of the widths. A walk gives those that are left of it.
-- Assumes nothing.
use Prim.Native.Nat.{ℕ, zero, suc, ◌+◌, ◌≤◌}
use mathlib.Core.Path.{subst, ap, ◌≡◌}
use mathlib.Core.Bool.{Bool, true, false}
use mathlib.Core.List.{List, [], ◌∷◌}
use native.Mathlib.Omega.{arith}
use lib.ListN.{length, drop}
use lib.Seq.{get_or-drop}
use lib.Dec.{leb}
use Rattle.std.proofs.lemmas.Iterator.{YieldsList}
use Rattle.std.proofs.lemmas.Iterator.Consumers.{YieldsList-from_shown}
use Rattle.octets.proofs.NumberBack.{Octets}
use Rattle.types.specs.Codes.{need}
use Rattle.types.specs.declared.error_mode.ErrorEntryMode.{ErrorEntryMode}
use Rattle.types.specs.declared.error_mode.ErrorEntryMode.TheVariants.{Terminator, ErrorActive, ErrorCleared, EventOccurred}
use Rattle.error_entry.specs.Entry.{entry_of}
use Rattle.error_entry.specs.declared.ErrorEntry.{ErrorEntry}
use Rattle.status_response.specs.ReadBack.{EachInRange}
use Rattle.status_response.specs.Steps.{Walks, left_of, entries_in, entries_from, status_entries, unless_terminator}
use Rattle.status_response.specs.declared.walk.EntryWalk.{EntryWalk}
use Rattle.records.proofs.RecordLaws.{in_range}

few_if : (b : Bool) (m : ErrorEntryMode) (n : ℕ) (es : List ErrorEntry) → length es ≤ n → length (need b [] (unless_terminator m es [])) ≤ n
few_if false m n es few = omega arith
few_if true Terminator n es few = omega arith
few_if true ErrorActive n es few = few
few_if true ErrorCleared n es few = few
few_if true EventOccurred n es few = few

few_in : (n : ℕ) (t : List ℕ) → length (entries_in n t) ≤ n
few_in zero t = omega arith
few_in (suc n) t =
    few_if (leb 20 (length t)) (entry_of t).entry_type.mode (suc n) (entry_of t ∷ entries_in n (drop 20 t)) (omega (arith, few_in n (drop 20 t)))

pub entries_few : (s : List ℕ) (offset : ℕ) → length (entries_from s offset) ≤ length s
unfolding entries_from
entries_few s offset = few_in (length s) (drop offset s)

pub status_few : (s : List ℕ) → length (status_entries s) ≤ length s
unfolding status_entries
status_few s = few_in (length s) (drop 14 s)

each_if : (b : Bool) (m : ErrorEntryMode) (es : List ErrorEntry) → EachInRange es → EachInRange (need b [] (unless_terminator m es []))
each_if false m es each = tt
each_if true Terminator es each = tt
each_if true ErrorActive es each = each
each_if true ErrorCleared es each = each
each_if true EventOccurred es each = each

each_in : (n : ℕ) (t : List ℕ) → Octets t → EachInRange (entries_in n t)
each_in zero t o = tt
each_in (suc n) t o =
    each_if (leb 20 (length t)) (entry_of t).entry_type.mode (entry_of t ∷ entries_in n (drop 20 t))
    (in_range t o, each_in n (drop 20 t) (λ i. rw (get_or-drop 20 t i 0) (o (20 + i))))

pub entries_in_range : (s : List ℕ) → Octets s → EachInRange (status_entries s)
unfolding status_entries
entries_in_range s o = each_in (length s) (drop 14 s) (λ i. rw (get_or-drop 14 s i 0) (o (14 + i)))

pub walk_yields : (w : EntryWalk) (es : List ErrorEntry) → left_of w ≡ es → YieldsList Walks (λ e. e) w es
walk_yields w es is =
    subst (YieldsList Walks (λ e. e) w) is (YieldsList-from_shown _ (λ e. e) left_of (λ v u h. ap length h.0.0) (λ v e u h. h.0) w)
