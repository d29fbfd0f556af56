-- The steps of a walk find the entries of a payload, and the entries that were written are those of the payload.
-- Assumes nothing.
use Prim.Native.Nat.{ℕ, zero, suc, ◌+◌, ◌-◌, ◌≤◌, ◌<◌}
use mathlib.Core.Path.{◌≡◌, refl, sym, ap, ◌∙◌}
use mathlib.Core.Logic.{◌⊎◌, inl, inr}
use mathlib.Core.List.{List, [], ◌∷◌, ◌++◌, append_assoc}
use native.Mathlib.Omega.{arith}
use lib.ListN.{length, drop, replicate, length-append, length-drop}
use lib.Seq.{drop_at, drop-drop}
use borrow.Author.Tests.{le-leb, lt-leb}
use Rattle.std.proofs.lemmas.Bool.{cases_lt}
use Rattle.std.specs.Prelude.{Option, Some, None}
use Rattle.octets.specs.Numbers.{le_at}
use Rattle.types.specs.Modes.{mode_in}
use Rattle.types.specs.declared.error_mode.ErrorEntryMode.{ErrorEntryMode}
use Rattle.types.specs.declared.error_mode.ErrorEntryMode.TheVariants.{Terminator, ErrorActive, ErrorCleared, EventOccurred}
use Rattle.error_entry.specs.Entry.{entry_type_of, entry_of, entry_bytes}
use Rattle.error_entry.specs.declared.ErrorEntry.{ErrorEntry}
use Rattle.error_entry.proofs.ReadBack.{entry_back_lem}
use Rattle.status_response.specs.ReadBack.{stepped, walked, until_terminator, EachInRange}
use Rattle.status_response.specs.Steps.{entries_bytes, entries_from, entries_in, status_bytes, status_entries, step_at, unless_terminator}
use Rattle.status_response.proofs.Places.{entry_length}
use Rattle.status_response.proofs.StepLaws.{step_none, step_by_mode}
use Rattle.status_response.proofs.WriteLaws.{status_length_lem}

by_mode : (m : ErrorEntryMode) (e : ErrorEntry) (next : ℕ) (more : ℕ → List ErrorEntry)
    → stepped (unless_terminator m (Some (e, next)) None) more ≡ unless_terminator m (e ∷ more next) []
by_mode Terminator e next more = refl
by_mode ErrorActive e next more = refl
by_mode ErrorCleared e next more = refl
by_mode EventOccurred e next more = refl

module _ (s : List ℕ) where
  a_step : (offset : ℕ) → 20 ≤ length s - offset
      → unless_terminator (entry_of (drop offset s)).entry_type.mode (Some ((entry_of (drop offset s)), (offset + 20))) None ≡ step_at s offset
  a_step offset h =
      step_by_mode s offset (drop offset s) (entry_of (drop offset s)) (entry_of (drop offset s)).entry_type.mode _ h refl refl refl refl

  walked_is : (n offset : ℕ) → walked n s offset ≡ entries_in n (drop offset s)
  walked_is zero offset = refl
  walked_is (suc n) offset = cases (walked_is n (offset + 20)) (cases_lt (length s - offset) 20)
    where
      cases : walked n s (offset + 20) ≡ entries_in n (drop (offset + 20) s) → (length s - offset < 20) ⊎ (20 ≤ length s - offset) → walked (suc n) s offset ≡ entries_in (suc n) (drop offset s)
      cases more (inl h) = rw (← step_none s offset h, length-drop offset s, lt-leb 20 (length s - offset) h)
      cases more (inr h) =
          rw (
            ← a_step offset h,
            by_mode (entry_of (drop offset s)).entry_type.mode (entry_of (drop offset s)) (offset + 20) (walked n s),
            more,
            length-drop offset s,
            le-leb 20 (length s - offset) h,
            drop-drop 20 offset s,
          )

-- a bound that is at least the length changes nothing
bound_free : (n m : ℕ) (t : List ℕ) → length t ≤ n → length t ≤ m → entries_in n t ≡ entries_in m t
bound_free zero zero t h k = refl
bound_free zero (suc m) t h k = rw (lt-leb 20 (length t) (omega arith))
bound_free (suc n) zero t h k = rw (lt-leb 20 (length t) (omega arith))
bound_free (suc n) (suc m) t h k =
    rw (bound_free n m (drop 20 t) (simp length-drop (omega arith)) (simp length-drop (omega arith)))

-- the entries from an offset on are that of the step there, and those from the offset after it on
entries_stepped : (s : List ℕ) (offset : ℕ) → entries_from s offset ≡ stepped (step_at s offset) (entries_from s)
unfolding entries_from
entries_stepped s offset =
    bound_free (length s) (suc (length s)) (drop offset s) (simp length-drop (omega arith)) (simp length-drop (omega arith))
    ∙ sym (walked_is s (suc (length s)) offset)
    ∙ same_behind (step_at s offset) (walked (length s) s) (λ next. entries_in (length s) (drop next s)) (walked_is s (length s))
  where
    same_behind : (o : Option (ErrorEntry × ℕ)) (f g : ℕ → List ErrorEntry) → ((next : ℕ) → f next ≡ g next) → stepped o f ≡ stepped o g
    same_behind None f g same = refl
    same_behind (Some (e, next)) f g same = ap (λ (es : List ErrorEntry). e ∷ es) (same next)

pub entries_first : (s : List ℕ) (offset : ℕ) (e : ErrorEntry) (next : ℕ) → step_at s offset ≡ Some (e, next) → entries_from s offset ≡ e ∷ entries_from s next
entries_first s offset e next some = entries_stepped s offset ∙ ap (λ (o : Option (ErrorEntry × ℕ)). stepped o (entries_from s)) some

pub entries_none : (s : List ℕ) (offset : ℕ) → step_at s offset ≡ None → entries_from s offset ≡ []
entries_none s offset none = entries_stepped s offset ∙ ap (λ (o : Option (ErrorEntry × ℕ)). stepped o (entries_from s)) none

pub steps_back : (n : ℕ) (s : List ℕ) → length s ≤ n → walked n s 14 ≡ status_entries s
unfolding status_entries
steps_back n s h =
    walked_is s n 14 ∙ bound_free n (length s) (drop 14 s) (simp length-drop (omega arith)) (simp length-drop (omega arith))

pub walk_back : (s : List ℕ) → entries_from s 14 ≡ status_entries s
unfolding entries_from status_entries
walk_back s = refl

-- the terminator's zeros end the list
zeros_end : (n : ℕ) (behind : List ℕ) → entries_in (suc n) (replicate 20 0 ++ behind) ≡ []
unfolding entry_of entry_type_of le_at mode_in
zeros_end n behind = rw (le-leb 20 (length (replicate 20 0 ++ behind)) (simp length-append (omega arith)))

module _ (behind : List ℕ) where
  entries_are : (n : ℕ) (es : List ErrorEntry) → length es < n → EachInRange es
      → entries_in n (entries_bytes es ++ (replicate 20 0 ++ behind)) ≡ until_terminator es
  entries_are zero es h each = absurd (omega arith)
  entries_are (suc n) [] h each = zeros_end n behind
  entries_are (suc n) (e ∷ es) h each =
      let rest : List ℕ = entries_bytes es ++ (replicate 20 0 ++ behind) in
      rw (
        append_assoc (entry_bytes e) (entries_bytes es) (replicate 20 0 ++ behind),
        le-leb 20 (length (entry_bytes e ++ rest)) (simp length-append (omega (arith, entry_length e))),
        entry_back_lem e rest each.0,
        drop_at (entry_bytes e) rest 20 (entry_length e),
        entries_are n es (omega arith) each.1,
      )

  pub entries_back : (head : List ℕ) (es : List ErrorEntry) → length head ≡ 14 → EachInRange es
      → status_entries (status_bytes head es ++ behind) ≡ until_terminator es
  unfolding status_entries status_bytes
  entries_back head es n each =
      let s : List ℕ = status_bytes head es ++ behind in
      let rest : List ℕ = entries_bytes es ++ (replicate 20 0 ++ behind) in
      let e : s ≡ head ++ rest = simp append_assoc in
      ap (λ (t : List ℕ). entries_in (length s) (drop 14 t)) e
      ∙ ap (entries_in (length s)) (drop_at head rest 14 n)
      ∙ entries_are (length s) es (omega (arith, status_length_lem head es, length-append (status_bytes head es) behind)) each
