-- A write to the front of the rest of a list is a write of the whole, and so it is of a record.
-- Assumes nothing.
use Prim.Native.Nat.{ℕ, ◌+◌, ◌-◌, ◌≤◌, ◌<◌}
use mathlib.Core.Path.{◌≡◌, refl, ap, ◌∙◌}
use mathlib.Core.Bool.{Bool, true, false}
use mathlib.Core.List.{List}
use native.Mathlib.Nat.{add-zero}
use native.Mathlib.Omega.{arith}
use lib.Dec.{leb}
use lib.ListN.{length, drop, length-drop}
use lib.Seq.{sets, length-take-le}
use borrow.Author.Tests.{leb-true, leb-false, le-leb, lt-leb}
use borrow.Rule.Slice.PartMut.{mid_of, put_mid, put_same}
use Rattle.std.specs.Prelude.{Result, Err}
use Rattle.types.specs.declared.hal.PowerlinkError.TheVariants.{BufferTooShort}
use Rattle.section.specs.Write.{write_answer, overwritten, Writes}
use Rattle.error_entry.specs.Entry.{entry_bytes}
use Rattle.error_entry.specs.declared.ErrorEntry.{ErrorEntry}
use Rattle.records.specs.Records.{entry_length, with_record, PutsRecord}
use Rattle.records.proofs.RecordLaws.{bytes_length}
use Rattle.error_entry.proofs.Places as places
use Rattle.types.specs.declared.hal.PowerlinkError.{PowerlinkError}

pub sets_rest : (at : ℕ) (t vs : List ℕ) → at ≤ length t → put_mid at (length t - at) t (sets (mid_of at (length t - at) t) 0 vs) ≡ sets t at vs
sets_rest at t vs h = places.sets_rest_from at 0 t vs h ∙ ap (λ (k : ℕ). sets t k vs) (add-zero at)

-- what a writer of an entry's octets leaves of the rest of a store is what putting its record leaves of the store
module _ (s : List ℕ) (at : ℕ) (e : ErrorEntry) where
  pub put_none : length s < at → PutsRecord at e (Err BufferTooShort) s s
  unfolding with_record
  put_none h = let f = lt-leb (at + entry_length) (length s) (omega arith) in record { answer = rw f; cause = rw f; holds = rw f }

  pub put_rest : (r : Result ℕ PowerlinkError) (u : List ℕ) → at ≤ length s → Writes (entry_bytes e) r (mid_of at (length s - at) s) u
      → PutsRecord at e r s (put_mid at (length s - at) s u)
  unfolding with_record write_answer overwritten
  put_rest r u h w = split (leb (at + entry_length) (length s)) refl
    where
      rest : length (mid_of at (length s - at) s) ≡ length s - at
      rest = length-take-le (length s - at) (drop at s) (simp length-drop (omega arith))

      split : (b : Bool) → leb (at + entry_length) (length s) ≡ b → PutsRecord at e r s (put_mid at (length s - at) s u)
      split true k =
          let l : length (entry_bytes e) ≤ length (mid_of at (length s - at) s) = omega (arith, bytes_length e, rest, leb-true (at + entry_length) (length s) k) in
          let put : put_mid at (length s - at) s u ≡ sets s at (entry_bytes e) =
          ap (put_mid at (length s - at) s) (places.writes_sets (entry_bytes e) (mid_of at (length s - at) s) r u w l) ∙ sets_rest at s (entry_bytes e) h in
          record {
            answer = w.answer ∙ rw (le-leb _ _ l, k, bytes_length e);
            cause = w.cause ∙ rw (le-leb _ _ l, k, bytes_length e);
            holds = put ∙ rw k;
          }
      split false k =
          let l : length (mid_of at (length s - at) s) < length (entry_bytes e) = omega (arith, bytes_length e, rest, leb-false (at + entry_length) (length s) k) in
          let stays : u ≡ mid_of at (length s - at) s = w.holds ∙ rw (lt-leb _ _ l) in
          record {
            answer = w.answer ∙ rw (lt-leb _ _ l, k);
            cause = w.cause ∙ rw (lt-leb _ _ l, k);
            holds = ap (put_mid at (length s - at) s) stays ∙ put_same at (length s - at) s ∙ rw k;
          }
