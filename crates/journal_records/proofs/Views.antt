-- The cases of a step: what is known of the octets in each.
-- Assumes nothing.
use Prim.Native.Nat.{ℕ, ◌≤◌, ◌<◌}
use mathlib.Core.Bool.{Bool, true, false, true≢false}
use mathlib.Core.Path.{◌≡◌, refl}
use mathlib.Core.List.{List}
use lib.Dec.{leb, ltb, eqb}
use lib.ListN.{length}
use native.Mathlib.Omega.{arith}
use borrow.Author.Tests.{leb-true, leb-false, ltb-true, ltb-false, eqb-true, eqb-false}
use borrow.Author.Clash.{clash<}
use Rattle.std.specs.Prelude.{Ok, Err}
use Rattle.octets.specs.Numbers.{le_at}
use Rattle.journal_records.specs.Listing.{node_of, recorded_entry, version1, header_line, fields_line, marked}
use Rattle.journal_records.specs.Parts.{Piece, stopped, refusal, one_line, header_step, record_step, phase_step, needed, awaits, ended, step_of}
use Rattle.journal_records.specs.Record.{valid_record}
use Rattle.journal_records.specs.declared.listing.ListError.TheVariants.{BufferTooShort, NotAJournal, UnknownVersion, RecordInvalid}
use Rattle.journal_records.specs.declared.listing.Stop.TheVariants.{More, End}
use Rattle.journal_records.specs.declared.listing.Phase.{Phase}
use Rattle.journal_records.specs.declared.listing.Phase.TheVariants.{Header, Records}
use Rattle.journal_records.proofs.StepLaws.{header_cut, header_unmarked, header_version, header_good, record_cut, record_fault, record_good, step_waits, step_ends, step_full, step_by}

-- a step that writes a line
pub data Lined : Phase → List ℕ → Bool → Piece → Type 0 where
  head_cut : {s : List ℕ} → length s < 5 → Lined Header s true (refusal NotAJournal Header)
  unmarked : {s : List ℕ} {last : Bool} → 5 ≤ length s → marked s ≡ false → Lined Header s last (refusal NotAJournal Header)
  other_version : {s : List ℕ} {last : Bool} → 5 ≤ length s → marked s ≡ true → (le_at 2 3 s ≡ 1 → ⊥) → Lined Header s last (refusal UnknownVersion Header)
  head_good : {s : List ℕ} {last : Bool} → 5 ≤ length s → marked s ≡ true → le_at 2 3 s ≡ 1 → Lined Header s last (one_line 5 (header_line version1))
  short : {s : List ℕ} → length s < 21 → (length s ≡ 0 → ⊥) → Lined Records s true (refusal RecordInvalid Records)
  fault : {s : List ℕ} {last : Bool} → 21 ≤ length s → valid_record (node_of s) (recorded_entry s) ≡ false → Lined Records s last (refusal RecordInvalid Records)
  good : {s : List ℕ} {last : Bool} → 21 ≤ length s → valid_record (node_of s) (recorded_entry s) ≡ true
      → Lined Records s last (one_line 21 (fields_line (node_of s) (recorded_entry s)))

pub data View : Phase → List ℕ → Bool → ℕ → Piece → Type 0 where
  waits : {p : Phase} {s : List ℕ} {room : ℕ} → length s < needed p → View p s false room (stopped (Ok More) p)
  ends : {s : List ℕ} {room : ℕ} → length s ≡ 0 → View Records s true room (stopped (Ok End) Records)
  full : {p : Phase} {s : List ℕ} {last : Bool} {room : ℕ} → room < 55 → View p s last room (stopped (Err BufferTooShort) p)
  lined : {p : Phase} {s : List ℕ} {last : Bool} {room : ℕ} {q : Piece} → 55 ≤ room → Lined p s last q → View p s last room q

seen : {p : Phase} {s : List ℕ} {last : Bool} {q q' : Piece} → q ≡ q' → Lined p s last q' → Lined p s last q
seen e h = rw e h

header_view : (s : List ℕ) (last : Bool) → (last ≡ false → 5 ≤ length s) → Lined Header s last (header_step s)
header_view s last enough = by_length (leb 5 (length s)) refl last enough
  where
    by_version : (b last : Bool) → 5 ≤ length s → marked s ≡ true → eqb (le_at 2 3 s) 1 ≡ b → Lined Header s last (header_step s)
    by_version true last l m e = seen (header_good s l m (eqb-true _ _ e)) (head_good l m (eqb-true _ _ e))
    by_version false last l m e = seen (header_version s l m (eqb-false _ _ e)) (other_version l m (eqb-false _ _ e))

    by_mark : (b last : Bool) → 5 ≤ length s → marked s ≡ b → Lined Header s last (header_step s)
    by_mark true last l m = by_version (eqb (le_at 2 3 s) 1) last l m refl
    by_mark false last l m = seen (header_unmarked s l m) (unmarked l m)

    by_length : (b : Bool) → leb 5 (length s) ≡ b → (last : Bool) → (last ≡ false → 5 ≤ length s) → Lined Header s last (header_step s)
    by_length true e last f = by_mark (marked s) last (leb-true _ _ e) refl
    by_length false e true f = seen (header_cut s (leb-false _ _ e)) (head_cut (leb-false _ _ e))
    by_length false e false f = clash< _ _ (leb-false _ _ e) (f refl)

record_view : (s : List ℕ) (last : Bool) → (last ≡ false → 21 ≤ length s) → (length s ≡ 0 → ⊥) → Lined Records s last (record_step s)
record_view s last enough some = by_length (leb 21 (length s)) refl last enough
  where
    by_fault : (b last : Bool) → 21 ≤ length s → valid_record (node_of s) (recorded_entry s) ≡ b → Lined Records s last (record_step s)
    by_fault true last l e = seen (record_good s l e) (good l e)
    by_fault false last l e = seen (record_fault s l e) (fault l e)

    by_length : (b : Bool) → leb 21 (length s) ≡ b → (last : Bool) → (last ≡ false → 21 ≤ length s) → Lined Records s last (record_step s)
    by_length true e last f = by_fault (valid_record (node_of s) (recorded_entry s)) last (leb-true _ _ e) refl
    by_length false e true f = seen (record_cut s (leb-false _ _ e)) (short (leb-false _ _ e) some)
    by_length false e false f = clash< _ _ (leb-false _ _ e) (f refl)

-- a step that has octets enough
module _ (s : List ℕ) (last : Bool) (room : ℕ) where
  line_view : (p : Phase) → awaits p (length s) last ≡ false → ended p (length s) ≡ false → Lined p s last (phase_step p s)
      → View p s last room (step_of p s last room)
  line_view p a e l = by_room (leb 55 room) refl
    where
      by_room : (b : Bool) → leb 55 room ≡ b → View p s last room (step_of p s last room)
      by_room true r = rw (step_by p s last room a e p (leb-true _ _ r) refl) (lined (leb-true _ _ r) l)
      by_room false r = rw (step_full p s last room a e (leb-false _ _ r)) (full (leb-false _ _ r))

  end_view : awaits Records (length s) last ≡ false → (last ≡ false → 21 ≤ length s) → View Records s last room (step_of Records s last room)
  unfolding ended
  end_view a enough = by_end (eqb (length s) 0) refl
    where
      at_end : (last' : Bool) → last ≡ last' → length s ≡ 0 → View Records s last room (stopped (Ok End) Records)
      at_end true l z = rw l (ends z)
      at_end false l z = let y : ⊥ = omega (arith, enough l) in absurd y

      by_end : (b : Bool) → eqb (length s) 0 ≡ b → View Records s last room (step_of Records s last room)
      by_end true e = rw (step_ends Records s last room a e) (at_end last refl (eqb-true _ _ e))
      by_end false e = line_view Records a e (record_view s last enough (eqb-false _ _ e))

  enough_view : (p : Phase) → awaits p (length s) last ≡ false → (last ≡ false → needed p ≤ length s) → View p s last room (step_of p s last room)
  unfolding version1 ended
  enough_view Header a enough = line_view Header a refl (header_view s last enough)
  enough_view Records a enough = end_view a enough

pub view : (p : Phase) (s : List ℕ) (last : Bool) (room : ℕ) → View p s last room (step_of p s last room)
unfolding awaits
view p s true room = enough_view s true room p refl (λ e. absurd (true≢false cc))
view p s false room = by_length (ltb (length s) (needed p)) refl
  where
    by_length : (b : Bool) → ltb (length s) (needed p) ≡ b → View p s false room (step_of p s false room)
    by_length true e = rw (step_waits p s false room e) (waits (ltb-true _ _ e))
    by_length false e = enough_view s false room p e (λ f. ltb-false _ _ e)
