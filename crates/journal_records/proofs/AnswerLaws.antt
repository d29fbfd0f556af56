-- What an answer comes to where octets were dealt with before.
-- Assumes nothing.
use Prim.Native.Nat.{ℕ, zero, suc, ◌+◌, ◌≤◌}
use mathlib.Core.Bool.{Bool, true, false, true≢false}
use mathlib.Core.Path.{◌≡◌, refl, sym, ap, ◌∙◌}
use native.Mathlib.Nat.{zero-add, add-zero}
use native.Mathlib.Omega.{arith}
use lib.Dec.{eqb}
use borrow.Author.Tests.{eq-eqb, ne_eqb}
use Rattle.std.specs.Prelude.{Result, Ok, Err}
use Rattle.types.specs.Codes.{pick}
use Rattle.journal_records.specs.Parts.{list_cause, later, answer_after, goes_on, crowded}
use Rattle.journal_records.specs.declared.listing.ListError.TheVariants.{BufferTooShort, NotAJournal, UnknownVersion, RecordInvalid}
use Rattle.journal_records.specs.declared.listing.Stop.TheVariants.{More, Full, End}
use Rattle.journal_records.specs.declared.listing.Stop.{Stop}
use Rattle.journal_records.specs.declared.listing.ListError.{ListError}

-- what a later answer keeps
record Kept (a : Result Stop ListError) : Type 0 where
  twice : later (later a) ≡ later a
  on : goes_on (later a) ≡ goes_on a
  room : crowded (later a) ≡ crowded a
  more : later a ≡ Ok More → a ≡ Ok More
  end : later a ≡ Ok End → a ≡ Ok End
  refused : 17 ≤ (list_cause (later a)).number → later a ≡ a
  never : later a ≡ Err BufferTooShort → ⊥

other : {a : (Result Stop ListError)} → a ≡ Err BufferTooShort → crowded a ≡ false → ⊥
other e f = true≢false (sym (ap crowded e) ∙ f)

kept : (a : Result Stop ListError) → Kept a
kept (Ok More) = record { twice = refl; on = refl; room = refl; more = λ e. refl; end = λ e. (cc); refused = λ h. refl; never = λ e. other e refl }
kept (Ok Full) = record { twice = refl; on = refl; room = refl; more = λ e. (cc); end = λ e. (cc); refused = λ h. refl; never = λ e. true≢false cc }
kept (Ok End) = record { twice = refl; on = refl; room = refl; more = λ e. (cc); end = λ e. refl; refused = λ h. refl; never = λ e. other e refl }
kept (Err BufferTooShort) = record { twice = refl; on = refl; room = refl; more = λ e. (cc); end = λ e. (cc); refused = λ h. let z : ⊥ = omega arith in absurd z; never = λ e. true≢false cc }
kept (Err NotAJournal) = record { twice = refl; on = refl; room = refl; more = λ e. (cc); end = λ e. (cc); refused = λ h. refl; never = λ e. other e refl }
kept (Err UnknownVersion) = record { twice = refl; on = refl; room = refl; more = λ e. (cc); end = λ e. (cc); refused = λ h. refl; never = λ e. other e refl }
kept (Err RecordInvalid) = record { twice = refl; on = refl; room = refl; more = λ e. (cc); end = λ e. (cc); refused = λ h. refl; never = λ e. other e refl }

pub after_none : (n : ℕ) (a : Result Stop ListError) → n ≡ 0 → answer_after n a ≡ a
unfolding answer_after
after_none n a e = rw (eq-eqb n 0 e)

pub after_some : (n : ℕ) (a : Result Stop ListError) → (n ≡ 0 → ⊥) → answer_after n a ≡ later a
unfolding answer_after
after_some n a f = rw (ne_eqb n 0 f)

pub after_after : (c d : ℕ) (a : Result Stop ListError) → answer_after c (answer_after d a) ≡ answer_after (c + d) a
after_after zero d a = after_none 0 (answer_after d a) refl ∙ ap (λ (n : ℕ). answer_after n a) (sym (zero-add d))
after_after (suc c) zero a = ap (answer_after (suc c)) (after_none 0 a refl) ∙ ap (λ (n : ℕ). answer_after n a) (sym (add-zero (suc c)))
after_after (suc c) (suc d) a =
    after_some (suc c) (answer_after (suc d) a) (λ e. omega arith) ∙ ap later (after_some (suc d) a (λ e. omega arith)) ∙ (kept a).twice
    ∙ sym (after_some (suc c + suc d) a (λ e. omega arith))

-- a fact that a later answer keeps, of the answer in all
by_count : (n : ℕ) (a : Result Stop ListError) (F : Result Stop ListError → Type 0) → F a → F (later a) → F (answer_after n a)
unfolding answer_after
by_count n a F f g = split (eqb n 0)
  where
    split : (b : Bool) → F (pick b a (later a))
    split true = f
    split false = g

pub after_on : (n : ℕ) (a : Result Stop ListError) → goes_on (answer_after n a) ≡ goes_on a
after_on n a = by_count n a (λ x. goes_on x ≡ goes_on a) refl (kept a).on

pub after_room : (n : ℕ) (a : Result Stop ListError) → crowded (answer_after n a) ≡ crowded a
after_room n a = by_count n a (λ x. crowded x ≡ crowded a) refl (kept a).room

pub after_more : (n : ℕ) (a : Result Stop ListError) → answer_after n a ≡ Ok More → a ≡ Ok More
after_more n a = by_count n a (λ x. x ≡ Ok More → a ≡ (Ok More)) (λ e. e) (kept a).more

pub after_end : (n : ℕ) (a : Result Stop ListError) → answer_after n a ≡ Ok End → a ≡ Ok End
after_end n a = by_count n a (λ x. x ≡ Ok End → a ≡ (Ok End)) (λ e. e) (kept a).end

pub after_refused : (n : ℕ) (a : Result Stop ListError) → 17 ≤ (list_cause (answer_after n a)).number → answer_after n a ≡ a
after_refused n a = by_count n a (λ x. 17 ≤ (list_cause x).number → x ≡ a) (λ h. refl) (kept a).refused

pub after_never : (n : ℕ) (a : Result Stop ListError) → (n ≡ 0 → ⊥) → answer_after n a ≡ Err BufferTooShort → ⊥
after_never n a f e = (kept a).never (sym (after_some n a f) ∙ e)
