-- What a caller of a writer is told, from what the writer promises.
-- Assumes nothing.
use Prim.Native.Nat.{ℕ}
use mathlib.Core.Bool.{Bool, true, false}
use mathlib.Core.Path.{◌≡◌, refl, ap, ◌∙◌}
use mathlib.Core.List.{List}
use lib.ListN.{length}
use lib.Dec.{leb}
use Rattle.std.specs.Prelude.{Result, Ok, Err}
use Rattle.types.specs.Codes.{pick, need}
use Rattle.types.specs.declared.hal.PowerlinkError.{PowerlinkError}
use Rattle.types.specs.declared.hal.PowerlinkError.TheVariants.{BufferTooShort}
use Rattle.section.specs.Write.{write_answer, write_cause, Writes, Coded, octets, unnamed, unnamed_answer}
use Rattle.c_values.specs.Answers.{length_after, octet_after}
use Rattle.powerlink.specs.Writing.{WritesTo, WritesCoded}

-- what `written_or` tells of an answer
abbrev Told : Result ℕ PowerlinkError → ℕ → ℕ → ℕ → Type 0
Told a r n n' = (r ≡ (write_cause a).number) × (n' ≡ length_after a n)

pub writes_to : (bs : List ℕ) (a : Result ℕ PowerlinkError) (t t' : List ℕ) (r n n' : ℕ) → Writes bs a t t' → Told a r n n' → WritesTo bs r t t' n n'
writes_to bs a t t' r n n' w e =
    record {
      cause = e.0 ∙ ap (λ (x : Result ℕ PowerlinkError). (write_cause x).number) w.answer;
      target = w.holds;
      written = e.1 ∙ ap (λ (x : Result ℕ PowerlinkError). length_after x n) w.answer;
    }

-- a writer's own refusal is cause 1, which returns no octet
fit_octet : (b : Bool) (n o : ℕ) → o ≡ octet_after (pick b (Ok n) (Err BufferTooShort)) o
fit_octet true n o = refl
fit_octet false n o = refl

pub kept_octet : (bs t : List ℕ) (o : ℕ) → o ≡ octet_after (write_answer bs t) o
unfolding write_answer
kept_octet bs t o = fit_octet (leb (length bs) (length t)) (length bs) o

-- and a code that names nothing tells no length
kept_length : (b : Bool) (e : PowerlinkError) (n : ℕ) → n ≡ length_after (need b (Err BufferTooShort) (Err e)) n
kept_length true e n = refl
kept_length false e n = refl

module _ (w : Coded) (t t' : List ℕ) (r n n' o : ℕ) where
  writes_named : (bs : List ℕ) → w ≡ octets bs → WritesTo bs r t t' n n' → WritesCoded w r t t' n n' o o
  writes_named bs ew h = record { cause = h.cause ∙ rw ew; target = h.target ∙ rw ew; written = h.written ∙ rw ew; octet = kept_octet bs t o ∙ rw ew }

  pub writes_coded : (bs : List ℕ) (a : Result ℕ PowerlinkError) → w ≡ octets bs → Writes bs a t t' → Told a r n n' → WritesCoded w r t t' n n' o o
  writes_coded bs a ew w' e = writes_named bs ew (writes_to bs a t t' r n n' w' e)

-- what `unnamed` tells, where k octets would be needed
pub refuses_coded : (w : Coded) (t : List ℕ) (r n o o' k : ℕ) (e : PowerlinkError) → w ≡ unnamed k e
    → (r ≡ (write_cause (unnamed_answer k e (length t))).number) × (o' ≡ octet_after (unnamed_answer k e (length t)) o) → WritesCoded w r t t n n o o'
refuses_coded w t r n o o' k e ew h =
    record {
      cause = h.0 ∙ rw ew;
      target = rw ew;
      written = kept_length (leb k (length t)) e n ∙ rw ew;
      octet = h.1 ∙ rw ew;
    }
