-- Laws of numbers as text: their digits one by one, and how many there are.
-- Assumes nothing.
use Prim.Native.Nat.{ℕ, zero, suc, ◌+◌, ◌-◌, ◌/◌, ◌%◌, ◌^◌, ◌≤◌, ◌<◌}
use mathlib.Core.Bool.{Bool, true, false}
use mathlib.Core.Path.{◌≡◌, refl, sym, ◌∙◌}
use mathlib.Core.List.{List, [], ◌∷◌, ◌++◌}
use native.Mathlib.Nat.{div-lt_iff_lt-mul, pow-suc, add-suc, not-suc-le-zero}
use native.Mathlib.Numerals.{add-one, sub-one}
use native.Mathlib.Omega.{arith}
use lib.Dec.{ltb}
use lib.ListN.{length, set, length-append}
use lib.Seq.{sets, set_comm}
use borrow.Author.Tests.{lt-ltb}
use Rattle.octets.proofs.Sets.{sets_append}
use Rattle.types.specs.Codes.{pick}
use Rattle.journal_records.specs.declared.text.Line.{Line}
use Rattle.journal_records.specs.Text.{Adds, Puts, digit, hex, decimal_in, decimal}

-- ---- decimal

tenth_below : (n k : ℕ) → n < 10 ^ suc (suc k) → n / 10 < 10 ^ suc k
tenth_below n k h = (div-lt_iff_lt-mul {k = 10} {x = n} {y = 10 ^ suc k} (omega arith)).1 (rw pow-suc at h)

-- one digit more than those of a tenth
digits_more : (b : Bool) (l : List ℕ) (d k : ℕ) → length l ≤ k → length (pick b [] l ++ d ∷ []) ≤ suc k
digits_more true l d k h = omega arith
digits_more false l d k h = rw length-append (omega arith)

at_most : (k n : ℕ) → length (decimal_in k n) ≤ k
unfolding decimal_in
at_most zero n = omega arith
at_most (suc k) n = digits_more (ltb n 10) (decimal_in k (n / 10)) (48 + n % 10) k (at_most k (n / 10))

pub decimal_ten : (n : ℕ) → length (decimal n) ≤ 10
unfolding decimal
decimal_ten n = at_most 10 n

short : (j k n : ℕ) → n < 10 ^ suc k → length (decimal_in j n) ≤ suc k
unfolding decimal_in
short zero k n h = omega arith
short (suc j) zero n h = rw (lt-ltb n 10 h) (omega arith)
short (suc j) (suc k) n h = digits_more (ltb n 10) (decimal_in j (n / 10)) (48 + n % 10) (suc k) (short j k (n / 10) (tenth_below n k h))

-- a number below a power of ten
pub decimal_short : (k n : ℕ) → n < 10 ^ suc k → length (decimal n) ≤ suc k
unfolding decimal
decimal_short k n h = short 10 k n h

-- ---- hexadecimal

pub hex_length : (k n : ℕ) → length (hex k n) ≡ k
unfolding hex
hex_length zero n = refl
hex_length (suc k) n = rw (length-append, hex_length k (n / 16), add-one)

pub hex_none : (k n : ℕ) → k ≡ 0 → [] ≡ hex k n
unfolding hex
hex_none zero n e = refl
hex_none (suc k) n e = cc

-- the digits of a sixteenth, and the last one
pub hex_more : (k n : ℕ) → (k ≡ 0 → ⊥) → hex (k - 1) (n / 16) ++ digit (n % 16) ∷ [] ≡ hex k n
unfolding hex
hex_more zero n f = absurd (f refl)
hex_more (suc k) n f = rw sub-one

-- a store behind a copy may come before it
sets_set : (l : List ℕ) (i j v : ℕ) (vs : List ℕ) → i + length vs ≤ j → sets (set l j v) i vs ≡ set (sets l i vs) j v
sets_set l i j v [] h = refl
sets_set l i j v (u ∷ us) h =
    rw (set_comm l j i v u (λ e. omega (arith, e))) (sets_set (set l i u) (suc i) j v us (omega (arith, add-suc i (length us))))

-- the last digit is stored, and those in front of it remain
hex_last : (i at n : ℕ) (l : List ℕ) → sets (set l (at + i) (digit (n % 16))) at (hex i (n / 16)) ≡ sets l at (hex (suc i) n)
unfolding hex
hex_last i at n l =
    sets_set l at (at + i) (digit (n % 16)) (hex i (n / 16)) (omega (arith, hex_length i (n / 16)))
    ∙ sym (sets_append l at (hex i (n / 16)) (digit (n % 16) ∷ []) ∙ rw hex_length)

pub hex_step : (i at n : ℕ) (l : List ℕ) → 0 < i → sets (set l (at + (i - 1)) (digit (n % 16))) at (hex (i - 1) (n / 16)) ≡ sets l at (hex i n)
hex_step zero at n l h = absurd (not-suc-le-zero h)
hex_step (suc i) at n l h = rw sub-one (hex_last i at n l)

-- ---- texts as they are stored

-- the front of a buffer
pub put_first : {text : List ℕ} {at r : ℕ} {out front after : List ℕ} → (at ≡ 0) × (front ≡ out) → Puts text at r front after → Puts text 0 r out after
put_first e p = rw (← e.0, ← e.1) p

module _ {text : List ℕ} {at r : ℕ} {out front : List ℕ} (p : Puts text at r out front) where
  -- a text behind a text
  pub put_next : {more : List ℕ} {r' : ℕ} {after : List ℕ} → Puts more r r' front after → Puts (text ++ more) at r' out after
  put_next {more} q =
      record {
        next = rw (q.next, p.next, length-append) (omega arith);
        holds = rw (q.holds, p.next, p.holds) (sym (sets_append out at text more));
      }

  -- one character behind a text
  pub put_ended : (end : ℕ) {after : List ℕ} → after ≡ set front r end → Puts (text ++ end ∷ []) at (r + 1) out after
  put_ended end f = put_next record { next = refl; holds = f }

  -- what is left in the buffer is what the line has put there
  pub put_left : {after : List ℕ} → after ≡ front → Puts text at r out after
  put_left e = rw e p

-- as many hexadecimal digits
pub put_digits : {out : List ℕ} {at : ℕ} (k n : ℕ) {front : List ℕ} → front ≡ sets out at (hex k n) → Puts (hex k n) at (at + k) out front
put_digits k n e = record { next = rw hex_length; holds = e }

-- ---- how a line grows

pub adds_none : {line : Line} → Adds [] line line
adds_none = record { puts = record { next = omega arith; holds = refl }; same_reference = refl }

module _ {text : List ℕ} {line grown : Line} (a : Adds text line grown) where
  pub adds_next : {more : List ℕ} {after : Line} → Adds more grown after → Adds (text ++ more) line after
  adds_next b = record { puts = put_next a.puts b.puts; same_reference = b.same_reference ∙ a.same_reference }

  pub adds_as : {same : List ℕ} → text ≡ same → Adds same line grown
  adds_as e = rw e at a
