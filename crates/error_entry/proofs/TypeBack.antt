-- The 16 bits of an entry's type, taken apart and put together.
-- Assumes nothing.
use Prim.Native.Nat.{ℕ, zero, suc, ◌+◌, ◌*◌, ◌/◌, ◌%◌, ◌^◌, ◌≤◌, ◌<◌}
use mathlib.Core.Path.{◌≡◌, refl, ap, ◌∙◌}
use mathlib.Core.Bool.{Bool, true, false}
use native.Mathlib.Omega.{arith}
use lib.Dec.{eqb}
use borrow.Author.Tests.{eqb-true, eqb-false}
use Rattle.octets.specs.Numbers.{bit}
use Rattle.types.specs.Codes.{decoded}
use Rattle.types.specs.Modes.{mode_code, modes, mode_in}
use Rattle.types.specs.declared.error_mode.ErrorEntryMode.{ErrorEntryMode}
use Rattle.types.specs.declared.error_mode.ErrorEntryMode.TheVariants.{Terminator, ErrorActive, ErrorCleared, EventOccurred}
use Rattle.types.proofs.Modes.{mode_small}
use Rattle.section.specs.Write.{at_bit}
use Rattle.error_entry.specs.Entry.{entry_type_of, type_number}
use Rattle.error_entry.specs.declared.EntryType.{EntryType}

-- a mode and the two bits that it takes
mode_read : (m : ErrorEntryMode) → decoded mode_code (λ x. x) EventOccurred modes (mode_code m) ≡ m
mode_read Terminator = refl
mode_read ErrorActive = refl
mode_read ErrorCleared = refl
mode_read EventOccurred = refl

mode_in_lem : (b : ℕ) (m : ErrorEntryMode) → b % 4 ≡ mode_code m → mode_in b ≡ m
unfolding mode_in
mode_in_lem b m e = ap (λ (k : ℕ). decoded mode_code (λ x. x) EventOccurred modes k) e ∙ mode_read m

code_read : (k : ℕ) → k < 4 → mode_code (decoded mode_code (λ x. x) EventOccurred modes k) ≡ k
code_read zero h = refl
code_read (suc zero) h = refl
code_read (suc (suc zero)) h = refl
code_read (suc (suc (suc zero))) h = refl
code_read (suc (suc (suc (suc k)))) h = absurd (omega arith)

code_in : (b : ℕ) → mode_code (mode_in b) ≡ b % 4
unfolding mode_in
code_in b = code_read (b % 4) (omega arith)

-- the two flags above 14 bits
status_bit : (x y : Bool) (n : ℕ) → n < 16384 → bit 15 (at_bit 15 x + at_bit 14 y + n) ≡ x
status_bit true true n h = let z : (49152 + n) / 32768 % 2 ≡ 1 = omega arith in ap (λ (k : ℕ). eqb k 1) z
status_bit true false n h = let z : (32768 + n) / 32768 % 2 ≡ 1 = omega arith in ap (λ (k : ℕ). eqb k 1) z
status_bit false true n h = let z : (16384 + n) / 32768 % 2 ≡ 0 = omega arith in ap (λ (k : ℕ). eqb k 1) z
status_bit false false n h = let z : (0 + n) / 32768 % 2 ≡ 0 = omega arith in ap (λ (k : ℕ). eqb k 1) z

queue_bit : (x y : Bool) (n : ℕ) → n < 16384 → bit 14 (at_bit 15 x + at_bit 14 y + n) ≡ y
queue_bit true true n h = let z : (49152 + n) / 16384 % 2 ≡ 1 = omega arith in ap (λ (k : ℕ). eqb k 1) z
queue_bit true false n h = let z : (32768 + n) / 16384 % 2 ≡ 0 = omega arith in ap (λ (k : ℕ). eqb k 1) z
queue_bit false true n h = let z : (16384 + n) / 16384 % 2 ≡ 1 = omega arith in ap (λ (k : ℕ). eqb k 1) z
queue_bit false false n h = let z : (0 + n) / 16384 % 2 ≡ 0 = omega arith in ap (λ (k : ℕ). eqb k 1) z

below_flags : (x y : Bool) (n : ℕ) → (at_bit 15 x + at_bit 14 y + n) % 16384 ≡ n % 16384
below_flags true true n = omega arith
below_flags true false n = omega arith
below_flags false true n = omega arith
below_flags false false n = omega arith

flags_small : (x y : Bool) → at_bit 15 x + at_bit 14 y ≤ 49152
flags_small true true = omega arith
flags_small true false = omega arith
flags_small false true = omega arith
flags_small false false = omega arith

zero_bit : (n : ℕ) → (n % 2 ≡ 1 → ⊥) → n % 2 ≡ 0
zero_bit n h = split (n % 2) refl (omega arith)
  where
    split : (k : ℕ) → n % 2 ≡ k → k < 2 → n % 2 ≡ 0
    split zero e l = e
    split (suc zero) e l = absurd (h e)
    split (suc (suc k)) e l = absurd (omega arith)

-- a flag that was read weighs what its bit did
flag_weighs : (k n : ℕ) → at_bit k (bit k n) ≡ 2 ^ k * (n / 2 ^ k % 2)
flag_weighs k n = split (eqb (n / 2 ^ k % 2) 1) refl
  where
    split : (b : Bool) → eqb (n / 2 ^ k % 2) 1 ≡ b → at_bit k (eqb (n / 2 ^ k % 2) 1) ≡ 2 ^ k * (n / 2 ^ k % 2)
    split true e = rw (e, eqb-true (n / 2 ^ k % 2) 1 e) (omega arith)
    split false e =
        let z : n / 2 ^ k % 2 ≡ 0 = zero_bit (n / 2 ^ k) (eqb-false (n / 2 ^ k % 2) 1 e) in
        rw (e, z) (omega arith)

pub type_small : (t : EntryType) → type_number t < 2 ^ 16
unfolding type_number
type_small t = omega (arith, flags_small t.is_status_entry t.send_to_queue, mode_small t.mode)

-- a type whose profile has 12 bits is read back
pub type_back : (t : EntryType) → t.profile < 2 ^ 12 → entry_type_of (type_number t) ≡ t
unfolding entry_type_of type_number
type_back t h =
    let x : Bool = t.is_status_entry in
    let y : Bool = t.send_to_queue in
    let low : ℕ = 4096 * mode_code t.mode + t.profile % 4096 in
    let small : low < 16384 = omega (arith, mode_small t.mode) in
    let e : type_number t ≡ at_bit 15 x + at_bit 14 y + low = omega arith in
    let k : (at_bit 15 x + at_bit 14 y + low) % 16384 ≡ low = below_flags x y low ∙ omega arith in
    let m : (at_bit 15 x + at_bit 14 y + low) / 4096 % 16 % 4 ≡ mode_code t.mode = omega (arith, mode_small t.mode) in
    let p : (at_bit 15 x + at_bit 14 y + low) % 4096 ≡ t.profile = omega arith in
    rw (e, status_bit x y low small, queue_bit x y low small, mode_in_lem _ t.mode m, p)

-- 16 bits are the sum of their parts; each part is found by itself
sum_of : (n a b c d x y z : ℕ) → x ≡ a → b ≡ 2 * a + y → c ≡ 4 * b + z → n ≡ 4096 * c + d → 32768 * x + 16384 * y + 4096 * z + d ≡ n
sum_of n a b c d x y z e₁ e₂ e₃ e₄ = omega arith

top : (n : ℕ) → n < 2 ^ 16 → n / 32768 % 2 ≡ n / 32768
top n h = omega arith

parts : (n : ℕ) → n < 2 ^ 16 → 32768 * (n / 32768 % 2) + 16384 * (n / 16384 % 2) + 4096 * (n / 4096 % 16 % 4) + n % 4096 % 4096 ≡ n
parts n h =
    let f : n / 16384 ≡ 2 * (n / 32768) + n / 16384 % 2 = halves n in
    let g : n / 4096 ≡ 4 * (n / 16384) + n / 4096 % 16 % 4 = quarters n in
    let k : n ≡ 4096 * (n / 4096) + n % 4096 % 4096 = rest n in
    sum_of n (n / 32768) (n / 16384) (n / 4096) (n % 4096 % 4096) (n / 32768 % 2) (n / 16384 % 2) (n / 4096 % 16 % 4) (top n h) f g k
  where
    halves : (n : ℕ) → n / 16384 ≡ 2 * (n / 32768) + n / 16384 % 2
    halves n = omega arith

    quarters : (n : ℕ) → n / 4096 ≡ 4 * (n / 16384) + n / 4096 % 16 % 4
    quarters n = omega arith

    rest : (n : ℕ) → n ≡ 4096 * (n / 4096) + n % 4096 % 4096
    rest n = omega arith

-- a type that was read is written as its 16 bits
pub type_again : (n : ℕ) → n < 2 ^ 16 → type_number (entry_type_of n) ≡ n
unfolding entry_type_of type_number
type_again n h = rw (flag_weighs 15 n, flag_weighs 14 n, code_in (n / 4096 % 16)) (parts n h)
