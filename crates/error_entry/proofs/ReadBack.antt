-- An entry that is written is read back, and the other way round.
-- Assumes nothing.
use Prim.Native.Nat.{ℕ, ◌≤◌}
use mathlib.Core.Path.{◌≡◌, sym, ap, ◌∙◌}
use mathlib.Core.List.{List, ◌++◌}
use native.Mathlib.Omega.{arith}
use lib.ListN.{length, take, drop}
use lib.Seq.{take-add}
use Rattle.octets.specs.Numbers.{le_at, le_bytes}
use Rattle.octets.proofs.Le.{bytes_back}
use Rattle.error_entry.specs.Entry.{type_number, entry_type_of, entry_of, entry_bytes}
use Rattle.error_entry.specs.ReadBack.{InRange, EntriesReadBack}
use Rattle.error_entry.specs.declared.ErrorEntry.{ErrorEntry}
use Rattle.octets.proofs.NumberBack.{Octets, number_again, number_small}
use Rattle.error_entry.proofs.TypeBack.{type_small, type_back, type_again}

module _ (e : ErrorEntry) (s : List ℕ) (h : InRange e) where
  type_is : le_at 2 0 (entry_bytes e ++ s) ≡ type_number e.entry_type
  unfolding entry_bytes le_at
  type_is = bytes_back 2 (type_number e.entry_type) (omega (arith, type_small e.entry_type))

  code_is : le_at 2 2 (entry_bytes e ++ s) ≡ e.error_code
  unfolding entry_bytes le_at
  code_is = bytes_back 2 e.error_code (omega arith)

  seconds_is : le_at 4 4 (entry_bytes e ++ s) ≡ e.timestamp.seconds
  unfolding entry_bytes le_at
  seconds_is = bytes_back 4 e.timestamp.seconds (omega arith)

  nanoseconds_is : le_at 4 8 (entry_bytes e ++ s) ≡ e.timestamp.nanoseconds
  unfolding entry_bytes le_at
  nanoseconds_is = bytes_back 4 e.timestamp.nanoseconds (omega arith)

  information_is : le_at 8 12 (entry_bytes e ++ s) ≡ e.additional_information
  unfolding entry_bytes le_at
  information_is = bytes_back 8 e.additional_information (omega arith)

  pub entry_back_lem : entry_of (entry_bytes e ++ s) ≡ e
  unfolding entry_of
  entry_back_lem =
      rw (
        type_is,
        code_is,
        seconds_is,
        nanoseconds_is,
        information_is,
        type_back e.entry_type h.profile,
      )

pub octets_back : (s : List ℕ) → 20 ≤ length s → Octets s → entry_bytes (entry_of s) ≡ take 20 s
unfolding entry_of entry_bytes
octets_back s h o =
    let t : type_number (entry_type_of (le_at 2 0 s)) ≡ le_at 2 0 s = type_again (le_at 2 0 s) (omega (arith, number_small s o 2 0)) in
    let n₁ : le_bytes 2 (le_at 2 0 s) ≡ take 2 (drop 0 s) = number_again s o 2 0 (omega arith) in
    let n₂ : le_bytes 2 (le_at 2 2 s) ≡ take 2 (drop 2 s) = number_again s o 2 2 (omega arith) in
    let n₃ : le_bytes 4 (le_at 4 4 s) ≡ take 4 (drop 4 s) = number_again s o 4 4 (omega arith) in
    let n₄ : le_bytes 4 (le_at 4 8 s) ≡ take 4 (drop 8 s) = number_again s o 4 8 (omega arith) in
    let n₅ : le_bytes 8 (le_at 8 12 s) ≡ take 8 (drop 12 s) = number_again s o 8 12 (omega arith) in
    ap (λ (n : ℕ). le_bytes 2 n ++ le_bytes 2 (le_at 2 2 s) ++ le_bytes 4 (le_at 4 4 s) ++ le_bytes 4 (le_at 4 8 s) ++ le_bytes 8 (le_at 8 12 s)) t
    ∙ ap (λ (l : List ℕ). l ++ le_bytes 2 (le_at 2 2 s) ++ le_bytes 4 (le_at 4 4 s) ++ le_bytes 4 (le_at 4 8 s) ++ le_bytes 8 (le_at 8 12 s)) n₁
    ∙ ap (λ (l : List ℕ). take 2 s ++ l ++ le_bytes 4 (le_at 4 4 s) ++ le_bytes 4 (le_at 4 8 s) ++ le_bytes 8 (le_at 8 12 s)) n₂
    ∙ ap (λ (l : List ℕ). l ++ le_bytes 4 (le_at 4 4 s) ++ le_bytes 4 (le_at 4 8 s) ++ le_bytes 8 (le_at 8 12 s)) (sym (take-add 2 2 s))
    ∙ ap (λ (l : List ℕ). take 4 s ++ l ++ le_bytes 4 (le_at 4 8 s) ++ le_bytes 8 (le_at 8 12 s)) n₃
    ∙ ap (λ (l : List ℕ). l ++ le_bytes 4 (le_at 4 8 s) ++ le_bytes 8 (le_at 8 12 s)) (sym (take-add 4 4 s))
    ∙ ap (λ (l : List ℕ). take 8 s ++ l ++ le_bytes 8 (le_at 8 12 s)) n₄
    ∙ ap (λ (l : List ℕ). l ++ le_bytes 8 (le_at 8 12 s)) (sym (take-add 8 4 s))
    ∙ ap (λ (l : List ℕ). take 12 s ++ l) n₅
    ∙ sym (take-add 12 8 s)

pub entries_read_back : EntriesReadBack
entries_read_back = record { entries = entry_back_lem; octets = octets_back }
