-- The columns of a record's line, one behind the other, and how long the line is.
-- Assumes nothing.
use Prim.Native.Nat.{ℕ, ◌≤◌, ◌<◌}
use mathlib.Core.Path.{◌≡◌, ap, sym}
use mathlib.Core.List.{List, [], ◌∷◌, ◌++◌, append_assoc}
use native.Mathlib.Omega.{arith}
use lib.ListN.{length, length-append}
use Rattle.types.specs.Modes.{mode_code}
use Rattle.types.proofs.Modes.{mode_small}
use Rattle.error_entry.specs.declared.ErrorEntry.{ErrorEntry}
use Rattle.journal_records.specs.Listing.{fields_line}
use Rattle.journal_records.specs.declared.text.Line.{Line}
use Rattle.journal_records.specs.Text.{Adds, hex, decimal}
use Rattle.journal_records.proofs.TextLaws.{adds_next, adds_as, hex_length, decimal_short, decimal_ten}

module _ (node : ℕ) (e : ErrorEntry) where
  abbrev columns : List ℕ
  columns =
      (decimal node ++ 32 ∷ []) ++ (hex 4 e.error_code ++ 32 ∷ []) ++ (decimal (mode_code e.entry_type.mode) ++ 32 ∷ [])
      ++ (decimal e.entry_type.profile ++ 32 ∷ []) ++ (decimal e.timestamp.seconds ++ 32 ∷ [])
      ++ (decimal e.timestamp.nanoseconds ++ 32 ∷ []) ++ (hex 16 e.additional_information ++ 10 ∷ [])

  columns_line : columns ≡ fields_line node e
  unfolding fields_line
  columns_line = simp append_assoc

  pub line_adds : {m : ℕ} {l₀ l₁ l₂ l₃ l₄ l₅ l₆ l₇ : Line} → m ≡ mode_code e.entry_type.mode
      → Adds (decimal node ++ 32 ∷ []) l₀ l₁ → Adds (hex 4 e.error_code ++ 32 ∷ []) l₁ l₂
      → Adds (decimal m ++ 32 ∷ []) l₂ l₃ → Adds (decimal e.entry_type.profile ++ 32 ∷ []) l₃ l₄
      → Adds (decimal e.timestamp.seconds ++ 32 ∷ []) l₄ l₅ → Adds (decimal e.timestamp.nanoseconds ++ 32 ∷ []) l₅ l₆
      → Adds (hex 16 e.additional_information ++ 10 ∷ []) l₆ l₇ → Adds (fields_line node e) l₀ l₇
  line_adds em a₁ a₂ a₃ a₄ a₅ a₆ a₇ =
      let a₃' = adds_as a₃ (ap (λ (n : ℕ). decimal n ++ 32 ∷ []) em) in
      adds_as (adds_next (adds_next (adds_next (adds_next (adds_next (adds_next a₁ a₂) a₃') a₄) a₅) a₆) a₇) columns_line

  pub line_short : node ≤ 239 → e.entry_type.profile < 4096 → length (fields_line node e) ≤ 55
  line_short h k =
      rw (sym columns_line)
      (simp (length-append, hex_length)
      (omega (
        arith,
        decimal_short 2 node (omega arith),
        decimal_short 0 (mode_code e.entry_type.mode) (omega (arith, mode_small e.entry_type.mode)),
        decimal_short 3 e.entry_type.profile (omega arith),
        decimal_ten e.timestamp.seconds,
        decimal_ten e.timestamp.nanoseconds,
      )))
