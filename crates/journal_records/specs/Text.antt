-- Numbers and lines as text, in ASCII.
-- Assumes nothing.
use Rattle.std.specs.Prelude.{ℕ, zero, suc, ◌+◌, ◌/◌, ◌%◌, ◌≡◌, List, [], ◌∷◌, ◌++◌, length, ltb}
use Rattle.std.proofs.lemmas.List.Edits.{sets}
use Rattle.types.specs.Codes.{pick}
use Rattle.journal_records.specs.declared.text.Line.{Line}

-- a digit below 16: `0` to `9`, then `A` to `F`
unfoldable pub digit : ℕ → ℕ
digit d = pick (ltb d 10) (48 + d) (55 + d)

-- the k low hexadecimal digits of n, the lowest last
unfoldable pub hex : ℕ → ℕ → List ℕ
hex zero n = []
hex (suc k) n = hex k (n / 16) ++ digit (n % 16) ∷ []

-- n with no zero in front, in decimal digits, of which there are at most k
unfoldable pub decimal_in : ℕ → ℕ → List ℕ
decimal_in zero n = []
decimal_in (suc k) n = pick (ltb n 10) [] (decimal_in k (n / 10)) ++ (48 + n % 10) ∷ []

-- numbers of 32 bits have at most 10 digits
unfoldable pub decimal : ℕ → List ℕ
decimal n = decimal_in 10 n

-- a line: texts with a space between them, and a newline
abbrev pub joined : List (List ℕ) → List ℕ
joined [] = 10 ∷ []
joined (t ∷ []) = t ++ 10 ∷ []
joined (t ∷ u ∷ ts) = t ++ 32 ∷ joined (u ∷ ts)

-- how long a line may be: none of a listing is as long
abbrev pub place_most : ℕ
place_most = 100

-- the text is put into `out` from place `at` on, and r is the place after it
pub record Puts (text : List ℕ) (at r : ℕ) (out after : List ℕ) : Type 0 where
  pub next : r ≡ at + length text
  pub holds : after ≡ sets out at text

-- a line's text grows by this one, in the same buffer
pub record Adds (text : List ℕ) (before after : Line) : Type 0 where
  pub puts : Puts text before.len after.len before.out.now after.out.now
  pub same_reference : after.out.ghost_name ≡ before.out.ghost_name
