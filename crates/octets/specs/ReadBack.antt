-- A number that is written where it fits is read back.
-- Assumes nothing.
use Rattle.std.specs.Prelude.{ℕ, ◌+◌, ◌^◌, ◌≤◌, ◌<◌, ◌≡◌, List, length}
use Rattle.std.proofs.lemmas.List.Edits.{sets}
use Rattle.octets.specs.Numbers.{le_at, le_bytes, be_at, be_bytes}

pub record NumbersReadBack : Type 0 where
  pub little_endian : (n at v : ℕ) (s : List ℕ) → at + n ≤ length s → v < 256 ^ n → le_at n at (sets s at (le_bytes n v)) ≡ v
  pub big_endian : (at v : ℕ) (s : List ℕ) → at + 2 ≤ length s → v < 256 ^ 2 → be_at 2 at (sets s at (be_bytes 2 v)) ≡ v
