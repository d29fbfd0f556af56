-- A number that is written where it fits is read back.
-- Assumes nothing.
use Prim.Native.Nat.{ℕ, zero, suc, ◌+◌, ◌≤◌}
use mathlib.Core.Path.{◌≡◌, refl, ap, ◌∙◌}
use mathlib.Core.List.{List, ◌++◌, append_assoc}
use native.Mathlib.Omega.{arith}
use lib.ListN.{length, take, drop}
use lib.Seq.{sets, sets-eq, drop_at, take_at, length-take-le}
use Rattle.octets.specs.Numbers.{le, le_at, le_bytes, be_at, be_bytes}
use Rattle.octets.specs.ReadBack.{NumbersReadBack}
use Rattle.octets.proofs.Le.{bytes_back}

le_bytes_length : (n v : ℕ) → length (le_bytes n v) ≡ n
le_bytes_length zero v = refl
le_bytes_length (suc n) v = ap suc (le_bytes_length n _)

-- what lies from a place on, once bytes are stored there
pub drop_sets : (s : List ℕ) (at : ℕ) (vs : List ℕ) → at + length vs ≤ length s → drop at (sets s at vs) ≡ vs ++ drop (at + length vs) s
drop_sets s at vs h =
    rw (sets-eq vs s at h, append_assoc (take at s) vs (drop (at + length vs) s))
    (drop_at (take at s) (vs ++ drop (at + length vs) s) at (length-take-le at s (omega arith)))

pub numbers_read_back : NumbersReadBack
unfolding le_at be_at
numbers_read_back =
    record {
      little_endian =
          λ n at v s fits small.
          let e = le_bytes_length n v in
          ap (λ (l : List ℕ). le (take n l)) (drop_sets s at (le_bytes n v) (omega arith))
          ∙ ap le (take_at (le_bytes n v) _ n e)
          ∙ bytes_back n v small;
      big_endian = λ at v s fits small. rw (drop_sets s at (be_bytes 2 v) fits) (omega arith);
    }
