-- The mark of a file: three octets that its first ones are. Octets past the end of the bytes count as 0.
-- Assumes nothing.
use Rattle.std.specs.Prelude.{ℕ, Bool, ◌&&◌, List, eqb, get_or}

-- the first three octets of s are those of the mark
unfoldable pub is_marked : List ℕ → List ℕ → Bool
is_marked mark s =
    eqb (get_or s 0 0) (get_or mark 0 0) && (eqb (get_or s 1 0) (get_or mark 1 0) && eqb (get_or s 2 0) (get_or mark 2 0))
