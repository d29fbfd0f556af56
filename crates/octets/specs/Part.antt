-- A part of the bytes that a caller lends, which a call hands back: not only its octets, but its place.
-- Assumes nothing.
use Rattle.std.specs.Prelude.{ℕ, ◌+◌, min, ◌≡◌, List, length}
use Rattle.std.specs.Borrow.{Bor}

-- r is the part of s with these octets, which lies from place at on
pub record Part (s : Bor (List ℕ)) (at : ℕ) (bytes : List ℕ) (r : Bor (List ℕ)) : Type 0 where
  pub octets : r.now ≡ bytes
  -- the same block of memory, and the offset in it; a place past the end counts as the end
  pub block : r.ref_ptr.0 ≡ s.ref_ptr.0
  pub offset : r.ref_ptr.1 ≡ s.ref_ptr.1 + min at (length s.now)
