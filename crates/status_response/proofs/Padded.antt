-- An error field whose last octets lack is that with zeros behind.
-- Assumes nothing.
use Prim.Native.Nat.{ℕ, zero, suc, ◌+◌, ◌≤◌}
use mathlib.Core.Path.{◌≡◌, refl, ◌∙◌}
use mathlib.Core.List.{List, [], ◌∷◌, ◌++◌}
use lib.ListN.{length, get_or, drop, replicate, length-replicate}
use lib.Seq.{sets, get_or-drop}
use Rattle.octets.proofs.Elements.{zeros}
use Rattle.octets.proofs.Sets.{sets_front}
use Rattle.status_response.specs.BitField.{field_of}

behind : (i j k : ℕ) (s : List ℕ) → get_or (s ++ drop j (replicate k 0)) i 0 ≡ get_or s i 0
behind i j k [] = get_or-drop j (replicate k 0) i 0 ∙ zeros (j + i) k
behind zero j k (x ∷ xs) = refl
behind (suc i) j k (x ∷ xs) = behind i j k xs

-- octets that were copied to the front of m zeros
module _ (m : ℕ) (s t : List ℕ) (fits : length s ≤ m) (e : t ≡ sets (replicate m 0) 0 s) where
  octet_padded : (i : ℕ) → get_or t i 0 ≡ get_or s i 0
  octet_padded i =
      rw (e, sets_front (replicate m 0) s (rw (length-replicate {A = ℕ} m 0) fits)) (behind i (length s) m s)

  pub field_padded : field_of t ≡ field_of s
  unfolding field_of
  field_padded = simp octet_padded
