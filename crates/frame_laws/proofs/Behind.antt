-- What stands behind the ten octets of the fields of a PReq or a PRes that is written.
-- Assumes nothing.
use Prim.Native.Nat.{ℕ, ◌-◌}
use mathlib.Core.Path.{◌≡◌, sym, ap, ◌∙◌}
use mathlib.Core.List.{List, ◌++◌, append_assoc}
use lib.ListN.{length, drop, replicate, length-append, length-drop}
use lib.Seq.{drop_at}
use Rattle.section.specs.Write.{padded}
use Rattle.frame_laws.specs.Sizes.{behind_fields}

module _ (fields p : List ℕ) (ten : length fields ≡ 10) where
  pub behind : drop 10 (padded (fields ++ p)) ≡ behind_fields p
  unfolding padded
  behind =
      rw (append_assoc fields p, drop_at fields (p ++ replicate (46 - length (fields ++ p)) 0) 10 ten, length-append fields p, ten)

  pub behind_length : length (padded (fields ++ p)) - 10 ≡ length (behind_fields p)
  behind_length = sym (length-drop 10 (padded (fields ++ p))) ∙ ap length behind
