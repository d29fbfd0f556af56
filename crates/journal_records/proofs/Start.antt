-- The first five octets of a journal.
-- Assumes nothing.
use Prim.Native.Nat.{ℕ, ◌+◌, ◌*◌}
use mathlib.Core.Bool.{Bool, true, false, ◌&&◌, true≢false}
use mathlib.Core.Path.{◌≡◌, refl, sym, ◌∙◌}
use mathlib.Core.List.{List, [], ◌∷◌}
use native.Mathlib.Omega.{arith}
use lib.Dec.{eqb}
use borrow.Author.Tests.{eqb-true}
use Rattle.std.proofs.lemmas.Bool.{and_parts}
use Rattle.octets.specs.Mark.{is_marked}
use Rattle.octets.specs.Numbers.{le_at}
use Rattle.types.specs.Codes.{pick}
use Rattle.journal_records.specs.Listing.{known, other, version1, layout_of, marked}
use Rattle.journal_records.specs.ReadBack.{journal_start, StartTold}

start_octets : journal_start ≡ 0x50 ∷ 0x4C ∷ 0x42 ∷ 0x01 ∷ 0x00 ∷ []
start_octets = refl

pub start_mark : (s : List ℕ) → marked (0x50 ∷ 0x4C ∷ 0x42 ∷ s) ≡ true
unfolding marked is_marked
start_mark s = refl

start_version : (a b c : ℕ) (s : List ℕ) → layout_of (le_at 2 3 (a ∷ b ∷ c ∷ 0x01 ∷ 0x00 ∷ s)) ≡ known version1
unfolding layout_of le_at
start_version a b c s = refl

mark_alone : (a b c d e : ℕ) (s : List ℕ) → marked (a ∷ b ∷ c ∷ d ∷ e ∷ s) ≡ true → (a ≡ 0x50) × ((b ≡ 0x4C) × (c ≡ 0x42))
unfolding marked is_marked
mark_alone a b c d e s m =
    let t = and_parts (eqb a 0x50) (eqb b 0x4C && eqb c 0x42) m in
    let u = and_parts (eqb b 0x4C) (eqb c 0x42) t.1 in
    (eqb-true a 0x50 t.0, (eqb-true b 0x4C u.0, eqb-true c 0x42 u.1))

version_alone : (v : ℕ) → layout_of v ≡ known version1 → v ≡ 1
unfolding layout_of
version_alone v e = by_test (eqb v 1) refl e
  where
    by_test : (b : Bool) → eqb v 1 ≡ b → pick b (known version1) other ≡ known version1 → v ≡ 1
    by_test true t h = eqb-true v 1 t
    by_test false t h = absurd (true≢false cc)

pub version_octets : (a b c d e : ℕ) (s : List ℕ) → le_at 2 3 (a ∷ b ∷ c ∷ d ∷ e ∷ s) ≡ d + 256 * e
unfolding le_at
version_octets a b c d e s = omega arith

start_alone : (a b c d e : ℕ) (s : List ℕ) → marked (a ∷ b ∷ c ∷ d ∷ e ∷ s) ≡ true
    → layout_of (le_at 2 3 (a ∷ b ∷ c ∷ d ∷ e ∷ s)) ≡ known version1 → a ∷ b ∷ c ∷ d ∷ e ∷ [] ≡ 0x50 ∷ 0x4C ∷ 0x42 ∷ 0x01 ∷ 0x00 ∷ []
start_alone a b c d e s m v =
    let t = mark_alone a b c d e s m in
    let n : d + 256 * e ≡ 1 = sym (version_octets a b c d e s) ∙ version_alone (le_at 2 3 (a ∷ b ∷ c ∷ d ∷ e ∷ s)) v in
    let ed : d ≡ 0x01 = omega arith in
    let ee : e ≡ 0x00 = omega arith in
    rw (t.0, t.1.0, t.1.1, ed, ee)

pub start_told : StartTold
start_told = record { octets = start_octets; mark = start_mark; version = start_version; alone = start_alone }
