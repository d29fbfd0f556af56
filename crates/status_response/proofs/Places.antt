-- Where the entries stand in the target, and when they fit.
-- Assumes nothing.
use Prim.Native.Nat.{ℕ, zero, suc, ◌+◌, ◌*◌, ◌≤◌, ◌<◌}
use mathlib.Core.Path.{◌≡◌, refl, sym, ap, ◌∙◌}
use mathlib.Core.Bool.{true, false}
use mathlib.Core.List.{List, ◌++◌, append_assoc}
use native.Mathlib.Omega.{arith}
use lib.ListN.{length, take, drop, length-drop, take-append-drop}
use lib.Seq.{sets, length-sets, sets-eq, drop-drop, drop-append-le, length-take-le}
use borrow.Author.Tests.{leb-true, leb-false}
use borrow.Rule.Slice.PartMut.{mid_of, put_mid}
use Rattle.octets.proofs.Sets.{sets_front}
use Rattle.error_entry.specs.Entry.{entry_bytes}
use Rattle.error_entry.specs.declared.ErrorEntry.{ErrorEntry}
use Rattle.status_response.specs.Parts.{entries_fit, entry_at_place, entries_put}

pub entry_length : (e : ErrorEntry) → length (entry_bytes e) ≡ 20
unfolding entry_bytes
entry_length e = refl

-- a part of a list has its length
pub part_length : (at k : ℕ) (t : List ℕ) → at + k ≤ length t → length (mid_of at k t) ≡ k
part_length at k t h = length-take-le k (drop at t) (simp length-drop (omega arith))

-- a write to the front of a part of a list is a write of the whole
pub sets_part : (at k : ℕ) (t vs : List ℕ) → at + k ≤ length t → length vs ≤ k → put_mid at k t (sets (mid_of at k t) 0 vs) ≡ sets t at vs
sets_part at k t vs h few =
    let d : List ℕ = drop at t in
    let m : ℕ = length vs in
    let part : m ≤ length (take k d) = rw (part_length at k t h) few in
    let behind : drop m (take k d) ++ drop k d ≡ drop (at + m) t =
    sym (drop-append-le m (take k d) (drop k d) part) ∙ ap (drop m) (take-append-drop k d) ∙ drop-drop m at t in
    ap (λ (l : List ℕ). take at t ++ (l ++ drop k d)) (sets_front (take k d) vs part)
    ∙ ap (λ (l : List ℕ). take at t ++ l) (append_assoc vs (drop m (take k d)) (drop k d) ∙ ap (λ (l : List ℕ). vs ++ l) behind)
    ∙ sym (sets-eq vs t at (omega arith) ∙ append_assoc (take at t) vs (drop (at + m) t))

module _ (n len : ℕ) where
  pub fit_true : entries_fit n len ≡ true → 34 + 20 * n ≤ len
  unfolding entries_fit
  fit_true e = leb-true (34 + 20 * n) len e

  pub fit_false : entries_fit n len ≡ false → len < 34 + 20 * n
  unfolding entries_fit
  fit_false e = leb-false (34 + 20 * n) len e

module _ (es : List ErrorEntry) (t : List ℕ) where
  -- the target keeps its length
  pub put_length : (i : ℕ) → length (entries_put es t i) ≡ length t
  put_length zero = refl
  put_length (suc i) = length-sets (entries_put es t i) (14 + 20 * i) (entry_bytes (entry_at_place es i)) ∙ put_length i
