-- A write to the rest of a list is a write of the whole, and what a writer leaves is such a write.
-- Assumes nothing.
use Prim.Native.Nat.{ℕ, suc, ◌+◌, ◌-◌, ◌≤◌}
use mathlib.Core.Path.{◌≡◌, sym, ap, ◌∙◌}
use mathlib.Core.List.{List, [], ◌∷◌, ◌++◌, append-nil}
use native.Mathlib.Nat.{add-suc, le-add_right}
use native.Mathlib.Omega.{arith}
use lib.ListN.{length, take, drop, set, length-drop, take-append-drop, drop_of_length-le}
use lib.Seq.{sets, take_all, take-set-le, drop-set-add}
use borrow.Author.Tests.{le-leb}
use borrow.Rule.Slice.PartMut.{mid_of, put_mid}
use Rattle.std.specs.Prelude.{Result}
use Rattle.octets.proofs.Sets.{sets_front}
use Rattle.section.specs.Write.{overwritten, Writes}
use Rattle.types.specs.declared.hal.PowerlinkError.{PowerlinkError}

sets_behind : (at i : ℕ) (vs t : List ℕ) → sets t (at + i) vs ≡ take at t ++ sets (drop at t) i vs
sets_behind at i [] t = sym (take-append-drop at t)
sets_behind at i (v ∷ vs) t =
    ap (λ (k : ℕ). sets (set t (at + i) v) k vs) (sym (add-suc at i))
    ∙ sets_behind at (suc i) vs (set t (at + i) v)
    ∙ rw (take-set-le at t (at + i) v (le-add_right at i), drop-set-add at t i v)

pub sets_rest_from : (at i : ℕ) (t vs : List ℕ) → at ≤ length t → put_mid at (length t - at) t (sets (mid_of at (length t - at) t) i vs) ≡ sets t (at + i) vs
sets_rest_from at i t vs h =
    let rest : mid_of at (length t - at) t ≡ drop at t = take_all (length t - at) (drop at t) (simp length-drop (omega arith)) in
    let none : drop (length t - at) (drop at t) ≡ [] = drop_of_length-le (drop at t) {i = length t - at} (simp length-drop (omega arith)) in
    rw (rest, none, append-nil, sets_behind at i vs t)

-- octets that fit are written
pub writes_sets : (bs t : List ℕ) (r : Result ℕ PowerlinkError) (after : List ℕ) → Writes bs r t after → length bs ≤ length t → after ≡ sets t 0 bs
unfolding overwritten
writes_sets bs t r after w h = w.holds ∙ rw (le-leb (length bs) (length t) h) (sym (sets_front t bs h))
