-- `batch::fill` meets its contract.
-- Assumes nothing.
use Prim.Native.Nat.{ℕ, ◌+◌, ◌-◌, ◌≤◌}
use mathlib.Core.Path.{◌≡◌, sym, ap, ◌∙◌}
use mathlib.Core.List.{List, ◌++◌, append_assoc}
use native.Mathlib.Omega.{arith}
use lib.ListN.{length, take, drop, replicate, length-replicate, length-drop}
use lib.Seq.{sets, sets-eq, drop-drop, length-take-le}
use borrow.Rule.Slice.PartMut.{put_mid}
use Rattle.reporter.proofs.batch.fill.Goals as goal

-- a part that is all zeros
zeroed : (t part : List ℕ) (at k : ℕ) → at + k ≤ length t → part ≡ replicate (length (take k (drop at t))) 0
    → put_mid at k t part ≡ sets t at (replicate k 0)
zeroed t part at k h e =
    let zs : List ℕ = replicate k 0 in
    let l : length zs ≡ k = length-replicate {A = ℕ} k 0 in
    let m : length (take k (drop at t)) ≡ k = length-take-le k (drop at t) (simp length-drop (omega arith)) in
    ap (put_mid at k t) (e ∙ ap (λ (n : ℕ). replicate n 0) m)
    ∙ ap (λ (d : List ℕ). take at t ++ (zs ++ d)) (drop-drop k at t ∙ ap (λ (n : ℕ). drop (at + n) t) (sym l))
    ∙ sym (sets-eq zs t at (omega arith) ∙ (simp append_assoc))

pub returns : goal.returns
returns c =
    let a = c.args in
    let t : List ℕ = a.target.now in (
      omega (arith, c.max.ensures),
      elim c.if-len-lt-PAYLOAD_MIN.branch [
        | goal.then-len-lt-PAYLOAD_MIN w ↦ w.target-is ∙ zeroed t _ a.len (42 - a.len) (omega (arith, c.requires, w.if-len-lt-PAYLOAD_MIN.true)) (w.fill.ensures.after (λ y e. e))
        | goal.else-len-lt-PAYLOAD_MIN w ↦ let none : 0 ≡ 42 - a.len = omega (arith, w.if-len-lt-PAYLOAD_MIN.false) in w.target-is ∙ ap (λ (n : ℕ). sets t a.len (replicate n 0)) none
      ],
    )
