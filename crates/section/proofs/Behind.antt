-- Octets that are written behind others, in the rest of the target: first the rest, then the front.
-- Assumes nothing.
use Prim.Native.Nat.{ℕ, ◌+◌, ◌-◌, ◌≤◌, ◌<◌}
use mathlib.Core.Path.{◌≡◌, refl, sym, ap, ◌∙◌}
use mathlib.Core.Bool.{Bool, true, false, true≢false}
use mathlib.Core.List.{List, ◌++◌, append_assoc, append-nil}
use native.Mathlib.Omega.{arith}
use lib.Dec.{leb}
use lib.ListN.{length, take, drop, length-append, length-drop, drop_of_length-le}
use lib.Seq.{sets, drop_at, take_all, drop-drop, length-take-le}
use borrow.Author.Tests.{leb-true, leb-false}
use borrow.Rule.Slice.PartMut.{mid_of, put_mid, put_same}
use Rattle.std.specs.Prelude.{Result, Ok, Err}
use Rattle.octets.proofs.Sets.{sets_front}
use Rattle.types.specs.Codes.{pick}
use Rattle.types.specs.declared.hal.PowerlinkError.{PowerlinkError}
use Rattle.types.specs.declared.hal.PowerlinkError.TheVariants.{BufferTooShort}
use Rattle.section.specs.Write.{overwritten, write_answer, Writes}
use Rattle.section.proofs.Sections.{refuses, writes}

module _ (bs t : List ℕ) where
  -- what an answer says of the lengths and of the target
  pub refused : (r : Result ℕ PowerlinkError) (e : PowerlinkError) (after : List ℕ) → Writes bs r t after → r ≡ Err e
      → (length t < length bs) × ((e ≡ BufferTooShort) × (after ≡ t))
  unfolding write_answer overwritten
  refused r e after w q = split (leb (length bs) (length t)) refl (sym q ∙ w.answer) w.holds
    where
      split : (b : Bool) → leb (length bs) (length t) ≡ b → Err e ≡ pick b (Ok (length bs)) (Err BufferTooShort)
          → after ≡ pick b (bs ++ drop (length bs) t) t → (length t < length bs) × ((e ≡ BufferTooShort) × (after ≡ t))
      split true k a h = absurd (true≢false cc)
      split false k a h = (leb-false (length bs) (length t) k, (cc, h))

  pub written : (r : Result ℕ PowerlinkError) (n : ℕ) (after : List ℕ) → Writes bs r t after → r ≡ Ok n
      → (length bs ≤ length t) × ((n ≡ length bs) × (after ≡ bs ++ drop (length bs) t))
  unfolding write_answer overwritten
  written r n after w q = split (leb (length bs) (length t)) refl (sym q ∙ w.answer) w.holds
    where
      split : (b : Bool) → leb (length bs) (length t) ≡ b → Ok n ≡ pick b (Ok (length bs)) (Err BufferTooShort)
          → after ≡ pick b (bs ++ drop (length bs) t) t → (length bs ≤ length t) × ((n ≡ length bs) × (after ≡ bs ++ drop (length bs) t))
      split true k a h = (leb-true (length bs) (length t) k, (cc, h))
      split false k a h = absurd (true≢false cc)

module _ (front bs t : List ℕ) (k : ℕ) (ek : length front ≡ k) (h : k ≤ length t) (r : Result ℕ PowerlinkError) (after : List ℕ)
    (w : Writes bs r (mid_of k (length t - k) t) after) where
  rest : mid_of k (length t - k) t ≡ drop k t
  rest = take_all (length t - k) (drop k t) (simp length-drop (omega arith))

  rest_length : length (mid_of k (length t - k) t) ≡ length t - k
  rest_length = ap length rest ∙ length-drop k t

  -- the rest is too short, and the target is as it was
  pub behind_refused : (e : PowerlinkError) → r ≡ Err e → Writes (front ++ bs) (Err e) t (put_mid k (length t - k) t after)
  behind_refused e q =
      let p = refused bs (mid_of k (length t - k) t) r e after w q in
      let short : length t < length (front ++ bs) = simp length-append (omega (arith, p.0, rest_length)) in
      rw (p.1.0, p.1.1, put_same k (length t - k) t) (refuses (front ++ bs) t short)

  module _ (n : ℕ) (q : r ≡ Ok n) where
    pub behind_bound : k + n ≤ length t
    behind_bound =
        let p = written bs (mid_of k (length t - k) t) r n after w q in
        omega (arith, p.0, p.1.0, rest_length)

    whole : drop k (put_mid k (length t - k) t after) ≡ bs ++ drop (k + length bs) t
    whole =
        let p = written bs (mid_of k (length t - k) t) r n after w q in
        drop_at (take k t) (after ++ drop (length t - k) (drop k t)) k (length-take-le k t h)
        ∙ rw (
          drop_of_length-le (drop k t) {i = length t - k} (simp length-drop (omega arith)),
          append-nil after,
          p.1.1,
          rest,
          drop-drop (length bs) k t,
        )

    -- both fit, and the front is written last
    pub behind_written : (t₂ : List ℕ) → t₂ ≡ sets (put_mid k (length t - k) t after) 0 front → Writes (front ++ bs) (Ok (k + n)) t t₂
    behind_written t₂ e₂ =
        let p = written bs (mid_of k (length t - k) t) r n after w q in
        let t₁ : List ℕ = put_mid k (length t - k) t after in
        let long : length front ≤ length t₁ = simp length-append (omega (arith, length-take-le k t h)) in
        let ln : length (front ++ bs) ≡ k + n = length-append front bs ∙ omega (arith, p.1.0) in
        let lb : length (front ++ bs) ≡ k + length bs = length-append front bs ∙ omega arith in
        let fits : length (front ++ bs) ≤ length t = omega (arith, behind_bound) in
        let e : t₂ ≡ sets t 0 (front ++ bs) =
        e₂
        ∙ sets_front t₁ front (omega arith)
        ∙ ap (λ (i : ℕ). front ++ drop i t₁) ek
        ∙ ap (λ (l : List ℕ). front ++ l) whole
        ∙ sym (append_assoc front bs (drop (k + length bs) t))
        ∙ ap (λ (i : ℕ). (front ++ bs) ++ drop i t) (sym lb)
        ∙ sym (sets_front t (front ++ bs) fits) in
        rw e (writes (front ++ bs) t (k + n) ln (omega (arith, behind_bound)))
