-- Octets and a section behind them are written by copies: zeros, and over them the octets, the header and the payload.
-- Assumes nothing.
use Prim.Native.Nat.{ℕ, ◌+◌, ◌-◌, ◌≤◌, ◌<◌}
use mathlib.Core.Bool.{Bool, true, false}
use mathlib.Core.Path.{◌≡◌, refl, sym, ap, ◌∙◌}
use mathlib.Core.List.{List, ◌++◌, append_assoc, append-nil}
use native.Mathlib.Nat.{zero-add, le_of_lt}
use native.Mathlib.Omega.{arith}
use lib.Dec.{leb, ltb}
use lib.ListN.{length, drop, replicate, length-append, length-replicate}
use lib.Seq.{sets, length-sets, drop-drop, drop-append-le}
use borrow.Author.Tests.{le-leb, lt-leb, leb-true, leb-false, ltb-true, ltb-false}
use Rattle.std.proofs.lemmas.List.{drop-replicate}
use Rattle.std.specs.Prelude.{Ok, Err}
use Rattle.octets.proofs.ReadBack.{drop_sets}
use Rattle.octets.proofs.Sets.{sets_append, sets_front}
use Rattle.types.specs.Codes.{pick}
use Rattle.types.specs.declared.hal.PowerlinkError.TheVariants.{BufferTooShort}
use Rattle.section.specs.Write.{min_section, padded, write_answer, overwritten, Writes}

-- a section of at least n octets
module _ (n : ℕ) (f h p : List ℕ) where
  abbrev pub filled : List ℕ
  filled = f ++ ((h ++ p) ++ replicate (n - length (h ++ p)) 0)

  filled_length : length filled ≡ length f + (length h + length p + (n - (length h + length p)))
  filled_length = simp (length-append, length-replicate)

  three_copies : (t : List ℕ) → sets (sets (sets t 0 f) (length f) h) (length f + length h) p ≡ sets t 0 (f ++ (h ++ p))
  three_copies t = simp (sets_append, zero-add)

  module _ (t : List ℕ) (fits : length filled ≤ length t) where
    -- the octets of the header and the payload leave so many zeros over
    left_over : length h + length p ≤ n
        → drop (length f + (length h + length p)) (sets t (length f) (replicate n 0)) ≡ replicate (n - (length h + length p)) 0 ++ drop (length f + n) t
    left_over few =
        let m : ℕ = length h + length p in
        let zeros : List ℕ = replicate n 0 in
        let ln : length zeros ≡ n = length-replicate n _ in
        sym (drop-drop m (length f) (sets t (length f) zeros))
        ∙ ap (drop m) (drop_sets t (length f) zeros (omega (arith, filled_length)))
        ∙ drop-append-le m zeros (drop (length f + length zeros) t) (omega arith)
        ∙ rw (drop-replicate {X = ℕ} m n 0, ln)

    over_zeros : length h + length p ≤ n → sets (sets t (length f) (replicate n 0)) 0 (f ++ (h ++ p)) ≡ sets t 0 filled
    over_zeros few =
        let u : List ℕ = sets t (length f) (replicate n 0) in
        let y : List ℕ = f ++ (h ++ p) in
        let ly : length y ≡ length f + (length h + length p) = simp length-append in
        let lx : length filled ≡ length f + n = filled_length ∙ omega arith in
        sets_front u y (simp length-sets (omega (arith, filled_length)))
        ∙ ap (λ (i : ℕ). y ++ drop i u) ly
        ∙ ap (λ (l : List ℕ). y ++ l) (left_over few)
        ∙ (simp (append_assoc, length-append))
        ∙ sym (ap (λ (i : ℕ). filled ++ drop i t) lx)
        ∙ sym (sets_front t filled fits)

    unpadded : n ≤ length h + length p → f ++ (h ++ p) ≡ filled
    unpadded many = let e : n - (length h + length p) ≡ 0 = omega arith in simp (length-append, e, append-nil)

    pub four_copies : sets (sets (sets (pick (ltb (length h + length p) n) (sets t (length f) (replicate n 0)) t) 0 f) (length f) h) (length f + length h) p ≡ sets t 0 filled
    four_copies = split (ltb (length h + length p) n) refl
      where
        split : (b : Bool) → ltb (length h + length p) n ≡ b
            → sets (sets (sets (pick b (sets t (length f) (replicate n 0)) t) 0 f) (length f) h) (length f + length h) p ≡ sets t 0 filled
        split true k = three_copies (sets t (length f) (replicate n 0)) ∙ over_zeros (le_of_lt (ltb-true (length h + length p) n k))
        split false k = three_copies t ∙ ap (sets t 0) (unpadded (ltb-false (length h + length p) n k))

pub padded_length : (h p : List ℕ) → length (padded (h ++ p)) ≡ length h + length p + (min_section - (length h + length p))
unfolding padded
padded_length h p = simp (length-append, length-replicate)

pub behind_length : (f h p : List ℕ) → length (f ++ padded (h ++ p)) ≡ length f + (length h + length p + (min_section - (length h + length p)))
unfolding padded
behind_length f h p = filled_length min_section f h p

-- what fits the rest of a target fits it behind what stands before
pub fits_behind : (at n len : ℕ) → at ≤ len → leb n (len - at) ≡ leb (at + n) len
fits_behind at n len h = split (leb n (len - at)) refl
  where
    split : (e : Bool) → leb n (len - at) ≡ e → e ≡ leb (at + n) len
    split true q = sym (le-leb (at + n) len (omega (arith, leb-true n (len - at) q)))
    split false q = sym (lt-leb (at + n) len (omega (arith, leb-false n (len - at) q)))

module _ (f h p : List ℕ) (len : ℕ) where
  abbrev needed : ℕ
  needed = length f + (length h + length p + (min_section - (length h + length p)))

  pub room : leb needed len ≡ true → length (f ++ padded (h ++ p)) ≤ len
  room e = omega (arith, behind_length f h p, leb-true needed len e)

  pub no_room_lem : leb needed len ≡ false → len < length (f ++ padded (h ++ p))
  no_room_lem e = omega (arith, behind_length f h p, leb-false needed len e)

module _ (bs t : List ℕ) where
  -- a target that is too short stays as it was
  pub refuses : length t < length bs → Writes bs (Err BufferTooShort) t t
  unfolding write_answer overwritten
  refuses h =
      let e = lt-leb (length bs) (length t) h in
      record { answer = rw e; cause = rw e; holds = rw e }

  -- any other holds the bytes at its front
  pub writes : (n : ℕ) → length bs ≡ n → n ≤ length t → Writes bs (Ok n) t (sets t 0 bs)
  unfolding write_answer overwritten
  writes n e h =
      let k : length bs ≤ length t = omega arith in
      let f = le-leb (length bs) (length t) k in
      record { answer = rw (f, e); cause = rw (f, e); holds = rw f (sets_front t bs k) }
