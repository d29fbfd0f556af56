-- Steps one after the other: a call of `list_part`, and what its loop holds.
-- Assumes nothing.
use Prim.Native.Nat.{ℕ, zero, suc, ◌+◌, ◌-◌, ◌≤◌, ◌<◌}
use mathlib.Core.Bool.{Bool, true, false}
use mathlib.Core.Path.{◌≡◌, refl, sym, ap, subst, ◌∙◌}
use mathlib.Core.List.{List, ◌++◌, append_assoc}
use native.Mathlib.Nat.{not-suc-le-zero, zero-add, add_assoc, sub-zero, sub-add-eq}
use native.Mathlib.Omega.{arith}
use lib.Dec.{eqb}
use lib.ListN.{length, take, drop, length-append, length-drop}
use lib.Seq.{sets, sets-eq, length-sets, length-take-le, take_at, drop_at, drop-drop}
use borrow.Author.Tests.{eqb-false, eq-eqb, ne_eqb}
use borrow.Rule.Slice.PartMut.{mid_of, put_mid, mid_len}
use Rattle.std.specs.Prelude.{Result}
use Rattle.records.proofs.PutLaws.{sets_rest}
use Rattle.journal_records.specs.Parts.{Piece, answer_after, ahead, step_of, steps_of, part_of, told, Prints, Lists}
use Rattle.journal_records.specs.declared.listing.Part.{Part}
use Rattle.journal_records.specs.declared.listing.Phase.{Phase}
use Rattle.journal_records.proofs.AnswerLaws.{after_none, after_after}
use Rattle.journal_records.proofs.Steps.{Bounded, step_bounded}
use Rattle.journal_records.specs.declared.listing.Stop.{Stop}
use Rattle.journal_records.specs.declared.listing.ListError.{ListError}

-- ---- as many steps as are needed

-- a step that consumed something leaves fewer octets
pub fewer : (p : Phase) (s : List ℕ) (last : Bool) (room : ℕ) → ((step_of p s last room).consumed ≡ 0 → ⊥) → length (drop (step_of p s last room).consumed s) < length s
fewer p s last room f =
    let b = (step_bounded p s last room).most in
    rw length-drop (lower (step_of p s last room).consumed (length s) f b)
  where
    lower : (c n : ℕ) → (c ≡ 0 → ⊥) → c ≤ n → n - c < n
    lower zero n f h = absurd (f refl)
    lower (suc c) n f h = omega arith

module _ (last : Bool) where
  abbrev Same : ℕ → ℕ → Type 0
  Same n m = (p : Phase) (s : List ℕ) (room : ℕ) → length s < n → length s < m → steps_of n p s last room ≡ steps_of m p s last room

  one_step_more : (n m : ℕ) → Same n m → Same (suc n) (suc m)
  unfolding steps_of
  one_step_more n m same p s room h k = by_end (eqb q.consumed 0) refl
    where
      q : Piece
      q = step_of p s last room

      by_end : (b : Bool) → eqb q.consumed 0 ≡ b → steps_of (suc n) p s last room ≡ steps_of (suc m) p s last room
      by_end true e = rw e
      by_end false e =
          let l = fewer p s last room (eqb-false q.consumed 0 e) in
          rw e
          (ap (ahead q.consumed q.text)
          (same q.phase (drop q.consumed s) (room - length q.text) (omega arith) (omega arith)))

  steps_enough : (n m : ℕ) → Same n m
  steps_enough zero m p s room h k = absurd (not-suc-le-zero h)
  steps_enough (suc n) zero p s room h k = absurd (not-suc-le-zero k)
  steps_enough (suc n) (suc m) p s room h k = one_step_more n m (steps_enough n m) p s room h k

module _ (p : Phase) (s : List ℕ) (last : Bool) (room : ℕ) where
  pub part_stops : (step_of p s last room).consumed ≡ 0 → part_of p s last room ≡ step_of p s last room
  unfolding part_of steps_of
  part_stops e = rw (eq-eqb (step_of p s last room).consumed 0 e)

  pub part_goes_on : ((step_of p s last room).consumed ≡ 0 → ⊥)
      → part_of p s last room
      ≡ ahead (step_of p s last room).consumed (step_of p s last room).text
      (part_of (step_of p s last room).phase (drop (step_of p s last room).consumed s) last (room - length (step_of p s last room).text))
  unfolding part_of steps_of
  part_goes_on f =
      let q : Piece = step_of p s last room in
      one f
      ∙ ap (ahead q.consumed q.text)
      (steps_enough last (length s) (suc (length (drop q.consumed s))) q.phase (drop q.consumed s) (room - length q.text) (fewer p s last room f) (omega arith))
    where
      one : ((step_of p s last room).consumed ≡ 0 → ⊥)
          → steps_of (suc (length s)) p s last room
          ≡ ahead (step_of p s last room).consumed (step_of p s last room).text
          (steps_of (length s) (step_of p s last room).phase (drop (step_of p s last room).consumed s) last (room - length (step_of p s last room).text))
      one f = rw (ne_eqb (step_of p s last room).consumed 0 f)

-- ---- the loop

-- what the loop of a call holds: the octets consumed and the text written so far, in front of what the rest comes to, are the call's
pub record Held (p : Phase) (s : List ℕ) (last : Bool) (out₀ out : List ℕ) (q : Phase) (consumed written : ℕ) : Type 0 where
  pub most : consumed ≤ length s
  pub room : written ≤ length out₀
  pub size : length out ≡ length out₀
  pub behind : drop written out ≡ drop written out₀
  pub done : part_of p s last (length out₀) ≡ ahead consumed (take written out) (part_of q (drop consumed s) last (length out₀ - written))

pub held_first : {p : Phase} {s : List ℕ} {last : Bool} {out : List ℕ} → Held p s last out out p 0 0
held_first {p} {s} {last} {out} = record { most = omega arith; room = omega arith; size = refl; behind = refl; done = rw (sub-zero, zero-add, after_none 0 (part_of p (drop 0 s) last (length out)).answer refl) }

ahead_ahead : (c d : ℕ) (t u : List ℕ) (p : Piece) → ahead c t (ahead d u p) ≡ ahead (c + d) (t ++ u) p
ahead_ahead c d t u p = simp (add_assoc, append_assoc, after_after)

-- a text put behind what is written
module _ (out₀ out : List ℕ) (w : ℕ) (T : List ℕ) (fits : w + length T ≤ length out) where
  front_length : length (take w out ++ T) ≡ w + length T
  front_length = rw (length-append, length-take-le w out (omega arith))

  stored : sets out w T ≡ take w out ++ T ++ drop (w + length T) out
  stored = sets-eq T out w fits

  front_after : take (w + length T) (sets out w T) ≡ take w out ++ T
  front_after = rw (stored) (take_at (take w out ++ T) (drop (w + length T) out) (w + length T) front_length)

  behind_after : drop w out ≡ drop w out₀ → drop (w + length T) (sets out w T) ≡ drop (w + length T) out₀
  behind_after e =
      ap (drop (w + length T)) stored ∙ drop_at (take w out ++ T) (drop (w + length T) out) (w + length T) front_length
      ∙ sym (drop-drop (length T) w out) ∙ ap (drop (length T)) e ∙ drop-drop (length T) w out₀

  whole_after : drop w out ≡ drop w out₀ → sets out w T ≡ take w out ++ T ++ drop (length (take w out ++ T)) out₀
  whole_after e =
      stored
      ∙ ap (λ (l : List ℕ). take w out ++ T ++ l) (sym (drop-drop (length T) w out) ∙ ap (drop (length T)) e ∙ drop-drop (length T) w out₀)
      ∙ ap (λ (n : ℕ). take w out ++ T ++ drop n out₀) (sym front_length)

module _ {p : Phase} {s : List ℕ} {last : Bool} {out₀ out : List ℕ} {q : Phase} {c w : ℕ} (H : Held p s last out₀ out q c w) where
  mid_room : length (mid_of w (length out - w) out) ≡ length out₀ - w
  mid_room = mid_len w (length out) out (omega arith) ∙ ap (λ (n : ℕ). n - w) H.size

  module _ (k : Piece) (is : step_of q (drop c s) last (length out₀ - w) ≡ k) where
    bounds : Bounded (drop c s) (length out₀ - w) k
    bounds = subst (Bounded (drop c s) (length out₀ - w)) is (step_bounded q (drop c s) last (length out₀ - w))

    fit : w + length k.text ≤ length out
    fit = let b = bounds.fits in let r = H.room in let z = H.size in omega arith

    further : c + k.consumed ≤ length s
    further = let b = bounds.most in let m = H.most in omega (arith, length-drop c s)

    on : (k.consumed ≡ 0 → ⊥) → Held p s last out₀ (sets out w k.text) k.phase (c + k.consumed) (w + length k.text)
    on f =
        record {
          most = further;
          room = let z = H.size in omega (arith, fit);
          size = length-sets out w k.text ∙ H.size;
          behind = behind_after out₀ out w k.text fit H.behind;
          done =
              H.done
              ∙ ap (ahead c (take w out)) (subst (λ (j : Piece). (j.consumed ≡ 0 → ⊥) → part_of q (drop c s) last (length out₀ - w) ≡ ahead j.consumed j.text (part_of j.phase (drop j.consumed (drop c s)) last (length out₀ - w - length j.text))) is (part_goes_on q (drop c s) last (length out₀ - w)) f)
              ∙ ahead_ahead c k.consumed (take w out) k.text (part_of k.phase (drop k.consumed (drop c s)) last (length out₀ - w - length k.text))
              ∙ ap (λ (l : List ℕ). ahead (c + k.consumed) (take w out ++ k.text) (part_of k.phase l last (length out₀ - w - length k.text))) (drop-drop k.consumed c s)
              ∙ ap (λ (n : ℕ). ahead (c + k.consumed) (take w out ++ k.text) (part_of k.phase (drop (c + k.consumed) s) last n)) (sym (sub-add-eq (length out₀) w (length k.text)))
              ∙ ap (λ (l : List ℕ). ahead (c + k.consumed) l (part_of k.phase (drop (c + k.consumed) s) last (length out₀ - (w + length k.text)))) (sym (front_after out₀ out w k.text fit));
        }

    stop : k.consumed ≡ 0 → Lists p s last (record { answer = answer_after (c + k.consumed) k.answer; phase = k.phase; consumed = c + k.consumed; written = w + length k.text }) out₀ (sets out w k.text)
    stop f =
        let e : part_of p s last (length out₀) ≡ ahead c (take w out) k =
        H.done ∙ ap (ahead c (take w out)) (subst (λ (j : Piece). j.consumed ≡ 0 → part_of q (drop c s) last (length out₀ - w) ≡ j) is (part_stops q (drop c s) last (length out₀ - w)) f) in
        let z : c + k.consumed ≡ c = omega arith in
        let a : answer_after (c + k.consumed) k.answer ≡ answer_after c k.answer = ap (λ (n : ℕ). answer_after n k.answer) z in
        record {
          answer = rw (e, a) (ap (λ (n : ℕ). record { answer = answer_after c k.answer; phase = k.phase; consumed = c + k.consumed; written = n }) (sym (front_length out₀ out w k.text fit)));
          cause = rw (e, a);
          holds = rw e (whole_after out₀ out w k.text fit H.behind);
        }

  -- a turn of the loop: the step's text is written to the rest of `out`
  module _ {t part : List ℕ} {r : Part} (et : t ≡ drop c s)
      (P : Prints (step_of q t last (length (mid_of w (length out - w) out))) r (mid_of w (length out - w) out) part) where
    abbrev taken : Piece
    taken = step_of q (drop c s) last (length out₀ - w)

    same_step : step_of q t last (length (mid_of w (length out - w) out)) ≡ taken
    same_step = rw (et, mid_room)

    told_so : r ≡ told taken
    told_so = P.answer ∙ ap told same_step

    left : put_mid w (length out - w) out part ≡ sets out w taken.text
    left =
        ap (put_mid w (length out - w) out) (P.holds ∙ ap (λ (j : Piece). sets (mid_of w (length out - w) out) 0 j.text) same_step)
        ∙ sets_rest w out taken.text (omega (arith, fit taken refl))

    pub turn_most : c + r.consumed ≤ length s
    turn_most = rw told_so (further taken refl)

    pub turn_fits : w + r.written ≤ length out
    turn_fits = rw told_so (fit taken refl)

    pub turn_size : length (put_mid w (length out - w) out part) ≡ length out₀
    turn_size = ap length left ∙ length-sets out w taken.text ∙ H.size

    pub turn_less : (r.consumed ≡ 0 → ⊥) → length s - (c + r.consumed) < length s - c
    turn_less f = less r.consumed f turn_most
      where
        less : (d : ℕ) → (d ≡ 0 → ⊥) → c + d ≤ length s → length s - (c + d) < length s - c
        less zero f h = absurd (f refl)
        less (suc d) f h = omega arith

    pub turn_on : (r.consumed ≡ 0 → ⊥) → Held p s last out₀ (put_mid w (length out - w) out part) r.phase (c + r.consumed) (w + r.written)
    turn_on f = rw (left, told_so) (on taken refl (λ e. f (ap (λ (j : Part). j.consumed) told_so ∙ e)))

    pub turn_stop : {a : (Result Stop ListError)} → a ≡ answer_after (c + r.consumed) r.answer → r.consumed ≡ 0
        → Lists p s last (record { answer = a; phase = r.phase; consumed = c + r.consumed; written = w + r.written }) out₀ (put_mid w (length out - w) out part)
    turn_stop ea e = rw (ea, left, told_so) (stop taken refl (ap (λ (j : Part). j.consumed) (sym told_so) ∙ e))
