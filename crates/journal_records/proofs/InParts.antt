-- Calls one after the other print the listing, however the journal is cut into parts.
-- Assumes nothing.
use Prim.Native.Nat.{ℕ, zero, suc, ◌+◌, ◌-◌, ◌≤◌, ◌<◌}
use mathlib.Core.Bool.{Bool, true, false, true≢false}
use mathlib.Core.Path.{◌≡◌, refl, sym, ap, subst, ◌∙◌}
use mathlib.Core.List.{List, [], ◌++◌, append_assoc, append-nil}
use native.Mathlib.Nat.{not-suc-le-zero}
use native.Mathlib.Omega.{arith}
use lib.Dec.{eqb}
use lib.ListN.{length, take, drop, replicate, length-append, length-drop, length-replicate}
use lib.Seq.{drop-drop, take-append_seam}
use borrow.Author.Tests.{eqb-true, eqb-false}
use borrow.Author.Clash.{clash}
use Rattle.std.specs.Prelude.{Result, Ok, Err}
use Rattle.journal_records.specs.InParts.{Run, over, call, EndsIn, ListsInParts}
use Rattle.journal_records.specs.Listing.{refused_line}
use Rattle.journal_records.specs.Parts.{Piece, stopped, ahead, step_of, part_of, told, Lists, list_cause, text_from, goes_on, crowded, due_after, needed}
use Rattle.types.specs.Codes.{pick}
use Rattle.journal_records.specs.declared.listing.ListError.TheVariants.{BufferTooShort, NotAJournal, UnknownVersion, RecordInvalid}
use Rattle.journal_records.specs.declared.listing.Stop.TheVariants.{More, Full, End}
use Rattle.journal_records.specs.declared.listing.Part.{Part}
use Rattle.journal_records.specs.declared.listing.Phase.{Phase}
use Rattle.journal_records.proofs.AnswerLaws.{after_on, after_room, after_more, after_end, after_refused, after_never}
use Rattle.journal_records.proofs.PartLaws.{fewer, part_stops, part_goes_on}
use Rattle.journal_records.proofs.Steps.{Bounded, step_due, step_bounded}
use Rattle.journal_records.proofs.Views.{Lined, View, view, waits, ends, full, lined, head_cut, unmarked, other_version, head_good, short, fault, good}
use Rattle.journal_records.specs.declared.listing.Stop.{Stop}
use Rattle.journal_records.specs.declared.listing.ListError.{ListError}

some_sum : (c d : ℕ) → (c ≡ 0 → ⊥) → 0 < c + d
some_sum zero d f = absurd (f refl)
some_sum (suc c) d f = omega arith

-- ---- what the answer of a step tells

lined_line : {p : Phase} {s : List ℕ} {last : Bool} {q : Piece} → Lined p s last q → (q.consumed ≡ 0 → ⊥) → q.answer ≡ Ok More
lined_line (head_cut h) f = absurd (f refl)
lined_line (unmarked h m) f = absurd (f refl)
lined_line (other_version h m v) f = absurd (f refl)
lined_line (head_good h m v) f = refl
lined_line (short h n) f = absurd (f refl)
lined_line (fault h e) f = absurd (f refl)
lined_line (good h e) f = refl

-- a line is written for octets that it consumes, or for a refusal
lined_room : {p : Phase} {s : List ℕ} {last : Bool} {q : Piece} → Lined p s last q
    → (crowded q.answer ≡ false) × ((q.consumed ≡ 0 → q.answer ≡ Ok More → ⊥) × (q.answer ≡ Ok End → ⊥))
lined_room (head_cut h) = (refl, (λ z e. true≢false cc, λ e. true≢false cc))
lined_room (unmarked h m) = (refl, (λ z e. true≢false cc, λ e. true≢false cc))
lined_room (other_version h m v) = (refl, (λ z e. true≢false cc, λ e. true≢false cc))
lined_room (head_good h m v) = (refl, (λ z e. omega arith, λ e. true≢false cc))
lined_room (short h n) = (refl, (λ z e. true≢false cc, λ e. true≢false cc))
lined_room (fault h k) = (refl, (λ z e. true≢false cc, λ e. true≢false cc))
lined_room (good h k) = (refl, (λ z e. omega arith, λ e. true≢false cc))

view_line : {p : Phase} {s : List ℕ} {last : Bool} {room : ℕ} {q : Piece} → View p s last room q → (q.consumed ≡ 0 → ⊥) → q.answer ≡ Ok More
view_line (waits h) f = refl
view_line (ends h) f = absurd (f refl)
view_line (full h) f = absurd (f refl)
view_line (lined r l) f = lined_line l f

view_more : {p : Phase} {s : List ℕ} {last : Bool} {room : ℕ} {q : Piece} → View p s last room q → q.consumed ≡ 0 → q.answer ≡ Ok More
    → (last ≡ false) × (length s < q.consumed + needed q.phase)
view_more (waits h) z e = (refl, omega arith)
view_more (ends h) z e = absurd (true≢false cc)
view_more (full h) z e = absurd (true≢false cc)
view_more (lined r l) z e = absurd ((lined_room l).1.0 z e)

view_end : {p : Phase} {s : List ℕ} {last : Bool} {room : ℕ} {q : Piece} → View p s last room q → q.answer ≡ Ok End → (last ≡ true) × (q.consumed ≡ length s)
view_end (waits h) e = absurd (true≢false cc)
view_end (ends h) e = (refl, sym h)
view_end (full h) e = absurd (true≢false cc)
view_end (lined r l) e = absurd ((lined_room l).1.1 e)

-- a refusal is its line
abbrev Refused : Piece → Type 0
Refused q = 17 ≤ (list_cause q.answer).number → EndsIn (refused_line (list_cause q.answer).number) q.text

lined_refused : {p : Phase} {s : List ℕ} {last : Bool} {q : Piece} → Lined p s last q → Refused q
lined_refused (head_cut h) k = record { front = []; joins = refl }
lined_refused (unmarked h m) k = record { front = []; joins = refl }
lined_refused (other_version h m v) k = record { front = []; joins = refl }
lined_refused (head_good h m v) k = let z : ⊥ = omega arith in absurd z
lined_refused (short h n) k = record { front = []; joins = refl }
lined_refused (fault h e) k = record { front = []; joins = refl }
lined_refused (good h e) k = let z : ⊥ = omega arith in absurd z

view_refused : {p : Phase} {s : List ℕ} {last : Bool} {room : ℕ} {q : Piece} → View p s last room q → Refused q
view_refused (waits h) k = let z : ⊥ = omega arith in absurd z
view_refused (ends h) k = let z : ⊥ = omega arith in absurd z
view_refused (full h) k = let z : ⊥ = omega arith in absurd z
view_refused (lined r l) k = lined_refused l k

refused_ahead : (c : ℕ) (t : List ℕ) (q : Piece) → Refused q → Refused (ahead c t q)
refused_ahead c t q f k =
    let e = after_refused c q.answer k in
    rw e (behind (f (rw e at k)))
  where
    behind : {line : List ℕ} → EndsIn line q.text → EndsIn line (t ++ q.text)
    behind {line} x = record { front = t ++ x.front; joins = ap (λ (u : List ℕ). t ++ u) x.joins ∙ sym (append_assoc t x.front line) }

-- what a step answers where there is no room
view_crowded : {p : Phase} {s : List ℕ} {last : Bool} {room : ℕ} {q : Piece} → View p s last room q → crowded q.answer ≡ true
    → (room < 55) × (q ≡ stopped (Err BufferTooShort) p)
view_crowded (waits h) e = clash _ e refl
view_crowded (ends h) e = clash _ e refl
view_crowded (full h) e = (h, refl)
view_crowded (lined r l) e = clash _ e (lined_room l).0

view_full : {p : Phase} {s : List ℕ} {last : Bool} {room : ℕ} {q : Piece} → View p s last room q → crowded q.answer ≡ true → room < 55
view_full v e = (view_crowded v e).0

view_short : {p : Phase} {s : List ℕ} {last : Bool} {room : ℕ} {q : Piece} → View p s last room q → q.answer ≡ Err BufferTooShort → q ≡ stopped (Err BufferTooShort) p
view_short v e = (view_crowded v (ap crowded e)).1

view_never : {p : Phase} {s : List ℕ} {last : Bool} {room : ℕ} {q : Piece} → View p s last room q → q.answer ≡ Ok Full → ⊥
view_never v e = let s = ap (λ (q : Piece). q.answer) (view_crowded v (ap crowded e)).1 in true≢false cc

line_more : (p : Phase) (s : List ℕ) (last : Bool) (room : ℕ) → ((step_of p s last room).consumed ≡ 0 → ⊥) → (step_of p s last room).answer ≡ Ok More
line_more p s last room f = view_line (view p s last room) f

-- what holds of the steps' piece, for octets of which there are fewer than n
module _ (last : Bool) where
  abbrev Fact : Type 1
  Fact = Phase → List ℕ → ℕ → Piece → Type 0

  -- a fact of each call, by induction on how many octets there are
  module _ (F : Fact)
      (stops : (p : Phase) (s : List ℕ) (room : ℕ) → (step_of p s last room).consumed ≡ 0 → F p s room (step_of p s last room))
      (goes_on_lem : (p : Phase) (s : List ℕ) (room : ℕ) (q : Piece) → ((step_of p s last room).consumed ≡ 0 → ⊥)
      → F (step_of p s last room).phase (drop (step_of p s last room).consumed s) (room - length (step_of p s last room).text) q
      → F p s room (ahead (step_of p s last room).consumed (step_of p s last room).text q)) where
    by_steps : (n : ℕ) (p : Phase) (s : List ℕ) (room : ℕ) → length s < n → F p s room (part_of p s last room)
    by_steps zero p s room h = absurd (not-suc-le-zero h)
    by_steps (suc n) p s room h = split (eqb (step_of p s last room).consumed 0) refl (by_steps n)
      where
        split : (b : Bool) → eqb (step_of p s last room).consumed 0 ≡ b
            → ((p : Phase) (s : List ℕ) (room : ℕ) → length s < n → F p s room (part_of p s last room)) → F p s room (part_of p s last room)
        split true e ih = let f = eqb-true (step_of p s last room).consumed 0 e in rw (part_stops p s last room f) (stops p s room f)
        split false e ih =
            let f = eqb-false (step_of p s last room).consumed 0 e in
            rw (part_goes_on p s last room f) (goes_on_lem p s room _ f (ih _ _ _ (omega (arith, fewer p s last room f))))

    pub of_part : (p : Phase) (s : List ℕ) (room : ℕ) → F p s room (part_of p s last room)
    of_part p s room = by_steps (suc (length s)) p s room (omega arith)

  -- ---- the text

  abbrev Due : List ℕ → Fact
  Due rest p s room q = text_from p (s ++ rest) ≡ q.text ++ due_after q.answer q.phase (drop q.consumed s ++ rest)

  pub part_due : (rest : List ℕ) → (last ≡ true → rest ≡ []) → (p : Phase) (s : List ℕ) (room : ℕ) → Due rest p s room (part_of p s last room)
  part_due rest l =
      of_part (Due rest) (λ p s room e. step_due rest p s last room l)
      (λ p s room q f e.
      step_due rest p s last room l
      ∙ ap (λ (a : Result Stop ListError). (step_of p s last room).text ++ due_after a (step_of p s last room).phase (drop (step_of p s last room).consumed s ++ rest)) (line_more p s last room f)
      ∙ ap (λ (t : List ℕ). (step_of p s last room).text ++ t) e
      ∙ joins (step_of p s last room).text q.text q.answer q.phase (step_of p s last room).consumed q.consumed s rest
      ∙ ap
      (λ (b : Bool).
      ((step_of p s last room).text ++ q.text) ++ pick b (text_from q.phase (drop ((step_of p s last room).consumed + q.consumed) s ++ rest)) [])
      (sym (after_on (step_of p s last room).consumed q.answer)))
    where
      joins : (t u : List ℕ) (a : Result Stop ListError) (q : Phase) (c d : ℕ) (s rest : List ℕ) → t ++ (u ++ due_after a q (drop d (drop c s) ++ rest)) ≡ (t ++ u) ++ due_after a q (drop (c + d) s ++ rest)
      joins t u a q c d s rest = rw (append_assoc, drop-drop d c s)

  -- ---- bounds

  pub part_bounded : (p : Phase) (s : List ℕ) (room : ℕ) → Bounded s room (part_of p s last room)
  part_bounded =
      of_part (λ p s room q. Bounded s room q) (λ p s room e. step_bounded p s last room)
      (λ p s room q f b.
      let a = step_bounded p s last room in
      let m = b.most in
      let n = b.fits in
      record {
        most = omega (arith, a.most, length-drop (step_of p s last room).consumed s);
        fits = rw length-append (omega (arith, a.fits));
      })

  -- ---- answers

  pub part_more : (p : Phase) (s : List ℕ) (room : ℕ) → (part_of p s last room).answer ≡ Ok More
      → (last ≡ false) × (length s < (part_of p s last room).consumed + needed (part_of p s last room).phase)
  part_more =
      of_part (λ p s room q. q.answer ≡ Ok More → (last ≡ false) × (length s < q.consumed + needed q.phase))
      (λ p s room z. view_more (view p s last room) z)
      (λ p s room q f h e.
      let m = h (after_more (step_of p s last room).consumed q.answer e) in
      let k = m.1 in
      (m.0, omega (arith, length-drop (step_of p s last room).consumed s, (step_bounded p s last room).most)))

  pub part_full : (p : Phase) (s : List ℕ) (room : ℕ) → crowded (part_of p s last room).answer ≡ true → room < length (part_of p s last room).text + 55
  part_full =
      of_part (λ p s room q. crowded q.answer ≡ true → room < length q.text + 55)
      (λ p s room z e. omega (arith, view_full (view p s last room) e))
      (λ p s room q f h e.
      rw length-append (omega (arith, h (sym (after_room (step_of p s last room).consumed q.answer) ∙ e), (step_bounded p s last room).fits)))

  pub part_end : (p : Phase) (s : List ℕ) (room : ℕ) → (part_of p s last room).answer ≡ Ok End → (last ≡ true) × ((part_of p s last room).consumed ≡ length s)
  part_end =
      of_part (λ p s room q. q.answer ≡ Ok End → (last ≡ true) × (q.consumed ≡ length s)) (λ p s room z. view_end (view p s last room))
      (λ p s room q f h e.
      let m = h (after_end (step_of p s last room).consumed q.answer e) in
      let k = m.1 in
      (m.0, omega (arith, length-drop (step_of p s last room).consumed s, (step_bounded p s last room).most)))

  pub part_refused : (p : Phase) (s : List ℕ) (room : ℕ) → Refused (part_of p s last room)
  part_refused =
      of_part (λ p s room q. Refused q) (λ p s room z. view_refused (view p s last room))
      (λ p s room q f h. refused_ahead (step_of p s last room).consumed (step_of p s last room).text q h)

-- ---- how a call begins

module _ (p : Phase) (s : List ℕ) (last : Bool) (room : ℕ) where
  -- whether its first step is its last
  by_first : (F : Piece → Type 0) → F (step_of p s last room)
      → (((step_of p s last room).consumed ≡ 0 → ⊥) → (q : Piece) → F (ahead (step_of p s last room).consumed (step_of p s last room).text q))
      → F (part_of p s last room)
  by_first F f g = split (eqb (step_of p s last room).consumed 0) refl
    where
      split : (b : Bool) → eqb (step_of p s last room).consumed 0 ≡ b → F (part_of p s last room)
      split true z = rw (part_stops p s last room (eqb-true (step_of p s last room).consumed 0 z)) f
      split false z = let h = eqb-false (step_of p s last room).consumed 0 z in rw (part_goes_on p s last room h) (g h _)

  part_progress : (part_of p s last room).answer ≡ Ok Full → 0 < (part_of p s last room).consumed
  part_progress =
      by_first (λ q. q.answer ≡ Ok Full → 0 < q.consumed) (λ e. absurd (view_never (view p s last room) e))
      (λ h q e. some_sum (step_of p s last room).consumed q.consumed h)

  part_short : (part_of p s last room).answer ≡ Err BufferTooShort → part_of p s last room ≡ stopped (Err BufferTooShort) p
  part_short =
      by_first (λ q. q.answer ≡ Err BufferTooShort → q ≡ stopped (Err BufferTooShort) p) (λ e. view_short (view p s last room) e)
      (λ h q e. absurd (after_never (step_of p s last room).consumed q.answer h e))

-- ---- calls

module _ {p : Phase} {s : List ℕ} {last : Bool} {r : Part} {out after : List ℕ} (L : Lists p s last r out after) where
  printed : take r.written after ≡ (part_of p s last (length out)).text
  printed =
      rw (L.answer, L.holds)
      (take-append_seam (part_of p s last (length out)).text (drop (length (part_of p s last (length out)).text) out))

  call_text : (rest : List ℕ) → (last ≡ true → rest ≡ [])
      → text_from p (s ++ rest) ≡ take r.written after ++ due_after r.answer r.phase (drop r.consumed s ++ rest)
  call_text rest l = rw printed (rw L.answer (part_due last rest l p s (length out)))

  call_within : (r.consumed ≤ length s) × (r.written ≤ length out) × (length after ≡ length out)
  call_within =
      let b = part_bounded last p s (length out) in
      (rw L.answer b.most, rw L.answer b.fits, ap length L.holds ∙ kept (part_of p s last (length out)).text b.fits)
    where
      kept : (t : List ℕ) → length t ≤ length out → length (t ++ drop (length t) out) ≡ length out
      kept t h = rw (length-append, length-drop) (omega arith)

  answered : {a : (Result Stop ListError)} → r.answer ≡ a → (part_of p s last (length out)).answer ≡ a
  answered e = sym (ap (λ (x : Part). x.answer) L.answer) ∙ e

  call_more : r.answer ≡ Ok More → (last ≡ false) × (length s < r.consumed + needed r.phase)
  call_more e = rw L.answer (part_more last p s (length out) (answered e))

  call_full : r.answer ≡ Ok Full → (0 < r.consumed) × (length out < r.written + 55)
  call_full e = rw L.answer (part_progress p s last (length out) (answered e), part_full last p s (length out) (ap crowded (answered e)))

  call_short : r.answer ≡ Err BufferTooShort → (length out < 55) × ((r.consumed ≡ 0) × ((r.phase ≡ p) × (after ≡ out)))
  call_short e =
      let q = part_short p s last (length out) (answered e) in
      let t : r ≡ told (stopped (Err BufferTooShort) p) = L.answer ∙ ap told q in
      let k = part_full last p s (length out) (ap crowded (answered e)) in
      let n : length (part_of p s last (length out)).text ≡ 0 = ap (λ (x : Piece). length x.text) q in
      (omega arith, (ap (λ (x : Part). x.consumed) t, (ap (λ (x : Part). x.phase) t, L.holds ∙ ap (λ (x : Piece). x.text ++ drop (length x.text) out) q)))

  call_end : r.answer ≡ Ok End → (last ≡ true) × (r.consumed ≡ length s)
  call_end e = rw L.answer (part_end last p s (length out) (answered e))

  call_refused : 17 ≤ (list_cause r.answer).number → EndsIn (refused_line (list_cause r.answer).number) (take r.written after)
  call_refused k = rw (printed, ← answered refl) (part_refused last p s (length out) (rw (← answered refl) at k))

run_text : {room : ℕ} {p : Phase} {input text : List ℕ} → Run room p input text → text ≡ text_from p input
run_text (over {s = s} {rest = rest} {r = r} {after = after} L h l g) =
    sym (append-nil (take r.written after))
    ∙ ap (λ (b : Bool). take r.written after ++ pick b (text_from r.phase (drop r.consumed s ++ rest)) []) (sym g)
    ∙ sym (call_text L rest (λ e. let all = l e in cc))
run_text (call {s = s} {rest = rest} {r = r} {after = after} L h l g run) =
    ap (λ (t : List ℕ). take r.written after ++ t) (run_text run)
    ∙ ap (λ (b : Bool). take r.written after ++ pick b (text_from r.phase (drop r.consumed s ++ rest)) []) (sym g)
    ∙ sym (call_text L rest (λ e. let all = l e in cc))

-- ---- a run of calls that are lent all that is left

module _ (room : ℕ) (line : 55 ≤ room) where
  out : List ℕ
  out = replicate room 0

  all_room : room ≡ length out
  unfolding out
  all_room = sym (length-replicate room 0)

  -- what a call that is lent the rest does
  abbrev last_call : Phase → List ℕ → Piece
  last_call p s = part_of p s true (length out)

  made : (p : Phase) (s : List ℕ) → Lists p s true (told (last_call p s)) out ((last_call p s).text ++ drop (length (last_call p s).text) out)
  made p s = record { answer = refl; cause = refl; holds = refl }

  -- what it prints, and leaves
  abbrev print_of : Phase → List ℕ → List ℕ
  print_of p s = take (length (last_call p s).text) ((last_call p s).text ++ drop (length (last_call p s).text) out)

  abbrev left_of : Phase → List ℕ → List ℕ
  left_of p s = drop (last_call p s).consumed s ++ []

  due_of : (p : Phase) (s : List ℕ) → text_from p (s ++ []) ≡ print_of p s ++ due_after (last_call p s).answer (last_call p s).phase (left_of p s)
  due_of p s = call_text (made p s) [] (λ e. refl)

  one_call : (p : Phase) (s : List ℕ) → goes_on (last_call p s).answer ≡ true → Run room (last_call p s).phase (left_of p s) (text_from (last_call p s).phase (left_of p s))
      → Run room p s (text_from p s)
  one_call p s g run =
      subst (λ (l : List ℕ). Run room p l (text_from p l)) (append-nil s)
      (rw (due_of p s, g) (call (made p s) (omega (arith, all_room)) (λ e. refl) g run))

  last_one : (p : Phase) (s : List ℕ) → goes_on (last_call p s).answer ≡ false → Run room p s (text_from p s)
  last_one p s g =
      subst (λ (l : List ℕ). Run room p l (text_from p l)) (append-nil s)
      (rw (due_of p s, g, append-nil (print_of p s)) (over (made p s) (omega (arith, all_room)) (λ e. refl) g))

  runs : (n : ℕ) (p : Phase) (s : List ℕ) → length s < n → Run room p s (text_from p s)
  runs zero p s h = absurd (not-suc-le-zero h)
  runs (suc n) p s h = by_answer (last_call p s).answer refl (runs n)
    where
      by_answer : (a : Result Stop ListError) → (last_call p s).answer ≡ a → ((p : Phase) (s : List ℕ) → length s < n → Run room p s (text_from p s)) → Run room p s (text_from p s)
      by_answer (Ok More) e ih = let f = (call_more (made p s) e).0 in absurd (true≢false cc)
      by_answer (Ok Full) e ih =
          one_call p s (ap goes_on e)
          (ih (last_call p s).phase (left_of p s)
          (rw (append-nil, length-drop) (omega (arith, (part_bounded true p s (length out)).most, (call_full (made p s) e).0))))
      by_answer (Err BufferTooShort) e ih = let y : ⊥ = omega (arith, all_room, (call_short (made p s) e).0) in absurd y
      by_answer (Ok End) e ih = last_one p s (ap goes_on e)
      by_answer (Err NotAJournal) e ih = last_one p s (ap goes_on e)
      by_answer (Err UnknownVersion) e ih = last_one p s (ap goes_on e)
      by_answer (Err RecordInvalid) e ih = last_one p s (ap goes_on e)

pub lists_in_parts : ListsInParts
lists_in_parts =
    record {
      text = call_text;
      within = call_within;
      more = call_more;
      full = call_full;
      short = call_short;
      end = call_end;
      refused = call_refused;
      listed = run_text;
      ends = λ room line p left. runs room line (suc (length left)) p left (omega arith);
    }
