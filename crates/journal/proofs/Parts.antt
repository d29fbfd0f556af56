-- What the contract of `list_part` says of how far a part is listed, and what is said and due then.
-- Assumes nothing.
use Prim.Native.Nat.{ℕ, ◌+◌, ◌-◌, ◌*◌, ◌≤◌, ◌<◌}
use mathlib.Core.Bool.{Bool, true, false}
use mathlib.Core.Path.{◌≡◌, refl, sym, ap, subst, ◌∙◌}
use mathlib.Core.List.{List, [], ◌++◌, append_assoc, append-nil}
use native.Mathlib.Omega.{arith}
use lib.ListN.{length, take, drop, length-drop, length-append}
use lib.Seq.{drop_at, drop-drop, length-take-le, take-append_seam}
use borrow.Author.Clash.{clash}
use Rattle.std.specs.Prelude.{Option, Result, Ok, Err}
use Rattle.journal_records.specs.Listing.{version1, listing}
use Rattle.journal_records.specs.Parts.{Lists, text_from, crowded, due_after, needed}
use Rattle.journal_records.specs.declared.listing.ListError.TheVariants as refused
use Rattle.journal_records.specs.declared.listing.Stop.TheVariants as stop
use Rattle.journal_records.specs.declared.listing.Part.{Part}
use Rattle.journal_records.specs.declared.listing.Phase.{Phase}
use Rattle.journal_records.specs.declared.listing.Phase.TheVariants.{Header, Records}
use Rattle.journal_records.proofs.InParts.{lists_in_parts}
use Rattle.journal.specs.declared.Rest.{Rest}
use Rattle.journal.specs.declared.streams.Failed.{Failed}
use Rattle.journal.specs.declared.streams.Streams.{Streams}
use Rattle.journal.specs.Rest.{Follows, Says, Stands, Done, Listed, buffer_len, record_len, rest_after}
use Rattle.journal.specs.Streams.{said_more, count_most, Counted}
use Rattle.journal_records.specs.declared.listing.Stop.{Stop}
use Rattle.journal_records.specs.declared.listing.ListError.{ListError}

needed_most : (p : Phase) → needed p ≤ record_len
unfolding version1
needed_most Header = omega arith
needed_most Records = omega arith

pub listed_as : (s s' : List ℕ) (before after : Streams) (r r' : Result (Option Rest) Failed) → s ≡ s' → r ≡ r' → Listed s before after r → Listed s' before after r'
listed_as s s' before after r r' e f h = rw (← e, ← f) h

-- what the loop of `list` holds: how far the program stands, and that few enough octets are said to be counted
pub record SoFar (s : List ℕ) (before : Streams) (q : Phase) (at : ℕ) (now : Streams) : Type 0 where
  pub stands : Stands now q (drop at s)
  pub within : at ≤ length s
  pub ends : now.ended ≡ before.ended
  pub got : now.got ≡ before.got
  pub most : now.said ≤ before.said + buffer_len * at

-- a call of `list_part`, with room for a line
module _ {p : Phase} {s : List ℕ} {at : ℕ} {before now : Streams} {t : List ℕ} {last : Bool} {r : Part} {out after : List ℕ} (F : SoFar s before p at now) (et : t ≡ drop at s)
    (el : last ≡ now.ended) (L : Lists p t last r out after) where
  rest_length : length t ≡ length s - at
  rest_length = ap length et ∙ length-drop at s

  pub further : at + r.consumed ≤ length s
  further = let w = F.within in omega (arith, rest_length, (lists_in_parts.within L).0)

  pub same_size : length after ≡ length out
  same_size = (lists_in_parts.within L).2

  abbrev printed : List ℕ
  printed = take r.written after

  printed_length : length printed ≡ r.written
  printed_length = length-take-le r.written after (omega (arith, same_size, (lists_in_parts.within L).1))

  -- what is due behind the text that was printed
  abbrev then : List ℕ → List ℕ
  then rest = due_after r.answer r.phase (drop (at + r.consumed) s ++ rest)

  still_due : (rest : List ℕ) → Follows now.ended rest → listing (F.stands.input ++ rest) ≡ F.stands.text ++ (printed ++ then rest)
  still_due rest l =
      F.stands.due rest l
      ∙ ap (λ (u : List ℕ). F.stands.text ++ u)
      (subst (λ (u : List ℕ). text_from p (u ++ rest) ≡ printed ++ due_after r.answer r.phase (drop r.consumed u ++ rest)) et (lists_in_parts.text L rest (λ e. l (sym el ∙ e)))
      ∙ ap (λ (u : List ℕ). printed ++ due_after r.answer r.phase (u ++ rest)) (drop-drop r.consumed at s))

  -- the text that was printed is the one at the count's place
  pub says : {u : List ℕ} → u ≡ printed → Says now u
  says {u} eu =
      record {
        good = F.stands.good;
        input = F.stands.input;
        read = F.stands.read;
        due = λ rest l. ap (λ (x : List ℕ). take (length u) (drop now.said x)) (still_due rest l)
            ∙ ap (take (length u)) (drop_at F.stands.text (printed ++ then rest) now.said F.stands.said)
            ∙ subst (λ (v : List ℕ). take (length v) (printed ++ then rest) ≡ v) (sym eu) (take-append_seam printed (then rest));
      }

  pub countable : {u : List ℕ} → u ≡ printed → before.said ≤ count_most → length s ≤ buffer_len → buffer_len ≡ length out → Counted (now.said + length u)
  countable eu b k room =
      let m = F.most in
      let w = F.within in
      omega (arith, ap length eu, printed_length, (lists_in_parts.within L).1)

  -- the text that was printed is said
  module _ {u : List ℕ} {told : Streams} (all_said : told ≡ said_more now (length u)) (eu : u ≡ printed) where
    good : told.failed ≡ false
    good = ap (λ (x : Streams). x.failed) all_said ∙ F.stands.good

    abbrev so_far : List ℕ
    so_far = F.stands.text ++ printed

    said_length : length so_far ≡ told.said
    said_length =
        length-append F.stands.text printed
        ∙ ap (λ (n : ℕ). n + length printed) F.stands.said
        ∙ ap (λ (l : List ℕ). now.said + length l) (sym eu)
        ∙ sym (ap (λ (x : Streams). x.said) all_said)

    got_same : told.got ≡ now.got
    got_same = ap (λ (x : Streams). x.got) all_said

    ends_same : told.ended ≡ now.ended
    ends_same = ap (λ (x : Streams). x.ended) all_said

    due_told : (rest : List ℕ) → Follows told.ended rest → listing (F.stands.input ++ rest) ≡ so_far ++ then rest
    due_told rest l = still_due rest (λ e. l (ends_same ∙ e)) ∙ sym (append_assoc F.stands.text printed (then rest))

    stands_told : ((rest : List ℕ) → then rest ≡ text_from r.phase (drop (at + r.consumed) s ++ rest)) → Stands told r.phase (drop (at + r.consumed) s)
    stands_told d =
        record {
          good = good;
          input = F.stands.input;
          read = F.stands.read ∙ sym got_same;
          text = so_far;
          said = said_length;
          due = λ rest l. due_told rest l ∙ ap (λ (x : List ℕ). so_far ++ x) (d rest);
        }

    -- what follows where there is room
    pub settled : crowded r.answer ≡ false → Listed s before told (Ok (rest_after r.answer r.phase (at + r.consumed)))
    settled = by_answer r.answer refl
      where
        over : ((rest : List ℕ) → then rest ≡ []) → Done told
        over d =
            record {
              good = good;
              input = F.stands.input;
              read = F.stands.read ∙ sym got_same;
              said = λ rest l. ap length (due_told rest l ∙ ap (λ (x : List ℕ). so_far ++ x) (d rest) ∙ append-nil so_far) ∙ said_length;
            }

        then_by : {a : (Result Stop ListError)} → r.answer ≡ a → (rest : List ℕ) → then rest ≡ due_after a r.phase (drop (at + r.consumed) s ++ rest)
        then_by e rest = ap (λ (a : Result Stop ListError). due_after a r.phase (drop (at + r.consumed) s ++ rest)) e

        by_answer : (a : Result Stop ListError) → r.answer ≡ a → crowded a ≡ false → Listed s before told (Ok (rest_after a r.phase (at + r.consumed)))
        by_answer (Ok stop.More) e c =
            let m = lists_in_parts.more L e in
            record {
              stands = stands_told (then_by e);
              within = further;
              few = omega (arith, rest_length, needed_most r.phase, m.1);
              more = ends_same ∙ sym el ∙ m.0;
              ends = ends_same ∙ F.ends;
              got = got_same ∙ F.got;
            }
        by_answer (Ok stop.Full) e c = clash _ refl c
        by_answer (Ok stop.End) e c = over (then_by e)
        by_answer (Err refused.BufferTooShort) e c = clash _ refl c
        by_answer (Err refused.NotAJournal) e c = over (then_by e)
        by_answer (Err refused.UnknownVersion) e c = over (then_by e)
        by_answer (Err refused.RecordInvalid) e c = over (then_by e)

  -- where the room is used up, something was consumed
  module _ (c : crowded r.answer ≡ true) (room : buffer_len ≡ length out) where
    some : (a : Result Stop ListError) → r.answer ≡ a → crowded a ≡ true → (0 < r.consumed) × ((x : List ℕ) → due_after a r.phase x ≡ text_from r.phase x)
    some (Ok stop.More) e d = clash _ d refl
    some (Ok stop.Full) e d = ((lists_in_parts.full L e).0, λ x. refl)
    some (Ok stop.End) e d = clash _ d refl
    some (Err refused.BufferTooShort) e d = let z : ⊥ = omega (arith, (lists_in_parts.short L e).0) in absurd z
    some (Err refused.NotAJournal) e d = clash _ d refl
    some (Err refused.UnknownVersion) e d = clash _ d refl
    some (Err refused.RecordInvalid) e d = clash _ d refl

    pub less : length s - (at + r.consumed) < length s - at
    less = let k = (some r.answer refl c).0 in omega (arith, further)

    pub on : {u : List ℕ} {told : Streams} → told ≡ said_more now (length u) → u ≡ printed
        → SoFar s before r.phase (at + r.consumed) told
    on h eu =
        record {
          stands = stands_told h eu (λ rest. (some r.answer refl c).1 (drop (at + r.consumed) s ++ rest));
          within = further;
          ends = ends_same h eu ∙ F.ends;
          got = got_same h eu ∙ F.got;
          most =
              let m = F.most in
              let k = (some r.answer refl c).0 in
              omega (arith, ap (λ (x : Streams). x.said) h, ap length eu, printed_length, (lists_in_parts.within L).1);
        }
