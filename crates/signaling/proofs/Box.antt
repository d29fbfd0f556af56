-- The box's calls keep the invariant.
-- Assumes nothing.
use Prim.Native.Nat.{ℕ, ◌+◌, ◌≤◌}
use mathlib.Core.Bool.{Bool, true, false, not, ◌||◌, beq}
use mathlib.Core.Path.{◌≡◌, sym, ap, ◌∙◌}
use mathlib.Core.List.{List, [], ◌∷◌, ◌++◌, append_assoc}
use native.Mathlib.Omega.{arith}
use lib.ListN.{length, length-append}
use lib.Dec.{leb}
use borrow.Author.Tests.{le-leb}
use Rattle.std.specs.Prelude.{Ok, Some, slice_get}
use Rattle.std.proofs.lemmas.Option.{slice_get_within}
use Rattle.error_entry.specs.declared.ErrorEntry.{ErrorEntry}
use Rattle.reporter.specs.Rules.{Head}
use Rattle.collector.specs.Rules.{book_length}
use Rattle.collector.specs.declared.ReadOutcome.TheVariants as box
use Rattle.signaling.specs.Calls.{sent, box_read, Tally, on_entries, on_answers, on_requests, sends, gives, hands, adds}
use Rattle.signaling.proofs.Facts.{beq_same, beq_not, join_book}
use Rattle.signaling.proofs.Invariant.{Carries, en_said, batch_said, Inv}
use Rattle.signaling.proofs.Transit.{answers_later, answers_fresh, answers_booked, requests_send, requests_booked}

module _ {i : ℕ} {ea : Bool} {book : List ErrorEntry} {c : Tally} (t : Inv i ea book c) where
  abbrev h : Head
  h = c.ruled.head

  -- ---- reading

  module _ (p : ℕ) (bs : List ℕ) (le : c.answers.at ≤ p) (at : slice_get c.answers.frames p ≡ Some bs) where
    -- a reading that changes nothing in the box
    pub box_passes : Inv i ea book (on_answers (gives (sent p)) c)
    box_passes =
        record {
          id = t.id;
          batch = t.batch;
          waiting = t.waiting;
          source = t.source;
          answers = answers_later t.answers p le (slice_get_within c.answers.frames p bs at);
          turned = t.turned;
          requests = t.requests;
          idle = t.idle;
          since = t.since;
          total = t.total;
          room = t.room;
        }

    pub box_books : (services : List ℕ) → en_said bs ≡ not ea → length book + length (batch_said bs) ≤ book_length
        → Inv i (en_said bs) (book ++ batch_said bs) (adds i (box_read services (sent p) bs (Ok box.Booked)) c)
    box_books services fresh room =
        let (differ, past, bit, same-batch, open?) = answers_fresh t.answers t.idle p bs le at fresh in
        let en = h.en in
        let was : c.ruled.is_booked ≡ false = t.since ∙ ap (λ (b : Bool). beq b en) differ ∙ beq_not en in
        let now : leb c.ruled.opened_at p || c.ruled.is_booked ≡ true = ap (λ (b : Bool). b || c.ruled.is_booked) (le-leb _ _ past) in
        record {
          id = t.id;
          batch = t.batch;
          waiting = t.waiting;
          source = t.source;
          answers = answers_booked t.answers p le (slice_get_within c.answers.frames p bs at) past (en_said bs);
          turned = length c.requests.frames;
          requests = rw bit (requests_booked t.requests differ open?);
          idle = λ e. bit;
          since = now ∙ sym (beq_same en) ∙ ap (λ (b : Bool). beq b en) (sym bit);
          total = rw (now, same-batch) (join_book c.entries.handed_out book h.batch h.waiting (rw was at t.total));
          room = simp length-append room;
        }

  -- ---- request and Take

  pub request_sends : (bs : List ℕ) → Carries i ea bs → Inv i ea book (on_requests (sends (λ fs. fs ++ (bs ∷ []))) c)
  request_sends bs says =
      record {
        id = t.id;
        batch = t.batch;
        waiting = t.waiting;
        source = t.source;
        answers = t.answers;
        turned = t.turned;
        requests = requests_send t.requests bs says;
        idle = t.idle;
        since = t.since;
        total = t.total;
        room = t.room;
      }

  -- a Take moves the oldest entry of the book behind those handed out
  pub take_moves : (e : ErrorEntry) (es : List ErrorEntry) → book ≡ e ∷ es → Inv i ea es (on_entries (hands true (Ok e)) c)
  take_moves e es first =
      record {
        id = t.id;
        batch = t.batch;
        waiting = t.waiting;
        source = t.source;
        answers = t.answers;
        turned = t.turned;
        requests = t.requests;
        idle = t.idle;
        since = t.since;
        total = rw (append_assoc c.entries.handed_out (e ∷ []) es) (rw first at t.total);
        room = omega (arith, t.room, ap length first);
      }
