-- One exchange, under a table of the head's and one of the box's: an answer is read and booked, and then a request is read, which closes
-- the batch.
-- Assumes nothing.
use Prim.Native.Nat.{ℕ, ◌≤◌}
use mathlib.Core.Path.{◌≡◌, refl}
use mathlib.Core.List.{List, ◌∷◌, ◌++◌}
use lib.ListN.{length}
use Rattle.std.specs.Prelude.{Ok, Some}
use Rattle.octets.proofs.NumberBack.{Octets}
use Rattle.reporter.specs.Calls.{AnswerSizes}
use Rattle.reporter.specs.Rules.{Head, opened, answer_frame, answer_length, ea_answer, after_acknowledge, ea_told}
use Rattle.reporter.specs.declared.AnswerFields.{AnswerFields}
use Rattle.reporter.specs.declared.ReadOutcome.TheVariants.{Closed}
use Rattle.collector.specs.Rules.{with_book, with_ea, Account, book_answer, request_frame}
use Rattle.collector.specs.declared.ReadOutcome.TheVariants as box
use Rattle.collector.specs.declared.RequestFields.{RequestFields}
use Rattle.signaling.specs.Arrival.{Arrives}
use Rattle.signaling.specs.Calls.{sent, answered, head_read, box_read, requested, Log, answers_sent, requests_sent, tally, Delivered}
use Rattle.signaling.specs.Exchanges.{Exchange, still}
use Rattle.signaling.proofs.Frames.{Says, says_arrived}
use Rattle.signaling.proofs.Making.{world, Knows, held, answering, hearing, booking, asking}

-- an exchange that can be made, with the answer that arrives, and what it leaves
pub record Exchanged (i : ℕ) (arrived s b : List ℕ) (l after : Log) (h : Head) (p : Account) : Type 0 where
  pub state : List ℕ
  pub box : List ℕ
  pub exchange : Exchange i (world s b l) (world state box after)
  pub read : exchange.answer_read ≡ arrived
  pub knows : Knows i state box after h p

module _ (head_services box_services : List ℕ) (i : ℕ) (f : AnswerFields) (g : RequestFields) (sizes : AnswerSizes f) (six : length g.source_mac.0 ≡ 6) where
  -- what arrives of the answer
  module _ (l : Log) (h : Head) (p : Account) (arrived : List ℕ) where
    abbrev pub frame₁ : List ℕ
    frame₁ = answer_frame f (opened h)

    abbrev pub booked : Account
    booked = with_ea (opened h).en (with_book (p.book ++ (opened h).batch) p)

    abbrev pub frame₂ : List ℕ
    frame₂ = request_frame i g (opened h).en

    abbrev pub written : Log
    written = answered (Ok (length frame₁)) (held frame₁) ∷ l

    abbrev pub requested₁ : ℕ → Log
    requested₁ n = requested i (Ok (length frame₂)) (held frame₂) ∷ box_read box_services (sent n) arrived (Ok box.Booked) ∷ written

    pub exchanging : {s b : List ℕ} (n m : ℕ) → Knows i s b l h p → answer_length (length (opened h).batch) ≤ 200 → Says frame₁ (opened h)
        → Arrives frame₁ arrived
        → (opened h).id ≡ i
        → Octets arrived
        → book_answer (opened h).en (opened h).batch p ≡ Ok box.Booked
        → Delivered box_services i (sent n) frame₁ (tally i written).answers
        → length (answers_sent i l) ≤ n
        → Delivered head_services 240 (sent m) frame₂ (tally i (requested₁ n)).requests
        → length (requests_sent i l) ≤ m
        → ea_told head_services i frame₂ ≡ Ok (Some (opened h).en)
        → ea_answer (opened h).en (opened h) ≡ Closed
        → Exchanged i arrived s b l (head_read head_services (sent m) frame₂ (Ok Closed) ∷ requested₁ n) (after_acknowledge (Ok Closed) (opened h)) booked
    exchanging n m k small says arrives from octets books₁ given₁ new₁ given₂ new₂ hears₁ closes =
        let a = answering k head_services f sizes small in
        let b = booking a.knows arrived (opened h) (says_arrived arrives says) from box_services n (frame₁, given₁, arrives) octets books₁ in
        let c = asking b.knows i _ b.knows.place g six in
        let d = hearing c.knows head_services (sent m) frame₂ (Ok Closed) given₂ from (rw (hears₁, closes)) in
        record {
          state = d.state;
          box = d.box;
          exchange = record {
            length₁ = length frame₁;
            answer = held frame₁;
            w₁ = world a.state a.box written;
            answers = a.step;
            w₂ = world a.state a.box written;
            quiet₁ = still;
            p = n;
            answer_read = arrived;
            box_services = box_services;
            box_says = Ok box.Booked;
            w₃ = world b.state b.box (box_read box_services (sent n) arrived (Ok box.Booked) ∷ written);
            box_reads = b.step;
            new_answer = new₁;
            w₄ = world b.state b.box (box_read box_services (sent n) arrived (Ok box.Booked) ∷ written);
            quiet₂ = still;
            length₂ = length frame₂;
            request = held frame₂;
            w₅ = world c.state c.box (requested₁ n);
            requests = c.step;
            w₆ = world c.state c.box (requested₁ n);
            quiet₃ = still;
            q = m;
            request_read = frame₂;
            head_services = head_services;
            head_says = Ok Closed;
            w₇ = world d.state d.box (head_read head_services (sent m) frame₂ (Ok Closed) ∷ requested₁ n);
            head_reads = d.step;
            new_request = new₂;
            ea = (opened h).en;
            mine = hears₁;
            quiet₄ = still;
          };
          read = refl;
          knows = d.knows;
        }
