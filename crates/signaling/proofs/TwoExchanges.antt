-- Two exchanges that close five entries.
-- Assumes nothing.
use Prim.Native.Nat.{ℕ}
use mathlib.Core.Bool.{true, false}
use mathlib.Core.Path.{refl, ap}
use mathlib.Core.List.{List, [], ◌∷◌}
use native.Mathlib.Omega.{arith}
use lib.ListN.{take}
use Rattle.std.specs.Prelude.{Ok, Some}
use Rattle.services.specs.Table.{ds301}
use Rattle.reporter.specs.Rules.{Head, opened, answer_frame, ea_answer}
use Rattle.reporter.specs.declared.ReadOutcome.TheVariants.{Closed}
use Rattle.collector.specs.Rules.{fresh_account, book_answer, request_frame}
use Rattle.collector.specs.declared.ReadOutcome.TheVariants as box
use Rattle.signaling.specs.Calls.{sent, head_read, box_read, Log}
use Rattle.signaling.specs.Example.{five, house, TwoExchanges}
use Rattle.signaling.specs.Exchanges.{done, more, still}
use Rattle.signaling.proofs.Arriving.{arrives_self}
use Rattle.signaling.proofs.Example.{waits, between, place, answer_of, request_of, all_raised, reached_world, runs, original, reached_raised}
use Rattle.signaling.proofs.ExampleFrames.{fields, sizes, asked, first, second, with_two, answer_octets, two_octets, first_says, second_says, two_arrive, hears_ea}
use Rattle.signaling.proofs.Exchanging.{Exchanged, exchanging}
use Rattle.signaling.proofs.Frames.{answer_long}
use Rattle.signaling.proofs.Making.{world, Knows, sent_whole}

-- an exchange in which the frames at these places are read, the request and the answer under these tables, the answer as it arrives
abbrev exchanged : List ℕ → List ℕ → ℕ → ℕ → Head → List ℕ → Log → Log
exchanged head_services box_services n m h arrived l =
    head_read head_services (sent m) (request_frame 7 asked h.en) (Ok Closed) ∷ request_of 7 h.en
    ∷ box_read box_services (sent n) arrived (Ok box.Booked)
    ∷ answer_of h
    ∷ l

-- the first answer arrives with two status entries
abbrev once : Log
once = exchanged ds301 house 0 1 first with_two all_raised

abbrev twice : Log
twice = exchanged house ds301 1 2 second (answer_frame fields second) once

module _ {s b : List ℕ} where
  exchange₁ : Knows 7 s b all_raised (waits five) fresh_account → Exchanged 7 with_two s b all_raised once between (place true (take 4 five))
  unfolding opened asked book_answer ea_answer
  exchange₁ k =
      exchanging ds301 house 7 fields asked sizes refl all_raised (waits five) fresh_account with_two 0 1 k (omega arith) first_says two_arrive refl two_octets refl
      (omega arith, ap Some (sent_whole (answer_frame fields first)))
      (omega arith)
      (omega arith, ap Some (sent_whole (request_frame 7 asked true)))
      (omega arith)
      (hears_ea ds301 true)
      refl

  exchange₂ : Knows 7 s b once between (place true (take 4 five)) → Exchanged 7 (answer_frame fields second) s b once twice (waits []) (place false five)
  unfolding opened asked book_answer ea_answer
  exchange₂ k =
      exchanging house ds301 7 fields asked sizes refl once between (place true (take 4 five)) (answer_frame fields second) 1 2 k (omega arith) second_says
      (arrives_self (answer_frame fields second) (answer_long fields second))
      refl
      answer_octets.1
      refl
      (omega arith, ap Some (sent_whole (answer_frame fields second)))
      (omega arith)
      (omega arith, ap Some (sent_whole (request_frame 7 asked false)))
      (omega arith)
      (hears_ea house false)
      refl

pub two_exchanges : TwoExchanges
two_exchanges =
    let r = reached_raised in
    let x = exchange₁ r.knows in
    let y = exchange₂ x.knows in
    record {
      w = reached_world r;
      v = world y.state y.box twice;
      run = runs original r.onward;
      room = record { account = fresh_account; registered = r.knows.place; free = rw r.knows.rules (omega arith) };
      waiting = rw r.knows.rules;
      exchanges = more still x.exchange (more still y.exchange (done still));
      answer = answer_frame fields first;
      is_sent = ap Some (sent_whole (answer_frame fields first));
      given = ap (λ (bs : List ℕ). bs ∷ []) x.read;
      closed = rw y.knows.rules;
    }
