-- The lists of calls that lose entries, each by a step that Demand3 leaves out.
-- Assumes nothing.
use Prim.Native.Nat.{ℕ, zero, suc}
use mathlib.Core.Bool.{true, false, true≢false}
use mathlib.Core.Path.{◌≡◌, refl, ap, ◌∙◌}
use mathlib.Core.List.{List, [], ◌∷◌}
use native.Mathlib.Omega.{arith}
use lib.ListN.{take}
use Rattle.std.specs.Prelude.{Ok, Some, slice_get}
use Rattle.services.specs.Table.{ds301}
use Rattle.reporter.specs.Calls as reporter
use Rattle.reporter.specs.Layout.{head_of, acknowledge_bytes}
use Rattle.reporter.specs.Rules.{Head, fresh_head, answer_frame, ea_answer, acknowledge_answer, after_acknowledge, ea_told}
use Rattle.reporter.specs.declared.ReadOutcome.TheVariants.{Closed}
use Rattle.reporter.proofs.Meaning.{reads_means}
use Rattle.collector.specs.Rules.{Account, book_answer, request_frame}
use Rattle.collector.specs.declared.ReadOutcome.TheVariants as box
use Rattle.signaling.specs.Calls.{Origin, sent, foreign, head_read, box_read, Log, World, tally, Reaches}
use Rattle.signaling.specs.Example.{five, house, here, made_status, FreeEaLoses, BuiltAheadLoses, MadeStatusLoses}
use Rattle.signaling.proofs.Callable.{hears}
use Rattle.signaling.proofs.Example.{waits, between, place, answer_of, request_of, first_closed, Reached, reached_world, from, runs, next, read_twice, close_first, answer_second, original, reached_answered, reached_first}
use Rattle.signaling.proofs.ExampleFrames.{fields, asked, first, second, second_says, made_says, made_octets, made_other, made_source, hears_ea, first_length, second_length, request_length}
use Rattle.signaling.proofs.Making.{sent_whole, hearing, as_it_is, knowing, books_it, asking}

-- the head reads a frame that closes its batch, wherever the frame comes from
closed_by : {v : World} {l : Log} {h : Head} {p : Account} (r : Reached v l h p) (bs : List ℕ)
    → ((services : List ℕ) → acknowledge_answer (ea_told services h.id bs) h ≡ Ok Closed)
    → ((services : List ℕ) → reporter.Reads services bs (Ok Closed) r.state (acknowledge_bytes (Ok Closed) r.state))
    × (head_of (acknowledge_bytes (Ok Closed) r.state) ≡ after_acknowledge (Ok Closed) h)
closed_by {h} r bs ok = (
  λ services.
      let e : acknowledge_answer (ea_told services (head_of r.state).id bs) (head_of r.state) ≡ Ok Closed = rw r.knows.means (ok services) in
      (rw e at (hears services r.state bs r.knows.head_size)).0,
  reads_means r.state r.knows.head_size (Ok Closed) ∙ ap (after_acknowledge (Ok Closed)) r.knows.means,
)

-- ---- a frame with any EA

pub free_ea_loses : FreeEaLoses
unfolding asked ea_answer
free_ea_loses =
    let r = reached_answered in
    let c = closed_by r (request_frame 7 asked true) (λ services. rw (hears_ea services true)) in
    record {
      w = reached_world r;
      run = runs original r.onward;
      entries = refl;
      place = r.knows.place;
      frame = request_frame 7 asked true;
      gives = λ services. hears_ea services true;
      after = acknowledge_bytes (Ok Closed) r.state;
      reads = c.0;
      left = c.1;
    }

-- ---- a frame that was built before a newer request

pub built_ahead_loses : BuiltAheadLoses
unfolding asked ea_answer
built_ahead_loses =
    let b = reached_answered in
    let r = answer_second (close_first (read_twice (from b))) in
    let c = closed_by r (request_frame 7 asked false) (λ services. rw (hears_ea services false)) in
    record {
      v = reached_world b;
      before = runs original b.onward;
      frame = request_frame 7 asked false;
      gives = λ services. hears_ea services false;
      built = λ services ea e. rw b.knows.place (cc (hears_ea services false));
      w = reached_world r;
      onward = r.onward;
      run = runs (runs original b.onward) r.onward;
      entries = refl;
      place = r.knows.place;
      holds = r.knows.means;
      late = λ told. absurd (true≢false (cc (rw r.knows.place at (told ds301 false (hears_ea ds301 false)))));
      after = acknowledge_bytes (Ok Closed) r.state;
      reads = c.0;
      left = c.1;
    }

-- ---- a StatusResponse that the head did not send

twice_same : (a bs : List ℕ) (p : ℕ) → slice_get (a ∷ a ∷ []) p ≡ Some bs → bs ≡ a
twice_same a bs zero e = cc
twice_same a bs (suc zero) e = cc
twice_same a bs (suc (suc p)) e = absurd (true≢false cc)

not_reaching : (services : List ℕ) (o : Origin) → Reaches services 7 o (made_status fields) (tally 7 first_closed).answers → ⊥
not_reaching services (sent p) d =
    let is : d.0 ≡ answer_frame fields first = twice_same _ d.0 p d.1.1 ∙ sent_whole (answer_frame fields first) in
    made_other (rw is at d.2)
not_reaching services foreign ne = made_source services ne

-- its answer is known, and the next request closes the batch
abbrev second_lost : Log
second_lost =
    head_read ds301 (sent 3) (request_frame 7 asked false) (Ok Closed) ∷ request_of 7 false
    ∷ box_read house (sent 2) (answer_frame fields second) (Ok box.Known)
    ∷ answer_of second
    ∷ first_closed

lose_second : {v : World} → Reached v first_closed between (place false (take 4 five)) → Reached v second_lost (waits []) (place false (take 4 five))
unfolding asked book_answer ea_answer
lose_second r =
    next
    (next
    (next (answer_second r)
    (λ s b k.
    knowing k (answer_frame fields second) second second_says refl house 2
    (as_it_is k (answer_frame fields second) second second_says refl house 2 (omega arith, ap Some (sent_whole (answer_frame fields second)))) refl))
    (λ s b k. asking k 7 _ k.place asked refl))
    (λ s b k.
    hearing k ds301 (sent 3) (request_frame 7 asked false) (Ok Closed) (omega arith, ap Some (sent_whole (request_frame 7 asked false))) refl
    (rw (hears_ea ds301 false)))

pub made_status_loses : MadeStatusLoses
unfolding book_answer
made_status_loses =
    let v = reached_first in
    let m = books_it v.knows (made_status fields) (fresh_head 7) made_says refl made_octets refl in
    let r = lose_second (record { state = v.state; box = _; onward = here; knows = m.1 }) in
    record {
      v = reached_world v;
      run = runs original v.onward;
      before = v.knows.place;
      fields = fields;
      strange = not_reaching;
      after = _;
      reads = m.0;
      w = reached_world r;
      onward = r.onward;
      entries = refl;
      made = rw (first_length, second_length, request_length 7 true, request_length 7 false, request_length 9 false);
      place = r.knows.place;
      left = r.knows.means;
    }
