-- A list of all calls with losses, repeats and refusals that books two batches.
-- Assumes nothing.
use Prim.Native.Nat.{ℕ, ◌^◌, ◌<◌}
use mathlib.Core.Bool.{Bool, true, false}
use mathlib.Core.Path.{◌≡◌, refl, sym, ap, ◌∙◌}
use mathlib.Core.List.{List, [], ◌∷◌}
use native.Mathlib.Omega.{arith}
use lib.ListN.{length, take, drop}
use Rattle.std.specs.Prelude.{Result, Ok, Err, Some}
use Rattle.types.specs.declared.error_mode.ErrorEntryMode.{ErrorEntryMode}
use Rattle.types.specs.declared.error_mode.ErrorEntryMode.TheVariants.{Terminator, ErrorActive, ErrorCleared, EventOccurred}
use Rattle.types.specs.declared.hal.PowerlinkError.TheVariants.{InvalidServiceId}
use Rattle.services.specs.Table.{ds301}
use Rattle.error_entry.specs.declared.ErrorEntry.{ErrorEntry}
use Rattle.reporter.specs.Rules.{Head, fresh_head, is_raisable, raise_answer, after_raise, opened, answer_frame, ea_answer}
use Rattle.reporter.specs.declared.RaiseError.TheVariants.{EntryInvalid, StatusEntry}
use Rattle.reporter.specs.declared.RaiseError.{RaiseError}
use Rattle.reporter.specs.declared.ReadOutcome.TheVariants.{Closed, Kept, Ignored}
use Rattle.collector.specs.Layout.{box_of, fresh_bytes}
use Rattle.collector.specs.Rules.{Account, fresh_account, register_answer, book_answer, read_answer, request_frame}
use Rattle.collector.specs.declared.ReadError.TheVariants as refusal
use Rattle.collector.specs.declared.ReadOutcome.TheVariants as box
use Rattle.signaling.specs.Calls.{sent, foreign, Event, raised, answered, head_read, registered, box_read, requested, taken, hosted, Log, World, Run, fresh, call}
use Rattle.signaling.specs.Example.{entry, shown, five, house, LossAndRepeat, Onward, here, further}
use Rattle.signaling.proofs.Callable.{freshes}
use Rattle.signaling.proofs.Draining.{draining}
use Rattle.signaling.proofs.ExampleFrames.{numbers, with_two, with_other, two_arrive, other_arrives, two_octets, fields, sizes, asked, fifth, first, second, answer_octets, first_says, second_says, hears_ea, pres_frame, pres_far, pres_other, pres_ignored, house_frame, house_far, house_other, house_refused, preq_frame, hears_host, hears_not, first_length, second_length, request_length}
use Rattle.signaling.proofs.Frames.{says_arrived}
use Rattle.signaling.proofs.Making.{world, Knows, Next, Started, held, sent_whole, starting, raising, answering, hearing, as_it_is, knowing, booking, passing, registering, asking, handing, hosting}

-- ---- what the head becomes, and the list of calls

abbrev pub waits : List ErrorEntry → Head
waits es = record { id = 7; en = false; batch = []; waiting = es }

-- the first batch is closed, the second is not open yet
abbrev pub between : Head
between = record { id = 7; en = true; batch = []; waiting = fifth ∷ [] }

abbrev pub place : Bool → List ErrorEntry → Account
place ea es = record { ea = ea; book = es }

-- the events of an answer and of a request
abbrev pub answer_of : Head → Event
answer_of h = answered (Ok (length (answer_frame fields h))) (held (answer_frame fields h))

abbrev pub request_of : ℕ → Bool → Event
request_of i ea = requested i (Ok (length (request_frame i asked ea))) (held (request_frame i asked ea))

abbrev at_start : Log
at_start = request_of 9 false ∷ registered 9 (Ok tt) ∷ registered 7 (Ok tt) ∷ []

abbrev pub all_raised : Log
all_raised =
    raised fifth (Ok tt) ∷ raised (entry ErrorActive 0x8164) (Ok tt) ∷ raised (entry EventOccurred 0x8163) (Ok tt)
    ∷ raised (entry ErrorCleared 0x8162) (Ok tt)
    ∷ raised (entry ErrorActive 0x8161) (Ok tt)
    ∷ raised (shown ErrorActive 0x8170) (Err StatusEntry)
    ∷ raised (entry Terminator 0x8160) (Err EntryInvalid)
    ∷ at_start

-- the first answer is lost
abbrev pub answered_twice : Log
answered_twice = answer_of first ∷ answer_of first ∷ all_raised

abbrev pub twice_read : Log
twice_read =
    box_read ds301 (sent 1) with_other (Ok box.Known) ∷ box_read house (sent 1) with_two (Ok box.Booked)
    ∷ box_read ds301 foreign house_frame (Err (refusal.Frame (InvalidServiceId 0x20)))
    ∷ box_read house foreign house_frame (Err refusal.NotStatusResponse)
    ∷ box_read ds301 foreign pres_frame (Err refusal.NotStatusResponse)
    ∷ answered_twice

-- the first request is lost
abbrev asked_twice : Log
asked_twice =
    request_of 7 true ∷ request_of 7 true ∷ head_read ds301 foreign pres_frame (Ok Ignored)
    ∷ head_read house (sent 0) (request_frame 9 asked false) (Ok Ignored)
    ∷ twice_read

abbrev pub first_closed : Log
first_closed =
    head_read house (sent 2) (request_frame 7 asked true) (Ok Kept) ∷ head_read ds301 (sent 2) (request_frame 7 asked true) (Ok Closed)
    ∷ asked_twice

abbrev all_booked : Log
all_booked = box_read ds301 (sent 2) (answer_frame fields second) (Ok box.Booked) ∷ answer_of second ∷ first_closed

-- a frame of the box's host closes the batch
abbrev all_closed : Log
all_closed = head_read house (sent 3) (preq_frame false) (Ok Closed) ∷ hosted (preq_frame false) ∷ all_booked

abbrev one_taken : Log
one_taken = taken 7 (Ok (entry ErrorActive 0x8161)) ∷ all_closed

-- ---- the list with losses and repeats

-- from v on calls have come to this
pub record Reached (v : World) (l : Log) (h : Head) (p : Account) : Type 0 where
  pub state : List ℕ
  pub box : List ℕ
  pub onward : Onward 7 v (world state box l)
  pub knows : Knows 7 state box l h p

abbrev pub reached_world : {v : World} {l : Log} {h : Head} {p : Account} → Reached v l h p → World
reached_world {l} r = world r.state r.box l

-- and they go on from there
pub from : {v : World} {l : Log} {h : Head} {p : Account} (r : Reached v l h p) → Reached (reached_world r) l h p
from r = record { state = r.state; box = r.box; onward = here; knows = r.knows }

pub runs : {v w : World} → Run 7 v → Onward 7 v w → Run 7 w
runs r here = r
runs r (further o s) = call (runs r o) s

module _ {v : World} where
  pub next : {l : Log} {h g : Head} {p q : Account} {x : Event} → Reached v l h p
      → ((s b : List ℕ) → Knows 7 s b l h p → Next 7 s b l x g q) → Reached v (x ∷ l) g q
  next r make =
      let n = make r.state r.box r.knows in
      record { state = n.state; box = n.box; onward = further r.onward n.step; knows = n.knows }

  adding : {l : Log} {h : Head} {p : Account} (m : ErrorEntryMode) (c : ℕ) (r : Result Unit RaiseError)
      → c < 2 ^ 16 → raise_answer (entry m c) h ≡ r → Reached v l h p
      → Reached v (raised (entry m c) r ∷ l) (after_raise r (entry m c) h) p
  adding m c r small ok y = next y (λ s b k. raising k (entry m c) r (numbers m c small) ok)

  raise_all : Reached v at_start (fresh_head 7) fresh_account → Reached v all_raised (waits five) fresh_account
  unfolding raise_answer is_raisable
  raise_all r =
      adding ErrorCleared 0x8165 (Ok tt) (omega arith) refl
      (adding ErrorActive 0x8164 (Ok tt) (omega arith) refl
      (adding EventOccurred 0x8163 (Ok tt) (omega arith) refl
      (adding ErrorCleared 0x8162 (Ok tt) (omega arith) refl
      (adding ErrorActive 0x8161 (Ok tt) (omega arith) refl
      (next (adding Terminator 0x8160 (Err EntryInvalid) (omega arith) refl r)
      (λ s b k. raising k (shown ErrorActive 0x8170) (Err StatusEntry) (numbers ErrorActive 0x8170 (omega arith)) refl))))))

  answer_twice : Reached v all_raised (waits five) fresh_account → Reached v answered_twice first fresh_account
  unfolding opened
  answer_twice r =
      next (next r (λ s b k. answering k ds301 fields sizes (omega arith)))
      (λ s b k. answering k house fields sizes (omega arith))

  pub read_twice : Reached v answered_twice first fresh_account → Reached v twice_read first (place true (take 4 five))
  unfolding book_answer read_answer
  read_twice r =
      next
      (next
      (next
      (next
      (next r (λ s b k. passing k ds301 foreign pres_frame (Err refusal.NotStatusResponse) (pres_far ds301).0 (rw (pres_other ds301)) (λ A x y. refl)))
      (λ s b k. passing k house foreign house_frame (Err refusal.NotStatusResponse) (house_far house) (rw house_other) (λ A x y. refl)))
      (λ s b k. passing k ds301 foreign house_frame (Err (refusal.Frame (InvalidServiceId 0x20))) (house_far ds301) (rw house_refused) (λ A x y. refl)))
      (λ s b k.
      booking k with_two first (says_arrived two_arrive first_says) refl house 1
      (answer_frame fields first, (omega arith, ap Some (sent_whole (answer_frame fields first))), two_arrive) two_octets refl))
      (λ s b k.
      knowing k with_other first (says_arrived other_arrives first_says) refl ds301 1
      (answer_frame fields first, (omega arith, ap Some (sent_whole (answer_frame fields first))), other_arrives) refl)

  ask_twice : Reached v twice_read first (place true (take 4 five)) → Reached v asked_twice first (place true (take 4 five))
  unfolding asked
  ask_twice r =
      next
      (next
      (next
      (next r
      (λ s b k.
      hearing k house (sent 0) (request_frame 9 asked false) (Ok Ignored) (omega arith, ap Some (sent_whole (request_frame 9 asked false))) refl
      (rw (hears_not house false))))
      (λ s b k. hearing k ds301 foreign pres_frame (Ok Ignored) (pres_far ds301).1 refl (rw (pres_ignored ds301))))
      (λ s b k. asking k 7 _ k.place asked refl))
      (λ s b k. asking k 7 _ k.place asked refl)

  pub close_first : Reached v twice_read first (place true (take 4 five)) → Reached v first_closed between (place true (take 4 five))
  unfolding ea_answer
  close_first r =
      next
      (next (ask_twice r)
      (λ s b k.
      hearing k ds301 (sent 2) (request_frame 7 asked true) (Ok Closed) (omega arith, ap Some (sent_whole (request_frame 7 asked true))) refl
      (rw (hears_ea ds301 true))))
      (λ s b k.
      hearing k house (sent 2) (request_frame 7 asked true) (Ok Kept) (omega arith, ap Some (sent_whole (request_frame 7 asked true))) refl
      (rw (hears_ea house true)))

  pub answer_second : {p : Account} → Reached v first_closed between p → Reached v (answer_of second ∷ first_closed) second p
  unfolding opened
  answer_second r = next r (λ s b k. answering k ds301 fields sizes (omega arith))

  book_second : Reached v (answer_of second ∷ first_closed) second (place true (take 4 five)) → Reached v all_booked second (place false five)
  unfolding book_answer
  book_second r =
      next r
      (λ s b k.
      booking k (answer_frame fields second) second second_says refl ds301 2
      (as_it_is k (answer_frame fields second) second second_says refl ds301 2 (omega arith, ap Some (sent_whole (answer_frame fields second))))
      answer_octets.1
      refl)

  close_second : Reached v all_booked second (place false five) → Reached v all_closed (waits []) (place false five)
  unfolding ea_answer
  close_second r =
      next (next r (λ s b k. hosting k (preq_frame false) (λ services. hears_host services false)))
      (λ s b k. hearing k house (sent 3) (preq_frame false) (Ok Closed) (omega arith, refl) refl (rw (hears_host house false)))

  take_one : Reached v all_closed (waits []) (place false five) → Reached v one_taken (waits []) (place false (drop 1 five))
  take_one r = next r (λ s b k. handing k (entry ErrorActive 0x8161) (drop 1 five) refl)

-- ---- from a fresh box and a fresh head

pub started : Started 7
unfolding register_answer
started = starting 7 refl (rw (freshes.box.accounts 7, freshes.box.vacant))

abbrev pub origin : World
origin = world started.head fresh_bytes []

pub original : Run 7 origin
original = fresh [] started.head fresh_bytes started.made started.fresh

-- the other head can be registered too
free_for_9 : register_answer 9 (box_of started.next.box) ≡ Ok tt
unfolding register_answer
free_for_9 = rw (started.box.accounts 9, started.box.vacant, freshes.box.accounts 9, freshes.box.vacant)

reached_start : Reached origin at_start (fresh_head 7) fresh_account
unfolding asked
reached_start =
    let t = started.next in
    let u = registering t.knows 9 refl free_for_9 in
    let x = asking u.0.knows 9 fresh_account u.1 asked refl in
    record { state = x.state; box = x.box; onward = further (further (further here t.step) u.0.step) x.step; knows = x.knows }

pub reached_raised : Reached origin all_raised (waits five) fresh_account
reached_raised = raise_all reached_start

pub reached_answered : Reached origin answered_twice first fresh_account
reached_answered = answer_twice reached_raised

pub reached_first : Reached origin first_closed between (place true (take 4 five))
reached_first = close_first (read_twice reached_answered)

pub loss_and_repeat : LossAndRepeat
loss_and_repeat =
    let r = take_one (close_second (book_second (answer_second reached_first))) in
    record {
      w = reached_world r;
      run = runs original r.onward;
      made = rw (first_length, second_length, request_length 7 true, request_length 9 false);
      asnd = house_frame;
      held = refl;
      unheld = refl;
      answer = answer_frame fields first;
      is_sent = ap Some (sent_whole (answer_frame fields first));
      with_two = refl;
      with_other = refl;
      entries = refl;
      handed = refl;
      place = r.knows.place;
      rest = r.knows.rules;
      state = r.knows.means ∙ sym r.knows.rules;
      booked = rw reached_first.knows.rules;
      drained = draining 7 (Some (place false (drop 1 five))) r.box r.knows.box_size r.knows.place;
    }
