-- Every call keeps the invariant.
-- Assumes nothing.
use Prim.Native.Nat.{ℕ}
use mathlib.Core.Path.{◌≡◌, refl, ap, ◌∙◌}
use mathlib.Core.List.{List, [], ◌∷◌}
use native.Mathlib.Omega.{arith}
use lib.ListN.{take, drop}
use lib.Dec.{eqb}
use borrow.Author.Tests.{eqb-true, eqb-false, eq-eqb}
use Rattle.std.specs.Prelude.{Result, Ok, Err, Some, Option, None}
use Rattle.std.proofs.lemmas.Option.{slice_get_within}
use Rattle.types.specs.declared.hal.PowerlinkError.{PowerlinkError}
use Rattle.codec.specs.Frame.{read_frame}
use Rattle.error_entry.specs.declared.ErrorEntry.{ErrorEntry}
use Rattle.reporter.specs.Calls as reporter
use Rattle.reporter.specs.Layout.{head_of}
use Rattle.reporter.specs.Rules.{Head, fresh_head, raise_answer, opened, answer_frame, after_answer, acknowledge_answer, after_acknowledge, ea_told}
use Rattle.reporter.specs.declared.AnswerFields.{AnswerFields}
use Rattle.reporter.specs.declared.ReadOutcome.{ReadOutcome}
use Rattle.reporter.proofs.AnyTable.{answer_writes}
use Rattle.collector.specs.Calls as collector
use Rattle.collector.specs.Layout.{box_of, account_of}
use Rattle.collector.specs.Rules.{Account, read_answer, request_frame, status_in}
use Rattle.collector.specs.declared.ReadError.{ReadError}
use Rattle.collector.specs.declared.ReadOutcome.TheVariants as box
use Rattle.collector.specs.declared.ReadOutcome.{ReadOutcome as BoxOutcome}
use Rattle.collector.specs.declared.RequestError.{RequestError}
use Rattle.collector.specs.declared.RequestFields.{RequestFields}
use Rattle.collector.specs.declared.TakeError.{TakeError}
use Rattle.signaling.specs.Calls.{Origin, sent, foreign, Event, answered, head_read, box_read, requested, taken, tally, ruled, hears, Delivered, Reaches, Tells, node, World, Step, raise, answer, head_reads, register, box_reads, request, takes, hosts, Run, fresh, call, ea_of}
use Rattle.signaling.proofs.Arriving.{reads_sent}
use Rattle.signaling.proofs.Facts.{either, beq_false}
use Rattle.signaling.proofs.Frames.{Says, answer_reads}
use Rattle.signaling.proofs.Invariant.{en_said, batch_said, book_of, Inv, head_in, place_for, Held}
use Rattle.signaling.proofs.Head.{raise_keeps, opened_keeps, answer_written, head_reads_lem}
use Rattle.signaling.proofs.Box.{box_passes, box_books, request_sends, take_moves}
use Rattle.signaling.proofs.Told.{told_now}
use Rattle.signaling.proofs.Calls.{written_frame, unheard, requested_frame, request_here, request_else, why_booked, read_elsewhere, read_here, register_same, take_elsewhere, why_taken}

module _ {i : ℕ} {w : World} (t : Held i w) where
  abbrev h : Head
  h = head_in w

  abbrev o : Option Account
  o = place_for i w

  -- ---- the head's calls

  -- what is sent is an answer of the head as it opened
  pub answer_says : (services : List ℕ) (f : AnswerFields) (n : ℕ) (after target written : List ℕ)
      → reporter.Answers services f (Ok n) w.head after target written → Says (take n written) (opened (head_in w))
  answer_says services f n after target written c =
      let bs = answer_frame f (opened h) in
      let y = answer_writes services f (Ok n) w.head after target written c in
      let octets : take n written ≡ bs = rw y.holds (written_frame bs target n y.answer) in
      rw octets (answer_reads f (opened h) c.sizes (rw t.head (opened_keeps t.inv).batch))

  answer_keeps : (services : List ℕ) (f : AnswerFields) (r : Result ℕ PowerlinkError) (after target written : List ℕ)
      → reporter.Answers services f r w.head after target written
      → Inv i (ea_of o) (book_of o) (tally i (answered r written ∷ w.log))
  answer_keeps services f (Err e) after target written c = t.inv
  answer_keeps services f (Ok n) after target written c =
      answer_written t.inv n written (rw t.head at (answer_says services f n after target written c))

  pub head_now : (services bs : List ℕ) (r : Result ReadOutcome PowerlinkError) (after : List ℕ) → reporter.Reads services bs r w.head after
      → head_of after ≡ after_acknowledge (acknowledge_answer (ea_told services i bs) (head_in w)) (head_in w)
  head_now services bs r after c =
      let same = c.answer ∙ ap (λ k. acknowledge_answer (ea_told services k bs) h) (rw t.head t.inv.id) in
      c.head ∙ ap (λ x. after_acknowledge x h) same

  head_read_keeps : (services : List ℕ) (from : Origin) (bs : List ℕ) (r : Result ReadOutcome PowerlinkError)
      → Delivered services 240 from bs (tally i w.log).requests
      → Inv i (ea_of o) (book_of o) (tally i (head_read services from bs r ∷ w.log))
  head_read_keeps services foreign bs r d = rw (unheard i (read_frame services bs) (ruled i w.log) d) t.inv
  head_read_keeps services (sent q) bs r d = head_reads_lem t.inv services q bs d.0 d.1 _ refl

  -- ---- the box's calls

  -- what reaches the box is read as what was sent
  pub read_as_sent : (services : List ℕ) (p : ℕ) (bs : List ℕ) (r : Result BoxOutcome ReadError) (after : List ℕ)
      → (d : Reaches services i (sent p) bs (tally i w.log).answers)
      → collector.Reads services bs r w.box after
      → collector.Reads services d.0 r w.box after
  read_as_sent services p bs r after d c = reads_sent d.2 services (t.inv.source p d.0 d.1.1).asnd c

  books : (services : List ℕ) (p : ℕ) (bs after : List ℕ) → Delivered services i (sent p) bs (tally i w.log).answers
      → collector.Reads services bs (Ok box.Booked) w.box after
      → Inv i (ea_of (account_of after i)) (book_of (account_of after i)) (tally i (box_read services (sent p) bs (Ok box.Booked) ∷ w.log))
  unfolding read_answer en_said batch_said
  books services p bs after d c =
      let me = (t.inv.source p bs d.1).status services in
      let y = why_booked (status_in bs) o (rw me at c.answer) in
      let inv : Inv i y.place.ea y.place.book (tally i w.log) = rw y.known at t.inv in
      rw (c.box.accounts i, read_here services i bs (box_of w.box) me, y.known)
      (box_books inv p bs d.0 d.1 services (beq_false _ _ y.fresh) y.room)

  -- an answer as it was sent
  sent_keeps : (services : List ℕ) (p : ℕ) (bs : List ℕ) (r : Result BoxOutcome ReadError) (after : List ℕ)
      → Delivered services i (sent p) bs (tally i w.log).answers
      → collector.Reads services bs r w.box after
      → Inv i (ea_of (account_of after i)) (book_of (account_of after i)) (tally i (box_read services (sent p) bs r ∷ w.log))
  sent_keeps services p bs (Ok box.Booked) after d c = books services p bs after d c
  sent_keeps services p bs (Ok box.Known) after d c = rw (c.box.accounts i) (box_passes t.inv p bs d.0 d.1)
  sent_keeps services p bs (Err e) after d c = rw (c.box.accounts i) (box_passes t.inv p bs d.0 d.1)

  box_read_keeps : (services : List ℕ) (from : Origin) (bs : List ℕ) (r : Result BoxOutcome ReadError) (after : List ℕ)
      → Reaches services i from bs (tally i w.log).answers
      → collector.Reads services bs r w.box after
      → Inv i (ea_of (account_of after i)) (book_of (account_of after i)) (tally i (box_read services from bs r ∷ w.log))
  box_read_keeps services foreign bs r after d c = rw (c.box.accounts i, read_elsewhere services i bs (box_of w.box) r d) t.inv
  box_read_keeps services (sent p) bs r after d c = sent_keeps services p d.0 r after d.1 (read_as_sent services p bs r after d c)

  -- what is sent tells the head EA, if it tells it anything
  pub request_says : (j : ℕ) (f : RequestFields) (n : ℕ) (target written : List ℕ)
      → collector.Requests (node j) f (Ok n) w.box target written
      → Tells i w.box (take n written)
  request_says j f n target written c services x me =
      let y = requested_frame j f (account_of w.box j) target n c.answer in
      let ea = y.place.ea in
      let octets : take n written ≡ request_frame j f ea = rw c.holds y.octets in
      let mine : ea_told services i (request_frame j f ea) ≡ Ok (Some x) = rw octets at me in
      either (eqb j i)
      (λ here.
      let same : j ≡ i = eqb-true j i here in
      let place : o ≡ Some y.place = rw (← same) y.known in
      rw place (cc (request_here services i j f ea c.source same, mine)))
      (λ away. cc (request_else services i j f ea c.source (eqb-false j i away), mine))

  request_keeps : (j : ℕ) (f : RequestFields) (r : Result ℕ RequestError) (target written : List ℕ)
      → collector.Requests (node j) f r w.box target written
      → Inv i (ea_of o) (book_of o) (tally i (requested j r written ∷ w.log))
  request_keeps j f (Err e) target written c = t.inv
  request_keeps j f (Ok n) target written c =
      request_sends t.inv (take n written) (request_says j f n target written c)

  take_here : (r : Result ErrorEntry TakeError) (after : List ℕ) → collector.Takes (node i) r w.box after
      → Inv i (ea_of (account_of after i)) (book_of (account_of after i)) (tally i (taken i r ∷ w.log))
  take_here (Err x) after c = rw (c.box.accounts i, eq-eqb i i refl) t.inv
  take_here (Ok e) after c =
      let y = why_taken e o c.answer in
      let inv : Inv i y.place.ea y.place.book (tally i w.log) = rw y.known at t.inv in
      rw (c.box.accounts i, eq-eqb i i refl, y.known) (take_moves inv e (drop 1 y.place.book) y.first)

  take_keeps : (j : ℕ) (r : Result ErrorEntry TakeError) (after : List ℕ) → collector.Takes (node j) r w.box after
      → Inv i (ea_of (account_of after i)) (book_of (account_of after i)) (tally i (taken j r ∷ w.log))
  take_keeps j r after c =
      either (eqb j i)
      (λ here. let same : j ≡ i = eqb-true j i here in rw same (take_here r after (rw same at c)))
      (λ away. rw (c.box.accounts i, take_elsewhere i j (box_of w.box) r away, away) t.inv)

-- ---- every call

pub keeps : {i : ℕ} {w v : World} {x : Event} → Held i w → Step i w x v → Held i v
keeps {i} {w} t (raise e r after c) =
    record {
      head = cc (c.head, c.answer, t.head);
      inv = raise_keeps t.inv e r (c.answer ∙ ap (raise_answer e) t.head) c.numbers;
    }
keeps {i} {w} t (answer services f r after target written c) =
    record { head = c.head ∙ ap (after_answer r) t.head; inv = answer_keeps t services f r after target written c }
keeps {i} {w} t (head_reads services from bs r after d c) =
    record {
      head = head_now t services bs r after c ∙ ap (hears services i bs) t.head;
      inv = head_read_keeps t services from bs r d;
    }
keeps {i} {w} t (register j r after c) =
    let y = register_same i j (box_of w.box) r c.answer in
    record { head = t.head; inv = rw (c.box.accounts i, y.0, y.1) t.inv }
keeps {i} {w} t (box_reads services from bs r after d c) = record { head = t.head; inv = box_read_keeps t services from bs r after d c }
keeps {i} {w} t (request j f r target written c) = record { head = t.head; inv = request_keeps t j f r target written c }
keeps {i} {w} t (takes j r after c) = record { head = t.head; inv = take_keeps t j r after c }
keeps {i} {w} t (hosts bs told) = record { head = t.head; inv = request_sends t.inv bs (told_now i w.box bs told) }

-- ---- the start

starts : {i : ℕ} {h : List ℕ} {b : List ℕ} → head_of h ≡ fresh_head i → account_of b i ≡ None
    → Held i (record { head = h; box = b; log = [] })
starts {i} eh eb =
    record {
      head = eh;
      inv = rw eb
          (record {
            id = refl;
            batch = tt;
            waiting = tt;
            source = λ p a e. absurd (omega (arith, slice_get_within [] p a e));
            answers = record {
              old = λ p a hp e lt. absurd (omega (arith, slice_get_within [] p a e));
              new = λ p a hp e le. absurd (omega (arith, slice_get_within [] p a e));
              carry = λ p a hp e le ne. absurd (omega (arith, slice_get_within [] p a e));
              past = λ e. omega arith;
              range = omega arith;
              given = omega arith;
            };
            turned = 0;
            requests = record {
              old = λ q f hq e lt. absurd (omega (arith, slice_get_within [] q f e));
              new = λ q f hq e le. absurd (omega (arith, slice_get_within [] q f e));
              closed = λ e. omega arith;
              unread = λ e. omega arith;
              range = omega arith;
              given = omega arith;
            };
            idle = λ e. refl;
            since = refl;
            total = refl;
            room = omega arith;
          });
    }

pub held : {i : ℕ} {w : World} → Run i w → Held i w
held {i} (fresh before head box m f) = starts (m.head refl) (f.box.accounts i)
held (call r s) = keeps (held r) s
