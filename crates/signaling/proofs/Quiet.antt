-- What a quiet call leaves as it was.
-- Assumes nothing.
use Prim.Native.Nat.{ℕ, ◌+◌, ◌≤◌}
use mathlib.Core.Bool.{Bool, true, false, true≢false}
use mathlib.Core.Path.{◌≡◌, refl, ◌∙◌}
use mathlib.Core.Logic.{◌⊎◌, inl, inr}
use mathlib.Core.List.{List, [], ◌∷◌}
use native.Mathlib.Omega.{arith}
use lib.ListN.{length, take, length-append}
use lib.Dec.{eqb}
use borrow.Author.Tests.{eqb-true}
use Rattle.std.specs.Prelude.{IsSome, Result, Ok, Err, Some, None, Option, slice_get}
use Rattle.types.specs.Codes.{pick}
use Rattle.types.specs.declared.NodeId.{NodeId}
use Rattle.types.specs.declared.hal.PowerlinkError.{PowerlinkError}
use Rattle.error_entry.specs.declared.ErrorEntry.{ErrorEntry}
use Rattle.reporter.specs.Rules.{with_batch, opened, Head, after_raise, after_acknowledge}
use Rattle.reporter.specs.declared.RaiseError.{RaiseError}
use Rattle.reporter.specs.declared.ReadOutcome.TheVariants.{Closed, Kept, Ignored}
use Rattle.reporter.specs.declared.ReadOutcome.{ReadOutcome}
use Rattle.collector.specs.Layout.{box_of}
use Rattle.collector.specs.Rules.{Said, book_length, Account, Box, with_account, after_register, after_booking, after_response, without_first, after_take, response_in, status_in}
use Rattle.collector.specs.declared.ReadError.{ReadError}
use Rattle.collector.specs.declared.ReadOutcome.TheVariants as box
use Rattle.collector.specs.declared.ReadOutcome.{ReadOutcome as BoxOutcome}
use Rattle.collector.specs.declared.RegisterError.{RegisterError}
use Rattle.collector.specs.declared.TakeError.{TakeError}
use Rattle.signaling.specs.Calls.{tally, adds, Tally, nothing_yet, sent, foreign, Event, raised, answered, head_read, registered, box_read, requested, taken, hosted, if_taken, accepted, handed_out, answers_sent, requests_sent, ea_of, Tells, World, Step, raise, answer, head_reads, register, box_reads, request, takes, hosts}
use Rattle.signaling.specs.Exchanges.{Quiet, NoRepeat, RequestAgain, Quietly, still, next, again, Exchange}
use Rattle.signaling.proofs.Told.{told_now}
use Rattle.signaling.proofs.Calls.{read_elsewhere, register_same}
use Rattle.signaling.proofs.Facts.{either, at_snoc}
use Rattle.signaling.proofs.Frames.{Says}
use Rattle.signaling.proofs.Invariant.{head_in, place_for, Held}
use Rattle.signaling.proofs.Steps.{answer_says, request_says, keeps}

-- ---- every call: a place stays

module _ (i : ℕ) (b : Box) (is : IsSome (b.accounts i)) where
  with_stays : (j : ℕ) (p : Account) → IsSome ((with_account j p b).accounts i)
  with_stays j p = either (eqb i j) (λ here. rw here refl) (λ away. rw away is)

  register_stays : (j : ℕ) (r : Result Unit RegisterError) → IsSome ((after_register r j b).accounts i)
  register_stays j (Ok _) = with_stays j _
  register_stays j (Err x) = is

  booking_stays : (s : Result (Option NodeId) PowerlinkError) (said : Said) → IsSome ((after_booking s said b).accounts i)
  booking_stays (Err e) said = is
  booking_stays (Ok None) said = is
  booking_stays (Ok (Some source)) said = with_stays source.0 _

  read_stays : (services bs : List ℕ) (r : Result BoxOutcome ReadError) → IsSome ((after_response services r bs b).accounts i)
  read_stays services bs (Ok box.Booked) = booking_stays (response_in services bs) (status_in bs)
  read_stays services bs (Ok box.Known) = is
  read_stays services bs (Err e) = is

  take_stays : (j : ℕ) (r : Result ErrorEntry TakeError) → IsSome ((after_take r j b).accounts i)
  take_stays j (Ok e) = with_stays j _
  take_stays j (Err x) = is

place_stays : {i : ℕ} {w v : World} {x : Event} → Step i w x v → IsSome (place_for i w) → IsSome (place_for i v)
place_stays (raise e r after c) y = y
place_stays (answer services f r after target written c) y = y
place_stays (head_reads services o bs r after d c) y = y
place_stays {i} {w} (register j r after c) y = rw (c.box.accounts i) (register_stays i (box_of w.box) y j r)
place_stays {i} {w} (box_reads services o bs r after d c) y = rw (c.box.accounts i) (read_stays i (box_of w.box) y services bs r)
place_stays (request j f r target written c) y = y
place_stays {i} {w} (takes j r after c) y = rw (c.box.accounts i) (take_stays i (box_of w.box) y j r)
place_stays (hosts bs told) y = y

-- the head is registered
pub record Ready (i : ℕ) (w : World) : Type 0 where
  pub held : Held i w
  pub place : IsSome (place_for i w)

pub goes_on_lem : {i : ℕ} {w v : World} {x : Event} → Step i w x v → Ready i w → Ready i v
goes_on_lem s y = record { held = keeps y.held s; place = place_stays s y.place }

-- ---- every call but a Raise that is accepted: nothing is accepted, and nothing is taken back

-- nothing is accepted
abbrev pub NoRaise : ℕ → Event → Type 0
NoRaise i x = (t : Tally) → (adds i x t).entries.accepted ≡ t.entries.accepted

-- the book has places for all that is not in it
abbrev pub Roomy : ℕ → World → Type 0
Roomy i w = length (accepted i w.log) ≤ length (handed_out i w.log) + book_length

-- a Take takes back nothing
hands_on : (mine : Bool) (r : Result ErrorEntry TakeError) (es : List ErrorEntry) → length es ≤ length (pick mine (if_taken r es) es)
hands_on false r es = omega arith
hands_on true (Ok e) es = simp length-append (omega arith)
hands_on true (Err x) es = omega arith

pub room_stays : {i : ℕ} {w v : World} {x : Event} → Step i w x v → NoRaise i x → Roomy i w → Roomy i v
room_stays {i} {w} (raise e r after c) k y = rw (k (tally i w.log)) y
room_stays (answer services f r after target written c) k y = y
room_stays (head_reads services o bs r after d c) k y = y
room_stays (register j r after c) k y = y
room_stays (box_reads services o bs r after d c) k y = y
room_stays (request j f r target written c) k y = y
room_stays {i} {w} (takes j r after c) k y = omega (arith, y, hands_on (eqb j i) r (handed_out i w.log))
room_stays (hosts bs told) k y = y

pub quiet_raises_not : (i : ℕ) (x : Event) → Quiet i x → NoRaise i x
quiet_raises_not i (raised e (Ok _)) k = absurd (omega arith)
quiet_raises_not i (raised e (Err x)) k = λ t. refl
quiet_raises_not i (answered r bs) k = λ t. refl
quiet_raises_not i (head_read services o bs r) k = λ t. refl
quiet_raises_not i (registered j r) k = λ t. refl
quiet_raises_not i (box_read services o bs r) k = λ t. refl
quiet_raises_not i (requested j r bs) k = λ t. refl
quiet_raises_not i (taken j r) k = λ t. refl
quiet_raises_not i (hosted bs) k = λ t. refl

-- ---- quiet calls

-- a head with no open batch
abbrev pub shut : Head → Head
shut h = with_batch [] h

-- the head but for its opening and the closing of its batch, EA, and the frames sent but for those that say what both hold
pub record Calm (i : ℕ) (w v : World) : Type 0 where
  pub head : ((head_in v ≡ head_in w) ⊎ (head_in v ≡ shut (head_in w))) ⊎ (head_in v ≡ opened (head_in w))
  pub bit : ea_of (place_for i v) ≡ ea_of (place_for i w)
  pub answers : (p : ℕ) (a : List ℕ) → slice_get (answers_sent i v.log) p ≡ Some a
      → (slice_get (answers_sent i w.log) p ≡ Some a) ⊎ Says a (head_in v)
  pub requests : (q : ℕ) (f : List ℕ) → slice_get (requests_sent i v.log) q ≡ Some f
      → (slice_get (requests_sent i w.log) q ≡ Some f) ⊎ Tells i w.box f

-- a Take leaves EA
with_bit : (i j : ℕ) (p : Account) (b : Box) → p.ea ≡ ea_of (b.accounts j) → ea_of ((with_account j p b).accounts i) ≡ ea_of (b.accounts i)
with_bit i j p b e =
    either (eqb i j) (λ here. let same : i ≡ j = eqb-true i j here in rw (here, same) e) (λ away. rw away)

taken_bit : (o : Option Account) → (without_first o).ea ≡ ea_of o
taken_bit None = refl
taken_bit (Some p) = refl

take_bit : (i j : ℕ) (b : Box) (r : Result ErrorEntry TakeError) → ea_of ((after_take r j b).accounts i) ≡ ea_of (b.accounts i)
take_bit i j b (Ok e) = with_bit i j _ b (taken_bit (b.accounts j))
take_bit i j b (Err x) = refl

-- a Raise that accepts nothing leaves the head
pub not_raised : (i : ℕ) (e : ErrorEntry) (r : Result Unit RaiseError) → NoRaise i (raised e r) → (h : Head) → after_raise r e h ≡ h
not_raised i e (Ok _) k h = let some-raised : e ∷ [] ≡ [] = k (nothing_yet i) in absurd (true≢false cc)
not_raised i e (Err x) k h = refl

-- a reading leaves the head or closes its batch
pub read_head : (r : Result ReadOutcome PowerlinkError) (h : Head) → (after_acknowledge r h ≡ h) ⊎ (after_acknowledge r h ≡ shut h)
read_head (Ok Closed) h = inr refl
read_head (Ok Kept) h = inl refl
read_head (Ok Ignored) h = inl refl
read_head (Err e) h = inl refl

pub calm : {i : ℕ} {w v : World} {x : Event} → Held i w → Step i w x v → Quiet i x → Calm i w v
calm {i} {w} t (raise e r after c) k =
    record {
      head = inl (inl (c.head ∙ not_raised i e r (quiet_raises_not i (raised e r) k) (head_in w)));
      bit = refl;
      answers = λ p a y. inl y;
      requests = λ q f y. inl y;
    }
calm {i} {w} t (answer services f (Err e) after target written c) k =
    record { head = inl (inl c.head); bit = refl; answers = λ p a y. inl y; requests = λ q f y. inl y }
calm {i} {w} t (answer services f (Ok n) after target written c) k =
    record {
      head = inr c.head;
      bit = refl;
      answers = λ p a y.
          elim (at_snoc (answers_sent i w.log) (take n written) a p y) [
            | inl z ↦ inl z.1
            | inr z ↦ inr (rw (c.head, ← z.1) (answer_says t services f n after target written c))
          ];
      requests = λ q f y. inl y;
    }
calm {i} {w} t (head_reads services o bs r after d c) k =
    record {
      head = inl (elim (read_head r (head_in w)) [ inl e ↦ inl (c.head ∙ e) | inr e ↦ inr (c.head ∙ e) ]);
      bit = refl;
      answers = λ p a y. inl y;
      requests = λ q f y. inl y;
    }
calm {i} {w} t (register j r after c) k =
    record {
      head = inl (inl refl);
      bit = rw (c.box.accounts i) (register_same i j (box_of w.box) r c.answer).0;
      answers = λ p a y. inl y;
      requests = λ q f y. inl y;
    }
calm {i} {w} t (box_reads services foreign bs r after d c) k =
    record {
      head = inl (inl refl);
      bit = rw (c.box.accounts i, read_elsewhere services i bs (box_of w.box) r d);
      answers = λ p a y. inl y;
      requests = λ q f y. inl y;
    }
calm {i} {w} t (box_reads services (sent p) bs r after d c) k = absurd k
calm {i} {w} t (request j f (Err e) target written c) k =
    record { head = inl (inl refl); bit = refl; answers = λ p a y. inl y; requests = λ q f y. inl y }
calm {i} {w} t (request j f (Ok n) target written c) k =
    record {
      head = inl (inl refl);
      bit = refl;
      answers = λ p a y. inl y;
      requests = λ q g y.
          elim (at_snoc (requests_sent i w.log) (take n written) g q y) [
            | inl z ↦ inl z.1
            | inr z ↦ inr (rw (← z.1) (request_says t j f n target written c))
          ];
    }
calm {i} {w} t (hosts bs told) k =
    record {
      head = inl (inl refl);
      bit = refl;
      answers = λ p a y. inl y;
      requests = λ q g y.
          elim (at_snoc (requests_sent i w.log) bs g q y) [ inl z ↦ inl z.1 | inr z ↦ inr (rw (← z.1) (told_now i w.box bs told)) ];
    }
calm {i} {w} t (takes j r after c) k =
    record {
      head = inl (inl refl);
      bit = rw (c.box.accounts i) (take_bit i j (box_of w.box) r);
      answers = λ p a y. inl y;
      requests = λ q f y. inl y;
    }

-- ---- many calls

module _ {i : ℕ} (P : World → Type 0) where
  -- what every quiet call and every repeat keeps
  pub quietly : {Repeat : Event → Type 0} → ((w v : World) (x : Event) → Step i w x v → Quiet i x → P w → P v)
      → ((w v : World) (x : Event) → Step i w x v → Repeat x → P w → P v)
      → {w v : World} → Quietly i Repeat w v → P w → P v
  quietly f g still y = y
  quietly f g (next l s k) y = f _ _ _ s k (quietly f g l y)
  quietly f g (again l s k) y = g _ _ _ s k (quietly f g l y)

  pub no_repeat : (w v : World) (x : Event) → Step i w x v → NoRepeat x → P w → P v
  no_repeat w v x s k y = absurd k

-- what every call but a Raise that is accepted keeps
module _ {i : ℕ} (P : World → Type 0) (stays : (w v : World) (x : Event) → Step i w x v → NoRaise i x → P w → P v) where
  stays_with : {Repeat : Event → Type 0} {w v : World} → ((x : Event) → Repeat x → NoRaise i x) → Quietly i Repeat w v → P w → P v
  stays_with repeats =
      quietly P (λ w v x s k y. stays w v x s (quiet_raises_not i x k) y) (λ w v x s k y. stays w v x s (repeats x k) y)

  pub quiet_stays : {w v : World} → Quietly i NoRepeat w v → P w → P v
  quiet_stays = stays_with (λ x k. absurd k)

  pub requested_stays : {q : ℕ} {bs : List ℕ} {w v : World} → Quietly i (RequestAgain q bs) w v → P w → P v
  requested_stays = stays_with (λ x k. rw k.2 (λ t. refl))

  pub until_read : {w v : World} (x : Exchange i w v) → P w → P x.w₂
  until_read x y = quiet_stays x.quiet₁ (stays _ _ _ x.answers (λ t. refl) y)

  pub exchange_stays : {w v : World} → Exchange i w v → P w → P v
  exchange_stays x y =
      let y₃ = stays _ _ _ x.box_reads (λ t. refl) (until_read x y) in
      let y₅ = stays _ _ _ x.requests (λ t. refl) (stays_with (λ e k. rw k.3 (λ t. refl)) x.quiet₂ y₃) in
      requested_stays x.quiet₄ (stays _ _ _ x.head_reads (λ t. refl) (quiet_stays x.quiet₃ y₅))
