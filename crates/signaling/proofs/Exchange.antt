-- What one exchange leaves: the head has closed what its answer carried, by the exchange's request or by a frame that it read before.
-- Assumes nothing.
use Prim.Native.Nat.{ℕ, ◌+◌, ◌-◌, ◌≤◌}
use mathlib.Core.Bool.{Bool, beq, true≢false}
use mathlib.Core.Path.{◌≡◌, refl, sym, ap, ◌∙◌}
use mathlib.Core.Logic.{◌⊎◌, inl, inr}
use mathlib.Core.List.{List, ◌∷◌}
use native.Mathlib.Omega.{arith}
use lib.ListN.{length}
use lib.Dec.{leb}
use Rattle.std.specs.Prelude.{IsSome, Result, Ok, Err, Some, Option, None, slice_get}
use Rattle.std.proofs.lemmas.Option.{slice_get_within}
use Rattle.types.specs.declared.hal.PowerlinkError.{PowerlinkError}
use Rattle.status_response.specs.declared.fields.StatusFields.{StatusFields}
use Rattle.reporter.specs.Rules.{Head, opened, ea_told}
use Rattle.reporter.specs.declared.ReadOutcome.{ReadOutcome}
use Rattle.collector.specs.Layout.{box_of}
use Rattle.collector.specs.Rules.{Said, book_length, Account, Box, book_answer, account_answer, read_answer, booked_account, after_response, response_in, status_in}
use Rattle.collector.specs.declared.ReadError.TheVariants as refusal
use Rattle.collector.specs.declared.ReadError.{ReadError}
use Rattle.collector.specs.declared.ReadOutcome.TheVariants as box
use Rattle.collector.specs.declared.ReadOutcome.{ReadOutcome as BoxOutcome}
use Rattle.collector.specs.declared.RequestError.{RequestError}
use Rattle.signaling.specs.Calls.{answer, sent, Event, answered, head_read, box_read, requested, answers_sent, requests_sent, node, World, Step, head_reads, box_reads, ea_of}
use Rattle.signaling.specs.Exchanges.{Quiet, AnswerAgain, NoRepeat, Quietly, Exchange}
use Rattle.signaling.proofs.Calls.{read_here}
use Rattle.signaling.proofs.Facts.{either, beq_same, beq_true}
use Rattle.signaling.proofs.Frames.{Says}
use Rattle.signaling.proofs.Invariant.{Carries, head_in, place_for}
use Rattle.signaling.proofs.Pending.{opened_twice, opened_fewer, head_hears, closed, AtMost, at_most_stays}
use Rattle.signaling.proofs.Steps.{read_as_sent}
use Rattle.signaling.proofs.Quiet.{NoRaise, Ready, goes_on_lem, shut, Calm, calm, quiet_raises_not, quietly, no_repeat, requested_stays}

-- ---- both ends, while nothing changes

-- Since the head became h and the box's bit became ea: all that was sent from the places n and m on says so.
record Steady (i : ℕ) (h : Head) (ea : Bool) (n m : ℕ) (w : World) : Type 0 where
  pub ready : Ready i w
  pub head : head_in w ≡ h
  pub bit : ea_of (place_for i w) ≡ ea
  pub mine : (p : ℕ) (a : List ℕ) → n ≤ p → slice_get (answers_sent i w.log) p ≡ Some a → Says a h
  pub its : (q : ℕ) (f : List ℕ) → m ≤ q → slice_get (requests_sent i w.log) q ≡ Some f → Carries i ea f

-- places from here on
steady_from : {i : ℕ} {h : Head} {ea : Bool} {w : World} → Ready i w → head_in w ≡ h → ea_of (place_for i w) ≡ ea
    → Steady i h ea (length (answers_sent i w.log)) (length (requests_sent i w.log)) w
steady_from {i} {w} y eh eb =
    record {
      ready = y;
      head = eh;
      bit = eb;
      mine = λ p a le e. absurd (omega (arith, slice_get_within (answers_sent i w.log) p a e));
      its = λ q f le e. absurd (omega (arith, slice_get_within (requests_sent i w.log) q f e));
    }

module _ {i : ℕ} {h : Head} {ea : Bool} {n m : ℕ} where
  steady_by : {w v : World} → Ready i v → Calm i w v → head_in v ≡ h → ea_of (place_for i w) ≡ ea
      → ((p : ℕ) (a : List ℕ) → n ≤ p → slice_get (answers_sent i w.log) p ≡ Some a → Says a h)
      → ((q : ℕ) (f : List ℕ) → m ≤ q → slice_get (requests_sent i w.log) q ≡ Some f → Carries i ea f)
      → Steady i h ea n m v
  steady_by y z head eb mine its =
      record {
        ready = y;
        head = head;
        bit = z.bit ∙ eb;
        mine = λ p a le e. elim (z.answers p a e) [ inl k ↦ mine p a le k | inr k ↦ rw head at k ];
        its = λ q f le e. elim (z.requests q f e) [ inl k ↦ its q f le k | inr k ↦ rw eb at k ];
      }

-- the answer that opens: from its place on, all answers say what the opened head holds
first_steady : {i : ℕ} {w v : World} {n : ℕ} {bs : List ℕ} → Step i w (answered (Ok n) bs) v → Ready i w
    → Steady i (opened (head_in w)) (ea_of (place_for i w)) (length (answers_sent i w.log)) (length (requests_sent i w.log)) v
first_steady {i} {w} {n} {bs} (answer services f r after target written c) y =
    let s : Step i w (answered (Ok n) bs) (record { head = after; box = w.box; log = answered (Ok n) bs ∷ w.log }) =
    answer services f (Ok n) after target bs c in
    steady_by (goes_on_lem s y) (calm y.held s tt) c.head refl
    (λ p a le e. absurd (omega (arith, slice_get_within (answers_sent i w.log) p a e)))
    (λ q f le e. absurd (omega (arith, slice_get_within (requests_sent i w.log) q f e)))

-- ---- the box reads

module _ (said : Said) (f : StatusFields) (e : said.fields ≡ Ok f) where
  -- an answer that is not refused with 12 is known or booked
  outcome : (o : Option Account) → IsSome o → (account_answer said o ≡ Err refusal.BookFull → ⊥)
      → ((account_answer said o ≡ Ok box.Known) × (ea_of o ≡ f.en_flag)) ⊎ (account_answer said o ≡ Ok box.Booked)
  unfolding book_answer
  outcome None is found = absurd (true≢false cc)
  outcome (Some p) is found =
      either (beq f.en_flag p.ea)
      (λ same. inl (rw (e, same), sym (beq_true f.en_flag p.ea same)))
      (λ new.
      either (leb (length p.book + length said.entries) book_length)
      (λ fits. inr (rw (e, new, fits)))
      (λ full. absurd (found (rw (e, new, full)))))

  -- one that carries EA is known
  known : (o : Option Account) → IsSome o → ea_of o ≡ f.en_flag → account_answer said o ≡ Ok box.Known
  unfolding book_answer
  known None is same = absurd (true≢false cc)
  known (Some p) is same = rw (e, same, beq_same f.en_flag)

  booked_bit : (o : Option Account) → IsSome o → (booked_account said o).ea ≡ f.en_flag
  booked_bit None is = absurd (true≢false cc)
  booked_bit (Some p) is = rw e

module _ (services : List ℕ) (i : ℕ) (h : Head) (bs : List ℕ) (b : Box) (says : Says bs h) (id : h.id ≡ i) where
  hears_me : response_in services bs ≡ Ok (Some (node i))
  hears_me = rw (← id) (says.answer.status services)

  box_says_lem : read_answer services bs b ≡ account_answer (status_in bs) (b.accounts i)
  unfolding read_answer
  box_says_lem = rw hears_me

  -- then its bit is EA
  box_agrees : IsSome (b.accounts i) → (read_answer services bs b ≡ Err refusal.BookFull → ⊥)
      → ea_of ((after_response services (read_answer services bs b) bs b).accounts i) ≡ h.en
  box_agrees is found =
      let said = status_in bs in
      let o = b.accounts i in
      elim (outcome said says.fields says.read o is (λ full. found (box_says_lem ∙ full))) [
        | inl k ↦ rw (box_says_lem, k.0) (k.1 ∙ says.en)
        | inr k ↦ rw (box_says_lem, k, read_here services i bs b hears_me) (booked_bit said says.fields says.read o is ∙ says.en)
      ]

module _ {i : ℕ} {h : Head} {ea : Bool} {n m : ℕ} {w : World} (y : Steady i h ea n m w) where
  its_id : h.id ≡ i
  its_id = rw (← y.head, y.ready.held.head) y.ready.held.inv.id

  -- the first reading, and a repeat: EA is EN behind it
  box_steady : {p : ℕ} {services bs : List ℕ} {r : Result BoxOutcome ReadError} {v : World}
      → n ≤ p → Step i w (box_read services (sent p) bs r) v
      → (r ≡ Err refusal.BookFull → ⊥)
      → Steady i h h.en n (length (requests_sent i w.log)) v
  box_steady {p} {services} {bs} {r} le (box_reads table from octets told after d c) found =
      let s : Step i w (box_read services (sent p) bs r) (record { head = w.head; box = after; log = box_read services (sent p) bs r ∷ w.log }) =
      box_reads services (sent p) bs r after d c in
      let sent-read = read_as_sent y.ready.held services p bs r after d c in
      record {
        ready = goes_on_lem s y.ready;
        head = y.head;
        bit =
            rw (sent-read.box.accounts i, sent-read.answer)
            (box_agrees services i h d.0 (box_of w.box) (y.mine p d.0 le d.1.1) its_id y.ready.place (λ full. found (sent-read.answer ∙ full)));
        mine = y.mine;
        its = λ q f le e. absurd (omega (arith, slice_get_within (requests_sent i w.log) q f e));
      }

  -- what carries EA is not refused
  known_found : {p : ℕ} {services bs : List ℕ} {r : Result BoxOutcome ReadError} {v : World}
      → n ≤ p → ea ≡ h.en → Step i w (box_read services (sent p) bs r) v
      → r ≡ Err refusal.BookFull
      → ⊥
  known_found {p} {services} {bs} {r} le same (box_reads table from octets told after d c) full =
      let a = d.0 in
      let says = y.mine p a le d.1.1 in
      let k = known (status_in a) says.fields says.read (place_for i w) y.ready.place (y.bit ∙ same ∙ sym says.en) in
      let x = box_says_lem services i h a (box_of w.box) says its_id in
      let z : Err refusal.BookFull ≡ Ok box.Known = sym full ∙ (read_as_sent y.ready.held services p bs r after d c).answer ∙ x ∙ k in
      absurd (true≢false cc)

-- ---- the head reads

module _ {i : ℕ} {h : Head} {n m q : ℕ} {services bs : List ℕ} {x : Bool} {r : Result ReadOutcome PowerlinkError} (le : m ≤ q) (me : ea_told services i bs ≡ Ok (Some x)) where
  carries_en : {w v : World} → Step i w (head_read services (sent q) bs r) v → Steady i h h.en n m w → ea_told services i bs ≡ Ok (Some h.en)
  carries_en (head_reads table from octets told after d c) y = me ∙ ap (λ b. Ok (Some b)) (y.its q bs le d.1 services x me)

  head_ends : {w v : World} → Step i w (head_read services (sent q) bs r) v → Steady i h h.en n m w → head_in v ≡ shut h
  head_ends s y = head_hears (carries_en s y) y.ready.held s ∙ rw y.head (closed h)

-- ---- the calls of an exchange

-- that, or k entries are pending at most
abbrev Unless : ℕ → ℕ → (World → Type 0) → World → Type 0
Unless i k P w = P w ⊎ AtMost i k w

-- the box has read an answer that was sent from the place n on
abbrev Agreed : ℕ → Head → ℕ → World → Type 0
Agreed i h n w = (m : ℕ) × Steady i h h.en n m w

-- a call that leads from one to another
unless : {i k : ℕ} {A B : Type 0} {w v : World} {x : Event} → Step i w x v → NoRaise i x → (A → B ⊎ AtMost i k v) → A ⊎ AtMost i k w
    → B ⊎ AtMost i k v
unless s unraised f (inl y) = f y
unless s unraised f (inr y) = inr (at_most_stays _ _ _ s unraised y)

-- The head became h when its answer opened a batch. Until that closes both ends are steady; then k entries are pending at most.
module _ {i : ℕ} {h : Head} {k : ℕ} (settled : opened h ≡ h) (fewer : length h.waiting ≤ k) where
  closes : {w : World} → Ready i w → head_in w ≡ shut h → AtMost i k w
  closes y e = record { ready = y; few = rw e fewer }

  quiet_steady : {ea : Bool} {n m : ℕ} {w v : World} {x : Event} → Step i w x v → Quiet i x → Steady i h ea n m w
      → Unless i k (Steady i h ea n m) v
  quiet_steady s quiet y =
      let z = calm y.ready.held s quiet in
      let on = goes_on_lem s y.ready in
      elim z.head [
        | inl read ↦
            elim read [
              | inl e ↦ inl (steady_by on z (e ∙ y.head) y.bit y.mine y.its)
              | inr e ↦ inr (closes on (e ∙ ap shut y.head))
            ]
        | inr e ↦ inl (steady_by on z (e ∙ ap opened y.head ∙ settled) y.bit y.mine y.its)
      ]

  quietly_steady : {ea : Bool} {n m : ℕ} {w v : World} → Quietly i NoRepeat w v → Unless i k (Steady i h ea n m) w
      → Unless i k (Steady i h ea n m) v
  quietly_steady {ea} {n} {m} =
      let P = Unless i k (Steady i h ea n m) in
      quietly P (λ w v x s quiet y. unless s (quiet_raises_not i x quiet) (quiet_steady s quiet) y) (no_repeat P)

  quiet_agreed : {n : ℕ} {w v : World} {x : Event} → Step i w x v → Quiet i x → Agreed i h n w → Unless i k (Agreed i h n) v
  quiet_agreed s quiet y = elim (quiet_steady s quiet y.1) [ inl z ↦ inl (y.0, z) | inr z ↦ inr z ]

  agrees_again : {n p : ℕ} {w v : World} → n ≤ p → Quietly i (AnswerAgain p) w v → Unless i k (Agreed i h n) w
      → Unless i k (Agreed i h n) v
  agrees_again {n} {p} le =
      quietly (Unless i k (Agreed i h n)) (λ w v x s quiet y. unless s (quiet_raises_not i x quiet) (quiet_agreed s quiet) y)
      (λ w v x s again y.
      let read : Step i w (box_read again.0 (sent p) again.1 again.2) v = rw again.3 at s in
      unless read (λ t. refl) (λ z. inl (_, box_steady z.1 le read (known_found z.1 le refl read))) y)

  -- all that is sent from the exchange's request on carries EN
  asks : {n m : ℕ} {w v : World} {j : ℕ} {r : Result ℕ RequestError} {bs : List ℕ} → Step i w (requested j r bs) v → Steady i h h.en n m w
      → Unless i k (Steady i h h.en (length (answers_sent i w.log)) (length (requests_sent i w.log))) v
  asks s y = quiet_steady s tt (steady_from y.ready y.head y.bit)

  -- behind the exchange's answer
  exchanged_by : {ea : Bool} {m : ℕ} {w v : World} (x : Exchange i w v) → (x.box_says ≡ Err refusal.BookFull → ⊥)
      → Steady i h ea (length (answers_sent i w.log)) m x.w₁
      → AtMost i k v
  exchanged_by {w} x found y =
      let y₂ = quietly_steady x.quiet₁ (inl y) in
      let y₃ : Unless i k (Agreed i h (length (answers_sent i w.log))) x.w₃ =
      unless x.box_reads (λ t. refl) (λ z. inl (_, box_steady z x.new_answer x.box_reads found)) y₂ in
      let y₄ = agrees_again x.new_answer x.quiet₂ y₃ in
      let y₅ = unless x.requests (λ t. refl) (λ z. asks x.requests z.1) y₄ in
      let y₆ = quietly_steady x.quiet₃ y₅ in
      requested_stays (AtMost i k) at_most_stays x.quiet₄
      (elim y₆ [
        | inl z ↦ closes (goes_on_lem x.head_reads z.ready) (head_ends x.new_request x.mine x.head_reads z)
        | inr z ↦ at_most_stays _ _ _ x.head_reads (λ t. refl) z
      ])

-- each exchange closes one entry at least, while there is one
pub exchanged : {i k : ℕ} {w v : World} → AtMost i k w → (x : Exchange i w v) → (x.box_says ≡ Err refusal.BookFull → ⊥) → AtMost i (k - 1) v
exchanged {k} {w} y x found =
    let h = head_in w in
    let fewer : length (opened h).waiting ≤ k - 1 = omega (arith, opened_fewer h, y.few) in
    exchanged_by (opened_twice h) fewer x found (first_steady x.answers y.ready)
