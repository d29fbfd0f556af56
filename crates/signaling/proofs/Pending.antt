-- The pending entries: every call but a Raise that is accepted adds none.
-- Assumes nothing.
use Prim.Native.Nat.{ℕ, ◌-◌, ◌≤◌}
use mathlib.Core.Bool.{false, true, Bool}
use mathlib.Core.Path.{◌≡◌, refl, ap, ◌∙◌}
use mathlib.Core.Logic.{inl, inr}
use mathlib.Core.List.{List, [], ◌∷◌, ◌++◌}
use native.Mathlib.Omega.{arith}
use lib.ListN.{length, length-append, length-drop, take-append-drop}
use Rattle.std.specs.Prelude.{Result, Ok, Err, Some}
use Rattle.types.specs.declared.hal.PowerlinkError.{PowerlinkError}
use Rattle.error_entry.specs.declared.ErrorEntry.{ErrorEntry}
use Rattle.reporter.specs.Rules.{opens, with_batch, batch_length, Head, opened, after_answer, ea_answer, after_acknowledge, ea_told}
use Rattle.reporter.specs.declared.ReadOutcome.{ReadOutcome}
use Rattle.signaling.specs.Calls.{Origin, Event, head_read, World, Step, raise, answer, head_reads, register, box_reads, request, takes, hosts}
use Rattle.signaling.proofs.Facts.{beq_same}
use Rattle.signaling.proofs.Invariant.{head_in, Held}
use Rattle.signaling.proofs.Quiet.{NoRaise, Ready, goes_on_lem, shut, not_raised, read_head}
use Rattle.signaling.proofs.Steps.{head_now}

-- ---- the head's opening, by cases of the two lists

open_twice : (h : Head) (b w : List ErrorEntry) → h.batch ≡ b → h.waiting ≡ w → opened (opened h) ≡ opened h
unfolding opened
open_twice h [] [] eb ew = let o : opens h ≡ false = rw (eb, ew) in rw (o, o)
open_twice h [] (x ∷ w) eb ew = let o : opens h ≡ true = rw (eb, ew) in rw (o, ew)
open_twice h (x ∷ b) w eb ew = let o : opens h ≡ false = rw eb in rw (o, o)

-- an opened head has nothing more to open
pub opened_twice : (h : Head) → opened (opened h) ≡ opened h
opened_twice h = open_twice h h.batch h.waiting refl refl

abbrev pub entries : Head → List ErrorEntry
entries h = h.batch ++ h.waiting

open_entries : (h : Head) (b w : List ErrorEntry) → h.batch ≡ b → h.waiting ≡ w → entries (opened h) ≡ entries h
unfolding opened
open_entries h [] [] eb ew = let o : opens h ≡ false = rw (eb, ew) in rw o
open_entries h [] (x ∷ w) eb ew =
    let o : opens h ≡ true = rw (eb, ew) in rw (o, eb) (take-append-drop batch_length h.waiting)
open_entries h (x ∷ b) w eb ew = let o : opens h ≡ false = rw eb in rw o

-- opening moves none
opened_entries : (h : Head) → entries (opened h) ≡ entries h
opened_entries h = open_entries h h.batch h.waiting refl refl

open_fewer : (h : Head) (b w : List ErrorEntry) → h.batch ≡ b → h.waiting ≡ w → length (opened h).waiting ≤ length (entries h) - 1
unfolding opened
open_fewer h [] [] eb ew = let o : opens h ≡ false = rw (eb, ew) in rw (o, eb, ew) (omega arith)
open_fewer h [] (x ∷ w) eb ew = let o : opens h ≡ true = rw (eb, ew) in rw (o, eb, ew) (omega (arith, length-drop 3 w))
open_fewer h (x ∷ b) w eb ew = let o : opens h ≡ false = rw eb in rw (o, eb) (omega (arith, length-append b h.waiting))

-- what is left when the batch closes: fewer by one at least, where there was one
pub opened_fewer : (h : Head) → length (opened h).waiting ≤ length (entries h) - 1
opened_fewer h = open_fewer h h.batch h.waiting refl refl

-- ---- the head's reading

-- a request that carries this bit
pub head_hears : {i : ℕ} {w v : World} {services : List ℕ} {o : Origin} {bs : List ℕ} {r : Result ReadOutcome PowerlinkError} {x : Bool}
    → ea_told services i bs ≡ Ok (Some x)
    → Held i w
    → Step i w (head_read services o bs r) v
    → head_in v ≡ after_acknowledge (Ok (ea_answer x (head_in w))) (head_in w)
head_hears me t (head_reads services o bs r after d c) = head_now t services bs r after c ∙ rw me

closed_by : (h : Head) (b : List ErrorEntry) → h.batch ≡ b → after_acknowledge (Ok (ea_answer h.en h)) h ≡ shut h
unfolding ea_answer
closed_by h [] eb =
    let same : after_acknowledge (Ok (ea_answer h.en h)) h ≡ h = rw eb in
    same ∙ ap (λ (b : List ErrorEntry). with_batch b h) eb
closed_by h (x ∷ b) eb = rw (eb, beq_same h.en)

-- a request that carries EN leaves no batch open
pub closed : (h : Head) → after_acknowledge (Ok (ea_answer h.en h)) h ≡ shut h
closed h = closed_by h h.batch refl

-- ---- so many are pending at most

pub record AtMost (i k : ℕ) (w : World) : Type 0 where
  pub ready : Ready i w
  pub few : length (entries (head_in w)) ≤ k

answered_entries : (r : Result ℕ PowerlinkError) (h : Head) → entries (after_answer r h) ≡ entries h
answered_entries (Ok n) h = opened_entries h
answered_entries (Err e) h = refl

module _ {k : ℕ} where
  shut_few : (h : Head) → length (entries h) ≤ k → length (entries (shut h)) ≤ k
  shut_few h few = omega (arith, few, length-append h.batch h.waiting)

  few_stays : {i : ℕ} {w v : World} {x : Event} → Step i w x v → NoRaise i x → length (entries (head_in w)) ≤ k
      → length (entries (head_in v)) ≤ k
  few_stays {i} {w} (raise e r after c) unraised few = rw (c.head, not_raised i e r unraised (head_in w)) few
  few_stays {w} (answer services f r after target written c) unraised few = rw (c.head, answered_entries r (head_in w)) few
  few_stays {w} (head_reads services o bs r after d c) unraised few =
      elim (read_head r (head_in w)) [ inl e ↦ rw (c.head, e) few | inr e ↦ rw (c.head, e) (shut_few (head_in w) few) ]
  few_stays (register j r after c) unraised few = few
  few_stays (box_reads services o bs r after d c) unraised few = few
  few_stays (request j f r target written c) unraised few = few
  few_stays (takes j r after c) unraised few = few
  few_stays (hosts bs told) unraised few = few

  pub at_most_stays : {i : ℕ} (w v : World) (x : Event) → Step i w x v → NoRaise i x → AtMost i k w → AtMost i k v
  at_most_stays w v x s unraised y = record { ready = goes_on_lem s y.ready; few = few_stays s unraised y.few }
