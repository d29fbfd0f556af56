-- What happens to the frames that can still be given to an end: when a frame is sent, when one is given, when the bits change.
-- Assumes nothing.
use Prim.Native.Nat.{ℕ, ◌≤◌, ◌<◌}
use mathlib.Core.Bool.{Bool, not, not-not}
use mathlib.Core.Path.{◌≡◌, refl, sym, ap, ◌∙◌}
use mathlib.Core.Logic.{inl, inr}
use mathlib.Core.List.{List, [], ◌∷◌, ◌++◌}
use native.Mathlib.Omega.{arith}
use lib.ListN.{length, length-append}
use mathlib.Mathlib.Data.Bool.Basic.{eq-or-eq-not}
use Rattle.std.proofs.lemmas.Bool.{cases_lt}
use Rattle.std.specs.Prelude.{Ok, Some, slice_get}
use Rattle.std.proofs.lemmas.Option.{slice_get_within}
use Rattle.error_entry.specs.declared.ErrorEntry.{ErrorEntry}
use Rattle.reporter.specs.Rules.{ea_told}
use Rattle.signaling.proofs.Facts.{opposite, at_snoc}
use Rattle.signaling.proofs.Invariant.{Carries, en_said, batch_said, Answers, Requests}

-- ---- answers

module _ {en ea : Bool} {batch : List ErrorEntry} {sent : List (List ℕ)} {at opened : ℕ} (t : Answers en ea batch sent at opened) where
  -- a batch opens where the last one is booked: all that is under way is from before
  pub answers_open : ea ≡ en → (b : List ErrorEntry) → Answers (not en) ea b sent at (length sent)
  answers_open same b =
      let past : opened ≤ at = t.past same in
      record {
        old = λ p a hp e lt. t.new p a hp e (omega arith) ∙ sym (not-not en);
        new = λ p a hp e le. absurd (omega (arith, slice_get_within sent p a e));
        carry = λ p a hp e le ne. absurd (omega (arith, slice_get_within sent p a e));
        past = λ e. opposite en (sym same ∙ e);
        range = omega arith;
        given = t.given;
      }

  pub answers_send : (bs : List ℕ) → en_said bs ≡ en → batch_said bs ≡ batch → Answers en ea batch (sent ++ (bs ∷ [])) at opened
  answers_send bs bit entries =
      record {
        old = λ p a hp e lt.
            elim (at_snoc sent _ a p e) [ inl h ↦ t.old p a hp h.1 lt | inr h ↦ absurd (omega (arith, t.range, h.0)) ];
        new = λ p a hp e le.
            elim (at_snoc sent _ a p e) [ inl h ↦ t.new p a hp h.1 le | inr h ↦ ap en_said (sym h.1) ∙ bit ];
        carry = λ p a hp e le ne.
            elim (at_snoc sent _ a p e) [ inl h ↦ t.carry p a hp h.1 le ne | inr h ↦ ap batch_said (sym h.1) ∙ entries ];
        past = t.past;
        range = simp length-append (omega (arith, t.range));
        given = simp length-append (omega (arith, t.given));
      }

  -- the box is given the answer at p
  pub answers_later : (p : ℕ) → at ≤ p → p < length sent → Answers en ea batch sent p opened
  answers_later p le lt =
      record {
        old = λ k a hk. t.old k a (omega arith);
        new = λ k a hk. t.new k a (omega arith);
        carry = λ k a hk. t.carry k a (omega arith);
        past = λ e. omega (arith, t.past e);
        range = t.range;
        given = omega arith;
      }

  -- an answer whose bit is not EA is one of the open batch, and that is not booked
  pub answers_fresh : (batch ≡ [] → ea ≡ en) → (p : ℕ) (a : List ℕ) → at ≤ p → slice_get sent p ≡ Some a → en_said a ≡ not ea
      → (ea ≡ not en) × (opened ≤ p) × (en_said a ≡ en) × (batch_said a ≡ batch) × (batch ≡ [] → ⊥)
  answers_fresh idle p a hp e fresh =
      elim (eq-or-eq-not ea en) [
        | inl same ↦ opposite ea (same ∙ sym (t.new p a hp e (omega (arith, t.past same))) ∙ fresh)
        | inr differ ↦
            let bit : en_said a ≡ en = fresh ∙ ap not differ ∙ not-not en in
            let open? : batch ≡ [] → ⊥ = λ n. opposite en (sym (idle n) ∙ differ) in
            elim (cases_lt p opened) [
              | inl lt ↦ opposite en (sym bit ∙ t.old p a hp e lt)
              | inr le ↦ (differ, le, bit, t.carry p a hp e le open?, open?)
            ]
      ]

  pub answers_booked : (p : ℕ) → at ≤ p → p < length sent → opened ≤ p → (ea' : Bool) → Answers en ea' batch sent p opened
  answers_booked p le lt past ea' =
      record {
        old = λ k a hk. t.old k a (omega arith);
        new = λ k a hk. t.new k a (omega arith);
        carry = λ k a hk. t.carry k a (omega arith);
        past = λ e. past;
        range = t.range;
        given = omega arith;
      }

  pub answers_closed : Answers en ea [] sent at opened
  answers_closed =
      record {
        old = t.old;
        new = t.new;
        carry = λ p a hp e le ne. absurd (ne refl);
        past = t.past;
        range = t.range;
        given = t.given;
      }

-- ---- requests

module _ {i : ℕ} {en ea : Bool} {batch : List ErrorEntry} {sent : List (List ℕ)} {at turned : ℕ} (t : Requests i en ea batch sent at turned) where
  pub requests_open : batch ≡ [] → (en' : Bool) (b : List ErrorEntry) → Requests i en' ea b sent at turned
  requests_open shut en' b =
      record {
        old = t.old;
        new = t.new;
        closed = λ e. t.closed shut;
        unread = λ e. t.closed shut;
        range = t.range;
        given = t.given;
      }

  -- a request to this head carries EA; one to another head says nothing to it
  pub requests_send : (bs : List ℕ) → Carries i ea bs → Requests i en ea batch (sent ++ (bs ∷ [])) at turned
  requests_send bs says =
      record {
        old = λ q f hq e lt.
            elim (at_snoc sent _ f q e) [ inl h ↦ t.old q f hq h.1 lt | inr h ↦ absurd (omega (arith, t.range, h.0)) ];
        new = λ q f hq e le.
            elim (at_snoc sent _ f q e) [ inl h ↦ t.new q f hq h.1 le | inr h ↦ rw (← h.1) says ];
        closed = t.closed;
        unread = t.unread;
        range = simp length-append (omega (arith, t.range));
        given = simp length-append (omega (arith, t.given));
      }

  -- the head is given the request at q
  pub requests_later : (q : ℕ) → at ≤ q → q < length sent → Requests i en ea batch sent q turned
  requests_later q le lt =
      record {
        old = λ k f hk. t.old k f (omega arith);
        new = λ k f hk. t.new k f (omega arith);
        closed = λ e. omega (arith, t.closed e);
        unread = λ e. omega (arith, t.unread e);
        range = t.range;
        given = omega arith;
      }

  -- a request to this head whose bit is EN was sent after the batch was booked
  pub requests_fresh : (q : ℕ) (f : List ℕ) → at ≤ q → slice_get sent q ≡ Some f → (services : List ℕ) → ea_told services i f ≡ Ok (Some en)
      → (ea ≡ en) × (turned ≤ q)
  requests_fresh q f hq e services me =
      elim (eq-or-eq-not ea en) [
        | inl same ↦
            elim (cases_lt q turned) [ inl lt ↦ opposite en (t.old q f hq e lt services en me ∙ ap not same) | inr le ↦ (same, le) ]
        | inr differ ↦ opposite en (t.new q f hq e (omega (arith, t.unread differ)) services en me ∙ differ)
      ]

  pub requests_closed : (q : ℕ) → at ≤ q → q < length sent → turned ≤ q → Requests i en ea [] sent q turned
  requests_closed q le lt past =
      record {
        old = λ k f hk. t.old k f (omega arith);
        new = λ k f hk. t.new k f (omega arith);
        closed = λ e. past;
        unread = λ e. past;
        range = t.range;
        given = omega arith;
      }

  -- the box books the open batch: all requests under way are from before
  pub requests_booked : ea ≡ not en → (batch ≡ [] → ⊥) → Requests i en en batch sent at (length sent)
  requests_booked differ open? =
      let past : turned ≤ at = t.unread differ in
      record {
        old = λ q f hq e lt. rw differ at (t.new q f hq e (omega arith));
        new = λ q f hq e le. absurd (omega (arith, slice_get_within sent q f e));
        closed = λ e. absurd (open? e);
        unread = λ e. opposite en e;
        range = omega arith;
        given = t.given;
      }
