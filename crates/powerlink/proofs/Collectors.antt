-- What a caller of a collector's request is told, from what the lower calls promise.
-- Assumes nothing.
use Prim.Native.Nat.{ℕ}
use mathlib.Core.Bool.{Bool, true, false}
use mathlib.Core.Path.{◌≡◌, refl, ap, ◌∙◌}
use mathlib.Core.List.{List}
use lib.ListN.{length, get_or}
use lib.Dec.{eqb, leb}
use Rattle.std.specs.Prelude.{Result, Ok, Err, Option, Some, None}
use Rattle.types.specs.Codes.{pick}
use Rattle.types.specs.States.{state_of}
use Rattle.types.specs.declared.hal.PowerlinkError.TheVariants.{BufferTooShort}
use Rattle.types.specs.declared.states.NmtState.{NmtState}
use Rattle.section.specs.Write.{min_frame, write_answer, write_cause, unnamed_answer}
use Rattle.collector.specs.Calls.{Requests}
use Rattle.collector.specs.Layout.{account_of}
use Rattle.collector.specs.Rules.{Account, is_registered, request_frame, as_request, request_answer, request_cause}
use Rattle.collector.specs.declared.RequestFields.{RequestFields}
use Rattle.c_values.specs.Answers.{octet_after, octet_told, RowTold}
use Rattle.powerlink.specs.Collecting.{unasked, CollectorRequests}
use Rattle.powerlink.specs.Given.{node}
use Rattle.powerlink.proofs.Told.{unnamed_told}
use Rattle.types.specs.declared.hal.PowerlinkError.{PowerlinkError}
use Rattle.collector.specs.declared.RequestError.{RequestError}

-- a writer's answer has the same row as a request's
same_row : (a : Result ℕ PowerlinkError) → write_cause a ≡ request_cause (as_request a)
same_row (Ok n) = refl
same_row (Err e) = refl

module _ (i : ℕ) (f : NmtState → RequestFields) (code : ℕ) where
  -- a state's code that names nothing, for a node without a place and for one with
  module _ (s : List ℕ) (e : PowerlinkError) (q : state_of code ≡ Err e) where
    pub asks_nobody : (t : List ℕ) (n o : ℕ) → false ≡ is_registered (account_of s i) → CollectorRequests i f code 11 s t t n n o o
    asks_nobody t n o h =
        record { told = rw (q, no_place (account_of s i) h) (record { cause = refl; value = refl; octet = refl }); requests = rw q refl }
      where
        no_place : (p : Option Account) → false ≡ is_registered p → p ≡ None
        no_place None h = refl
        no_place (Some p) h = cc

    module _ (t : List ℕ) (r n o o' : ℕ) where
      unasked_told : (p : Option Account) → true ≡ is_registered p
          → (r ≡ (write_cause (unnamed_answer min_frame e (length t))).number) × (o' ≡ octet_after (unnamed_answer min_frame e (length t)) o)
          → RowTold (request_cause (unasked e t p)) r n n o o'
      unasked_told None h u = let z : ◌≡◌ {A = Bool} true false = h in record { cause = cc; value = cc; octet = cc }
      unasked_told (Some p) h u =
          rw (same_row (unnamed_answer min_frame e (length t))) at (unnamed_told (leb min_frame (length t)) e r n o o' u)

      pub asks_none : true ≡ is_registered (account_of s i)
          → (r ≡ (write_cause (unnamed_answer min_frame e (length t))).number) × (o' ≡ octet_after (unnamed_answer min_frame e (length t)) o)
          → CollectorRequests i f code r s t t n n o o'
      asks_none h u = record { told = rw q (unasked_told (account_of s i) h u); requests = rw q refl }

  -- a code that names the state k
  module _ (k : NmtState) (q : state_of code ≡ Ok k) (t : List ℕ) where
    -- a target that is too short tells no octet
    octet_by : (fits : Bool) (n o : ℕ) → o ≡ octet_told (request_cause (as_request (pick fits (Ok n) (Err BufferTooShort)))) o
    octet_by true n o = refl
    octet_by false n o = refl

    octet_known : (o : ℕ) (p : Option Account) → o ≡ octet_told (request_cause (request_answer i (f k) t p)) o
    unfolding write_answer
    octet_known o None = refl
    octet_known o (Some p) =
        let bs = request_frame i (f k) p.ea in
        octet_by (leb (length bs) (length t)) (length bs) o

    pub asks_told : (s t' : List ℕ) (r n n' o : ℕ) (a : Result ℕ RequestError) → Requests (node i) (f k) a s t t' → r ≡ (request_cause a).number
        → n' ≡ pick (eqb (request_cause a).number 0) (get_or (request_cause a).returned 0 n) n → CollectorRequests i f code r s t t' n n' o o
    asks_told s t' r n n' o a w er en =
        record {
          told = rw q
              (record {
                cause = er ∙ ap (λ (x : Result ℕ RequestError). (request_cause x).number) w.answer;
                value = en ∙ ap (λ (x : Result ℕ RequestError). pick (eqb (request_cause x).number 0) (get_or (request_cause x).returned 0 n) n) w.answer;
                octet = octet_known o (account_of s i);
              });
          requests = rw q (rw w.answer at w);
        }
