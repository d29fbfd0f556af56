-- What the answers of the calls say of the states.
-- Assumes nothing.
use Prim.Native.Nat.{ℕ, ◌+◌, ◌≤◌}
use mathlib.Core.Bool.{Bool, true, false, ◌&&◌, beq, true≢false}
use mathlib.Core.Path.{◌≡◌, refl, sym, ◌∙◌}
use mathlib.Core.List.{List, [], ◌∷◌, ◌++◌}
use lib.ListN.{length, take, drop}
use lib.Seq.{take_at}
use lib.Dec.{leb, eqb}
use borrow.Author.Tests.{leb-true, eqb-true, eqb-false, eq-eqb, ne_eqb}
use Rattle.std.specs.Prelude.{Result, Ok, Err, Some, None, Option}
use Rattle.types.specs.Codes.{pick, need}
use Rattle.types.specs.declared.NodeId.{NodeId}
use Rattle.types.specs.declared.hal.PowerlinkError.TheVariants.{BufferTooShort}
use Rattle.types.specs.declared.hal.PowerlinkError.{PowerlinkError}
use Rattle.services.specs.Ids.{status_response}
use Rattle.services.specs.declared.ServiceId.{ServiceId}
use Rattle.section.specs.Write.{write_answer, overwritten}
use Rattle.frame.specs.declared.PowerlinkFrame.{PowerlinkFrame}
use Rattle.frame.specs.declared.PowerlinkFrame.TheVariants.{Soc, PReq, PRes, SoA, ASnd}
use Rattle.codec.specs.Frame.{read_frame}
use Rattle.error_entry.specs.declared.ErrorEntry.{ErrorEntry}
use Rattle.status_response.specs.declared.fields.StatusFields.{StatusFields}
use Rattle.frame_laws.proofs.Tests.{no_value, one_value, passed}
use Rattle.reporter.specs.Rules.{Head, ea_for, ea_in_frame, ea_in_answer, acknowledge_answer, after_acknowledge, ea_told}
use Rattle.collector.specs.Rules.{Said, book_length, Account, Box, register_vacant, register_answer, after_register, response_of_service, response_in_frame, response_in_answer, book_answer, status_answer, account_answer, en_in, booked_account, after_booking, after_response, request_answer, request_frame, as_request, after_request, take_first, take_answer, after_take, response_in, status_in}
use Rattle.collector.specs.declared.ReadError.TheVariants as refusal
use Rattle.collector.specs.declared.ReadError.{ReadError}
use Rattle.collector.specs.declared.ReadOutcome.TheVariants as box
use Rattle.collector.specs.declared.ReadOutcome.{ReadOutcome as BoxOutcome}
use Rattle.collector.specs.declared.RegisterError.TheVariants.{IdOutOfRange}
use Rattle.collector.specs.declared.RegisterError.{RegisterError}
use Rattle.collector.specs.declared.RequestFields.{RequestFields}
use Rattle.collector.specs.declared.TakeError.{TakeError}
use Rattle.signaling.specs.Calls.{NotFrom, source_of, node, ea_of}
use Rattle.signaling.proofs.Facts.{either}
use Rattle.signaling.proofs.Frames.{request_reads}
use Rattle.signaling.proofs.Invariant.{book_of}

-- ---- writing

written_by : (bs target : List ℕ) (n : ℕ) (fits : Bool)
    → Ok n ≡ pick fits (Ok (length bs)) (Err BufferTooShort)
    → take n (pick fits (bs ++ drop (length bs) target) target) ≡ bs
written_by bs target n true e = rw (one_value e) (take_at bs (drop (length bs) target) (length bs) refl)
written_by bs target n false e = absurd (no_value (sym e))

-- what is sent is what was to be written
pub written_frame : (bs target : List ℕ) (n : ℕ) → Ok n ≡ write_answer bs target → take n (overwritten bs target) ≡ bs
unfolding write_answer overwritten
written_frame bs target n e = written_by bs target n (leb (length bs) (length target)) e

-- ---- the head reads

-- what is not from node 240 says nothing to a head
far : (i source target : ℕ) (ea : Bool) → (source ≡ 240 → ⊥) → ea_for i source target ea ≡ None
unfolding ea_for
far i source target ea ne = rw (ne_eqb source 240 ne)

frame_unheard : (i : ℕ) (f : PowerlinkFrame) (h : Head) → (source_of f ≡ 240 → ⊥)
    → after_acknowledge (acknowledge_answer (Ok (ea_in_frame i f)) h) h ≡ h
frame_unheard i (Soc f) h ne = refl
frame_unheard i (PReq f) h ne = rw (far i f.source.0 f.destination.0 f.flags.ea ne)
frame_unheard i (PRes f) h ne = refl
frame_unheard i (SoA f) h ne = rw (far i f.source.0 f.target_node_id.0 f.flags.ea ne)
frame_unheard i (ASnd f) h ne = refl

pub unheard : (i : ℕ) (a : Result PowerlinkFrame PowerlinkError) (h : Head) → NotFrom 240 a
    → after_acknowledge (acknowledge_answer (ea_in_answer i a) h) h ≡ h
unheard i (Err e) h ne = refl
unheard i (Ok f) h ne = frame_unheard i f h ne

-- ---- request

pub record Requested (j : ℕ) (f : RequestFields) (o : Option Account) (bs : List ℕ) : Type 0 where
  pub place : Account
  pub known : o ≡ Some place
  pub octets : bs ≡ request_frame j f place.ea

as_written : (n : ℕ) (r : Result ℕ PowerlinkError) → Ok n ≡ as_request r → Ok n ≡ r
as_written n (Ok m) e = cc
as_written n (Err m) e = cc

pub requested_frame : (j : ℕ) (f : RequestFields) (o : Option Account) (target : List ℕ) (n : ℕ)
    → Ok n ≡ request_answer j f target o
    → Requested j f o (take n (after_request j f target o))
requested_frame j f None target n e = absurd (true≢false cc)
requested_frame j f (Some p) target n e =
    record {
      place = p;
      known = refl;
      octets = written_frame (request_frame j f p.ea) target n (as_written n (write_answer (request_frame j f p.ea) target) e);
    }

-- a request for j is heard by j alone
module _ (services : List ℕ) (i j : ℕ) (f : RequestFields) (ea : Bool) (six : length f.source_mac.0 ≡ 6) where
  heard_as : ea_told services i (request_frame j f ea) ≡ Ok (need (eqb j i) None (Some ea))
  unfolding ea_for
  heard_as = rw (request_reads services j f ea six)

  pub request_here : j ≡ i → ea_told services i (request_frame j f ea) ≡ Ok (Some ea)
  request_here e = heard_as ∙ rw (eq-eqb j i e)

  pub request_else : (j ≡ i → ⊥) → ea_told services i (request_frame j f ea) ≡ Ok None
  request_else ne = heard_as ∙ rw (ne_eqb j i ne)

-- ---- the box reads

pub record WhyBooked (said : Said) (o : Option Account) : Type 0 where
  pub place : Account
  pub known : o ≡ Some place
  pub fresh : beq (en_in said.fields) place.ea ≡ false
  pub room : length place.book + length said.entries ≤ book_length

booked_by : (same fits : Bool) → Ok box.Booked ≡ pick same (Ok box.Known) (need fits (Err refusal.BookFull) (Ok box.Booked))
    → (same ≡ false) × (fits ≡ true)
booked_by true fits e = absurd (true≢false cc)
booked_by false true e = (refl, refl)
booked_by false false e = absurd (true≢false cc)

booked_status : (a : Result StatusFields PowerlinkError) (es : List ErrorEntry) (p : Account) → Ok box.Booked ≡ status_answer a es p
    → (beq (en_in a) p.ea ≡ false) × (length p.book + length es ≤ book_length)
unfolding book_answer
booked_status (Err x) es p e = absurd (true≢false cc)
booked_status (Ok f) es p e =
    let y = booked_by (beq f.en_flag p.ea) (leb (length p.book + length es) book_length) e in
    (y.0, leb-true (length p.book + length es) book_length y.1)

pub why_booked : (said : Said) (o : Option Account) → Ok box.Booked ≡ account_answer said o → WhyBooked said o
why_booked said None e = absurd (true≢false cc)
why_booked said (Some p) e =
    let y = booked_status said.fields said.entries p e in
    record { place = p; known = refl; fresh = y.0; room = y.1 }

-- ---- the place of an ID, as each call of the box leaves it

module _ (i : ℕ) (said : Said) (b : Box) where
  service_elsewhere : (s : ServiceId) (source : NodeId) → (source.0 ≡ i → ⊥)
      → (after_booking (response_of_service s source) said b).accounts i ≡ b.accounts i
  service_elsewhere s source ne =
      either (eqb s.0 status_response) (λ is. rw (is, ne_eqb i source.0 (λ e. ne (sym e)))) (λ other. rw other)

  frame_elsewhere : (f : PowerlinkFrame) → (source_of f ≡ i → ⊥) → (after_booking (response_in_frame f) said b).accounts i ≡ b.accounts i
  frame_elsewhere (Soc f) ne = refl
  frame_elsewhere (PReq f) ne = refl
  frame_elsewhere (PRes f) ne = refl
  frame_elsewhere (SoA f) ne = refl
  frame_elsewhere (ASnd f) ne = service_elsewhere f.service_id f.source ne

  booking_elsewhere : (a : Result PowerlinkFrame PowerlinkError) → NotFrom i a → (after_booking (response_in_answer a) said b).accounts i ≡ b.accounts i
  booking_elsewhere (Err e) ne = refl
  booking_elsewhere (Ok f) ne = frame_elsewhere f ne

-- what is not from node i leaves its place
pub read_elsewhere : (services : List ℕ) (i : ℕ) (bs : List ℕ) (b : Box) (r : Result BoxOutcome ReadError) → NotFrom i (read_frame services bs)
    → (after_response services r bs b).accounts i ≡ b.accounts i
read_elsewhere services i bs b (Ok box.Booked) ne = booking_elsewhere i (status_in bs) b (read_frame services bs) ne
read_elsewhere services i bs b (Ok box.Known) ne = refl
read_elsewhere services i bs b (Err e) ne = refl

-- an answer of node i that is booked
pub read_here : (services : List ℕ) (i : ℕ) (bs : List ℕ) (b : Box) → response_in services bs ≡ Ok (Some (node i))
    → (after_response services (Ok box.Booked) bs b).accounts i ≡ Some (booked_account (status_in bs) (b.accounts i))
read_here services i bs b me = rw (me, eq-eqb i i refl)

-- ---- registering and Take

free_by : (o : Option Account) (n : ℕ) → register_vacant o n ≡ Ok tt → o ≡ None
free_by None n e = refl
free_by (Some p) n e = absurd (no_value e)

-- what is registered was not before
was_free : (j : ℕ) (b : Box) → register_answer j b ≡ Ok tt → b.accounts j ≡ None
unfolding register_answer
was_free j b e = free_by (b.accounts j) b.vacant (passed (leb 1 j && leb j 239) IdOutOfRange (register_vacant (b.accounts j) b.vacant) e).1

-- registering makes no difference in EA and book
pub register_same : (i j : ℕ) (b : Box) (r : Result Unit RegisterError) → r ≡ register_answer j b
    → (ea_of ((after_register r j b).accounts i) ≡ ea_of (b.accounts i)) × (book_of ((after_register r j b).accounts i) ≡ book_of (b.accounts i))
register_same i j b (Ok _) e =
    either (eqb i j)
    (λ here.
    let same : i ≡ j = eqb-true i j here in
    let free : b.accounts i ≡ None = rw same (was_free j b (sym e)) in
    (rw (here, free), rw (here, free)))
    (λ away. (rw away, rw away))
register_same i j b (Err x) e = (refl, refl)

pub take_elsewhere : (i j : ℕ) (b : Box) (r : Result ErrorEntry TakeError) → eqb j i ≡ false → (after_take r j b).accounts i ≡ b.accounts i
take_elsewhere i j b (Ok e) ne = rw (ne_eqb i j (λ y. eqb-false j i ne (sym y)))
take_elsewhere i j b (Err x) ne = refl

pub record WhyTaken (e : ErrorEntry) (o : Option Account) : Type 0 where
  pub place : Account
  pub known : o ≡ Some place
  pub first : place.book ≡ e ∷ drop 1 place.book

first_taken : (e : ErrorEntry) (b : List ErrorEntry) → Ok e ≡ take_first b → b ≡ e ∷ drop 1 b
first_taken e [] y = cc
first_taken e (x ∷ b) y = cc

pub why_taken : (e : ErrorEntry) (o : Option Account) → Ok e ≡ take_answer o → WhyTaken e o
why_taken e None y = absurd (true≢false cc)
why_taken e (Some p) y = record { place = p; known = refl; first = first_taken e p.book y }
