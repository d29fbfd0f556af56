-- With places at the start for all that is not booked, every exchange finds the places that it needs.
-- Assumes nothing.
use Prim.Native.Nat.{ℕ, ◌+◌, ◌≤◌}
use mathlib.Core.Bool.{Bool, false, beq, true≢false}
use mathlib.Core.Path.{◌≡◌, sym, ap, ◌∙◌}
use mathlib.Core.List.{List}
use native.Mathlib.Omega.{arith}
use lib.ListN.{length, length-append}
use borrow.Author.Tests.{le-leb}
use Rattle.std.specs.Prelude.{Result, Ok, Err, Option, Some, None}
use Rattle.types.specs.declared.hal.PowerlinkError.{PowerlinkError}
use Rattle.error_entry.specs.declared.ErrorEntry.{ErrorEntry}
use Rattle.status_response.specs.declared.fields.StatusFields.{StatusFields}
use Rattle.collector.specs.Rules.{Said, book_length, Account, en_in, book_answer, status_answer, account_answer, read_answer, status_in}
use Rattle.collector.specs.declared.ReadError.TheVariants as refusal
use Rattle.collector.specs.declared.ReadError.{ReadError}
use Rattle.collector.specs.declared.ReadOutcome.TheVariants as box
use Rattle.collector.specs.declared.ReadOutcome.{ReadOutcome as BoxOutcome}
use Rattle.signaling.specs.Calls.{sent, box_read, tally, ruled, is_booked, Delivered, World, Step, box_reads, ea_of}
use Rattle.signaling.proofs.Facts.{either, beq_not, beq_false}
use Rattle.signaling.proofs.Invariant.{en_said, batch_said, book_of, head_in, place_for}
use Rattle.signaling.proofs.Quiet.{Ready, Roomy}
use Rattle.signaling.proofs.Steps.{read_as_sent}
use Rattle.signaling.proofs.Transit.{answers_fresh}

-- ---- the box reads

-- where the open batch is not booked, there is room for it
fits_batch : {i : ℕ} {w : World} → Ready i w → Roomy i w → is_booked i w.log ≡ false
    → length (book_of (place_for i w)) + length (head_in w).batch ≤ book_length
fits_batch y room new =
    let n = simp length-append at (ap length (rw (new, ← y.held.head) at y.held.inv.total)) in
    omega (arith, room, n)

-- an answer whose batch fits is not refused with 12
fits_status : (a : Result StatusFields PowerlinkError) (es : List ErrorEntry) (p : Account)
    → (beq (en_in a) p.ea ≡ false → length p.book + length es ≤ book_length)
    → status_answer a es p ≡ Err refusal.BookFull
    → ⊥
unfolding book_answer
fits_status (Err e) es p room full = absurd (true≢false cc)
fits_status (Ok f) es p room full =
    either (beq f.en_flag p.ea)
    (λ same. let x : status_answer (Ok f) es p ≡ Ok box.Known = rw same in absurd (true≢false cc))
    (λ new.
    let x : status_answer (Ok f) es p ≡ Ok box.Booked = rw (new, le-leb (length p.book + length es) book_length (room new)) in
    absurd (true≢false cc))

fits : (said : Said) (o : Option Account)
    → (beq (en_in said.fields) (ea_of o) ≡ false → length (book_of o) + length said.entries ≤ book_length)
    → account_answer said o ≡ Err refusal.BookFull
    → ⊥
fits said None room full = absurd (true≢false cc)
fits said (Some p) room full = fits_status said.fields said.entries p room full

-- what the box is given with a new bit carries the open batch, which is not booked, so there is room for it
room_for : {i p : ℕ} {bs : List ℕ} {w : World} (services : List ℕ) → Ready i w → Roomy i w → Delivered services i (sent p) bs (tally i w.log).answers
    → beq (en_said bs) (ea_of (place_for i w)) ≡ false
    → length (book_of (place_for i w)) + length (batch_said bs) ≤ book_length
room_for {i} {p} {bs} {w} services y room d new =
    let inv = y.held.inv in
    let (differ, past, bit, same-batch, open?) = answers_fresh inv.answers inv.idle p bs d.0 d.1 (beq_false _ _ new) in
    let en = (ruled i w.log).en in
    rw (same-batch, ← y.held.head) (fits_batch y room (inv.since ∙ ap (λ (b : Bool). beq b en) differ ∙ beq_not en))

pub room_found : {i p : ℕ} {services bs : List ℕ} {r : Result BoxOutcome ReadError} {w v : World}
    → Ready i w → Roomy i w → Step i w (box_read services (sent p) bs r) v
    → r ≡ Err refusal.BookFull
    → ⊥
unfolding read_answer en_said batch_said
room_found {i} {p} {services} {bs} {r} {w} y room (box_reads table from octets told after d c) full =
    let me = (y.held.inv.source p d.0 d.1.1).status services in
    let answer = (read_as_sent y.held services p bs r after d c).answer in
    fits (status_in d.0) (place_for i w) (room_for services y room d.1) (rw me at (sym answer ∙ full))
