-- What the calls make of a state, by node ID: laws over plain lists of octets.
-- Assumes nothing.
use Prim.Native.Nat.{ℕ, ◌+◌, ◌≤◌, ◌<◌}
use mathlib.Core.Path.{◌≡◌, refl, sym, ap, ◌∙◌}
use mathlib.Core.Bool.{Bool, true, false, beq, true≢false}
use mathlib.Core.List.{List}
use mathlib.Core.Logic.{⊎_elim}
use native.Mathlib.Omega.{arith}
use lib.ListN.{length}
use lib.Seq.{get_or-drop}
use lib.Dec.{leb}
use borrow.Author.Tests.{leb-true}
use Rattle.octets.proofs.Elements.{zeros}
use Rattle.std.proofs.lemmas.Bool.{cases_lt}
use Rattle.std.specs.Prelude.{Result, Ok, Err, Option, Some, None}
use Rattle.octets.proofs.NumberBack.{Octets}
use Rattle.types.specs.Codes.{need, pick}
use Rattle.types.specs.Header.{eth_bytes}
use Rattle.types.specs.Nodes.{is_cn_node_id}
use Rattle.section.specs.Write.{padded}
use Rattle.control.specs.SoA.{soa_section}
use Rattle.frame.specs.Write.{frame_bytes}
use Rattle.error_entry.specs.declared.ErrorEntry.{ErrorEntry}
use Rattle.status_response.specs.Fields.{read_fields}
use Rattle.collector.specs.Layout.{node_at, collector_length, block, node_in, find_of, slot_of, count_in, book_in, account_in, account_of, vacant_of, box_of, fresh_bytes, register_bytes, response_bytes, booking_bytes, booked_bytes, taken_bytes, take_bytes}
use Rattle.collector.specs.Rules.{said_in, Said, heads, book_length, Account, Box, Same, fresh_box, with_account, register_answer, after_register, en_in, status_payload, book_answer, status_answer, response_answer, read_answer, booked_account, after_booking, after_response, request_frame, take_answer, without_first, after_take, response_in, status_in, booked_entries}
use Rattle.collector.specs.declared.ReadError.TheVariants.{NotRegistered, BookFull}
use Rattle.collector.specs.declared.ReadOutcome.TheVariants.{Booked, Known}
use Rattle.collector.specs.declared.RequestFields.{RequestFields}
use Rattle.collector.proofs.AnswerLaws.{cn_low, register_bad, register_full, register_new, register_known, take_unknown, take_one, take_nothing}
use Rattle.collector.proofs.BatchLaws.{booked_kept, booked_node, booked_place, booked_length}
use Rattle.collector.proofs.BookLaws.{book_most, taken_kept, taken_node, book_taken, taken_ea, taken_length, book_length_lem}
use Rattle.collector.proofs.IdLaws.{place_none, place_some, slot_taken, block_means}
use Rattle.collector.proofs.PlacedLaws.{placed_length}
use Rattle.collector.proofs.RegisterLaws.{placed_means}
use Rattle.collector.proofs.BookableLaws.{booked_in_range}
use Rattle.status_response.specs.declared.fields.StatusFields.{StatusFields}
use Rattle.types.specs.declared.hal.PowerlinkError.{PowerlinkError}
use Rattle.collector.specs.declared.RegisterError.{RegisterError}
use Rattle.collector.specs.declared.TakeError.{TakeError}
use Rattle.collector.specs.declared.ReadOutcome.{ReadOutcome}
use Rattle.collector.specs.declared.ReadError.{ReadError}
use Rattle.types.specs.declared.NodeId.{NodeId}

pub same_box : (b : Box) → Same b b
same_box b = record { accounts = λ i. refl; vacant = refl }

-- a place's book is within its bound
pub book_bound : (s : List ℕ) (i : ℕ) (p : Account) → account_of s i ≡ Some p → length p.book ≤ book_length
book_bound s i p e =
    ⊎_elim
    (λ (h : slot_of s i < heads).
    let q : Some (account_in s (slot_of s i)) ≡ Some p = sym (place_some s i h) ∙ e in
    let r : account_in s (slot_of s i) ≡ p = cc in
    omega (arith, book_most s (slot_of s i), ap (λ (x : Account). length x.book) r))
    (λ (h : heads ≤ slot_of s i). let q : None ≡ Some p = sym (place_none s i h) ∙ e in absurd (true≢false cc))
    (cases_lt (slot_of s i) heads)

-- ---- a fresh state

-- a state in which no block has a node
no_nodes : (s : List ℕ) → ((k : ℕ) → node_in s k ≡ 0) → Same (box_of s) fresh_box
unfolding vacant_of
no_nodes s z = record { accounts = λ i. place_none s i (unknown i); vacant = rw (z 0, z 1, z 2, z 3) }
  where
    unknown : (i : ℕ) → heads ≤ slot_of s i
    unknown i =
        ⊎_elim
        (λ (h : slot_of s i < heads). absurd (slot_taken s i h (z (slot_of s i))))
        (λ (h : heads ≤ slot_of s i). h)
        (cases_lt (slot_of s i) heads)

pub fresh_means : Same (box_of fresh_bytes) fresh_box
unfolding node_in
fresh_means = no_nodes fresh_bytes (λ k. zeros (block k + node_at) collector_length)

-- ---- register

pub register_means : (s : List ℕ) → length s ≡ collector_length → (i : ℕ)
    → Same (box_of (register_bytes (register_answer i (box_of s)) i s)) (after_register (register_answer i (box_of s)) i (box_of s))
register_means s size i = by_id (is_cn_node_id i) refl
  where
    by_id : (b : Bool) → is_cn_node_id i ≡ b
        → Same (box_of (register_bytes (register_answer i (box_of s)) i s)) (after_register (register_answer i (box_of s)) i (box_of s))
    by_id false bad = rw (← register_bad s i bad) (same_box (box_of s))
    by_id true cn =
        ⊎_elim
        (λ (known : find_of s i < heads). rw (← register_known s i cn known) (same_box (box_of s)))
        (λ (unknown : heads ≤ find_of s i).
        ⊎_elim
        (λ (free : find_of s 0 < heads). rw (← register_new s i cn unknown free) (placed_means s i size (cn_low i cn) free unknown))
        (λ (full : heads ≤ find_of s 0). rw (← register_full s i cn unknown full) (same_box (box_of s)))
        (cases_lt (find_of s 0) heads))
        (cases_lt (find_of s i) heads)

pub register_length : (r : Result Unit RegisterError) (i : ℕ) (s : List ℕ) → length (register_bytes r i s) ≡ length s
register_length (Ok _) i s = placed_length s (find_of s 0) i
register_length (Err e) i s = refl

-- ---- take

module _ (s : List ℕ) (i : ℕ) (known : slot_of s i < heads) (size : length s ≡ collector_length) (more : 0 < count_in s (slot_of s i)) where
  taken_means : Same (box_of (taken_bytes s (slot_of s i))) (with_account i (without_first (account_of s i)) (box_of s))
  taken_means =
      let k : ℕ = slot_of s i in
      block_means s (taken_bytes s k) i known (taken_kept s k) (taken_node s k) (without_first (account_of s i))
      (rw (place_some s i known, book_taken s k size known more, taken_ea s k))

pub take_means : (s : List ℕ) → length s ≡ collector_length → (i : ℕ)
    → Same (box_of (take_bytes (take_answer (account_of s i)) i s)) (after_take (take_answer (account_of s i)) i (box_of s))
take_means s size i =
    ⊎_elim
    (λ (known : slot_of s i < heads).
    ⊎_elim
    (λ (less : count_in s (slot_of s i) < 1). rw (← take_nothing s i known (omega arith)) (same_box (box_of s)))
    (λ (more : 1 ≤ count_in s (slot_of s i)). rw (← take_one s i known size more) (taken_means s i known size more))
    (cases_lt (count_in s (slot_of s i)) 1))
    (λ (unknown : heads ≤ slot_of s i). rw (← take_unknown s i unknown) (same_box (box_of s)))
    (cases_lt (slot_of s i) heads)

pub take_length : (r : Result ErrorEntry TakeError) (i : ℕ) (s : List ℕ) → length (take_bytes r i s) ≡ length s
take_length (Ok e) i s = taken_length s (slot_of s i)
take_length (Err x) i s = refl

-- ---- read

-- a batch that there is room for
module _ (s : List ℕ) (i : ℕ) (known : slot_of s i < heads) (size : length s ≡ collector_length) (payload : List ℕ) (octets : Octets payload) where
  booked_means : length (book_in s (slot_of s i)) + length (booked_entries payload) ≤ book_length
      → Same (box_of (booked_bytes s (slot_of s i) (en_in (read_fields payload)) (booked_entries payload)))
      (with_account i (booked_account (said_in payload) (account_of s i)) (box_of s))
  booked_means room =
      let k : ℕ = slot_of s i in
      let en : Bool = en_in (read_fields payload) in
      let es : List ErrorEntry = booked_entries payload in
      block_means s (booked_bytes s k en es) i known (booked_kept s k en es) (booked_node s k en es) (booked_account (said_in payload) (account_of s i))
      (rw (place_some s i known) (booked_place s k en es size known (booked_in_range payload octets) (omega (arith, book_length_lem s k))))

  -- the answer is that the batch is booked, so there was room
  room_for : (a : Result StatusFields PowerlinkError) → status_answer a (booked_entries payload) (account_in s (slot_of s i)) ≡ Ok Booked
      → length (book_in s (slot_of s i)) + length (booked_entries payload) ≤ book_length
  unfolding book_answer
  room_for (Err e) q = absurd (true≢false cc)
  room_for (Ok f) q =
      let book : List ErrorEntry = book_in s (slot_of s i) in
      let n : ℕ = length book + length (booked_entries payload) in
      leb-true n book_length (go (beq f.en_flag (account_in s (slot_of s i)).ea) (leb n book_length) q)
    where
      go : (same fits : Bool) → pick same (Ok Known) (need fits (Err BookFull) (Ok Booked)) ≡ Ok Booked → fits ≡ true
      go true fits q = absurd (true≢false cc)
      go false true q = refl
      go false false q = absurd (true≢false cc)

module _ (s : List ℕ) (size : length s ≡ collector_length) (payload : List ℕ) (octets : Octets payload) where
  booking_means : (h : Result (Option NodeId) PowerlinkError) → response_answer h (said_in payload) (box_of s) ≡ Ok Booked
      → Same (box_of (booking_bytes h (said_in payload) s)) (after_booking h (said_in payload) (box_of s))
  booking_means (Err e) q = same_box (box_of s)
  booking_means (Ok None) q = same_box (box_of s)
  booking_means (Ok (Some source)) q =
      let i : ℕ = source.0 in
      ⊎_elim
      (λ (known : slot_of s i < heads).
      booked_means s i known size payload octets (room_for s i known size payload octets (read_fields payload) (rw (place_some s i known) at q)))
      (λ (unknown : heads ≤ slot_of s i).
      let r : (Err NotRegistered) ≡ (Ok Booked) = rw (place_none s i unknown) at q in
      absurd (true≢false cc))
      (cases_lt (slot_of s i) heads)

module _ (s : List ℕ) (size : length s ≡ collector_length) (services f : List ℕ) (octets : Octets f) where
  payload_octets : Octets (status_payload f)
  payload_octets i = rw (get_or-drop 18 f i 0) (octets (18 + i))

  pub read_means : Same (box_of (response_bytes services (read_answer services f (box_of s)) f s)) (after_response services (read_answer services f (box_of s)) f (box_of s))
  unfolding read_answer
  read_means = go (read_answer services f (box_of s)) refl
    where
      go : (r : Result ReadOutcome ReadError) → read_answer services f (box_of s) ≡ r → Same (box_of (response_bytes services r f s)) (after_response services r f (box_of s))
      go (Ok Booked) q = booking_means s size (status_payload f) payload_octets (response_in services f) q
      go (Ok Known) q = same_box (box_of s)
      go (Err e) q = same_box (box_of s)

booking_length : (h : Result (Option NodeId) PowerlinkError) (said : Said) (s : List ℕ) → length (booking_bytes h said s) ≡ length s
booking_length (Err e) said s = refl
booking_length (Ok None) said s = refl
booking_length (Ok (Some source)) said s = booked_length s (slot_of s source.0) (en_in said.fields) said.entries

pub read_length : (services : List ℕ) (r : Result ReadOutcome ReadError) (f s : List ℕ) → length (response_bytes services r f s) ≡ length s
read_length services (Ok Booked) f s = booking_length (response_in services f) (status_in f) s
read_length services (Ok Known) f s = refl
read_length services (Err e) f s = refl

-- ---- request

pub request_size : (i : ℕ) (f : RequestFields) (ea : Bool) → length (request_frame i f ea) ≡ 60
unfolding request_frame frame_bytes eth_bytes soa_section padded
request_size i f ea = refl
