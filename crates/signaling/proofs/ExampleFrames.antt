-- The frames of the example, and what the calls are given for them.
-- Assumes nothing.
use Prim.Native.Nat.{ℕ, zero, suc, ◌^◌, ◌≤◌, ◌<◌}
use mathlib.Core.Bool.{Bool, true, false, ◌&&◌, true≢false}
use mathlib.Core.Path.{◌≡◌, refl, sym, ap, ◌∙◌}
use mathlib.Core.List.{List, [], ◌∷◌, append-nil}
use native.Mathlib.Omega.{arith}
use lib.ListN.{length, take, replicate}
use lib.Dec.{ltb}
use borrow.Author.Tests.{ltb-true}
use Rattle.std.proofs.lemmas.Bool.{and_parts}
use Rattle.std.specs.Prelude.{Ok, Err, Some, None}
use Rattle.octets.proofs.NumberBack.{Octets}
use Rattle.types.specs.Addresses.{multicast_asnd}
use Rattle.types.specs.Codes.{need}
use Rattle.types.specs.Header.{eth_bytes}
use Rattle.types.specs.Messages.{message_of}
use Rattle.types.specs.PollFlags.{poll_octet}
use Rattle.types.specs.declared.basic.NewFrame.{NewFrame}
use Rattle.types.specs.declared.error_mode.ErrorEntryMode.{ErrorEntryMode}
use Rattle.types.specs.declared.error_mode.ErrorEntryMode.TheVariants.{Terminator, ErrorActive, ErrorCleared, EventOccurred}
use Rattle.types.specs.declared.hal.PowerlinkError.TheVariants.{InvalidServiceId}
use Rattle.types.specs.declared.poll_flags.PRFlag.TheVariants.{Low1}
use Rattle.types.specs.declared.states.NmtState.TheVariants.{NmtOperational}
use Rattle.services.specs.Ids.{is_listed}
use Rattle.services.specs.Table.{holds, ds301}
use Rattle.services.proofs.Tables.{table_holds, tables_hold}
use Rattle.section.specs.Write.{padded}
use Rattle.control.specs.ASnd.{new_asnd, asnd_section}
use Rattle.control.specs.declared.asnd.ASndFrame.{ASndFrame}
use Rattle.poll.specs.declared.pres.PResFrame.{PResFrame}
use Rattle.poll.specs.declared.preq.PReqFrame.{PReqFrame}
use Rattle.poll.specs.PReq.{new_preq}
use Rattle.poll.specs.PRes.{new_pres}
use Rattle.frame.specs.Write.{frame_bytes}
use Rattle.frame.specs.declared.PowerlinkFrame.TheVariants.{PReq, PRes, ASnd}
use Rattle.codec.specs.ASnd.{read_asnd}
use Rattle.codec.specs.Frame.{kind_in, read_section, read_frame}
use Rattle.error_entry.specs.Entry.{type_number, entry_of, entry_bytes}
use Rattle.error_entry.specs.declared.ErrorEntry.{ErrorEntry}
use Rattle.error_entry.proofs.ReadBack.{entries_read_back}
use Rattle.status_response.specs.BitField.{field_bytes}
use Rattle.status_response.specs.Fields.{head_bytes}
use Rattle.status_response.specs.Steps.{status_bytes, status_entries}
use Rattle.frame_laws.proofs.HeaderBack.{section_back}
use Rattle.frame_laws.proofs.ReadBack.{frame_read, frames_read_back}
use Rattle.records.proofs.RecordLaws.{bytes_length}
use Rattle.reporter.specs.Calls.{Numbers, AnswerSizes}
use Rattle.reporter.specs.Rules.{Head, fresh_head, is_raisable, answer_payload, answer_frame, ea_for, ea_told}
use Rattle.reporter.specs.declared.AnswerFields.{AnswerFields}
use Rattle.reporter.proofs.Meaning.{answer_size}
use Rattle.collector.specs.Rules.{request_frame, response_in, Said, booked_entries, en_in, status_payload, status_in}
use Rattle.collector.specs.declared.RequestFields.{RequestFields}
use Rattle.collector.proofs.BookableLaws.{bookable_few}
use Rattle.collector.proofs.Meaning.{request_size}
use Rattle.signaling.specs.Arrival.{IsStatusEntry, Arrives, put_in}
use Rattle.signaling.specs.Calls.{NotFrom, node}
use Rattle.signaling.specs.Example.{example_entry, entry, shown, two_put_in, five, house, made_status}
use Rattle.signaling.proofs.Arriving.{said_same, arrives_self, arrives_put}
use Rattle.signaling.proofs.Calls.{request_here, request_else}
use Rattle.signaling.proofs.Facts.{either}
use Rattle.signaling.proofs.Frames.{Says, is_status, answer_reads, answer_long, says_arrived}

-- ---- the entries, and what the calls are given

pub numbers : {status : Bool} (m : ErrorEntryMode) (c : ℕ) → c < 2 ^ 16 → Numbers (example_entry status m c)
numbers m c h = record { code = h; seconds = omega arith; nanoseconds = omega arith; information = omega arith }

unfoldable pub fields : AnswerFields
fields =
    record {
      source_mac = record { 0 = 2 ∷ 0 ∷ 0 ∷ 0 ∷ 0 ∷ 7 ∷ [] };
      dest_mac = record { 0 = multicast_asnd };
      ec_flag = false;
      pr = Low1;
      rs = record { 0 = 0 };
      nmt_state = NmtOperational;
      static_error_bit_field = record { error_register = 1; specific_errors = replicate 7 0 };
    }

pub sizes : AnswerSizes fields
unfolding fields
sizes = record { source = refl; destination = refl; errors = refl }

unfoldable pub asked : RequestFields
asked = record { source_mac = record { 0 = 2 ∷ 0 ∷ 0 ∷ 0 ∷ 0 ∷ 240 ∷ [] }; nmt_state = NmtOperational; epl_version = record { 0 = 0x20 } }

-- ---- the head, when it answers

abbrev pub fifth : ErrorEntry
fifth = entry ErrorCleared 0x8165

-- with the first batch open, and with the second
abbrev pub first : Head
first = record { id = 7; en = true; batch = take 4 five; waiting = fifth ∷ [] }

abbrev pub second : Head
second = record { id = 7; en = false; batch = fifth ∷ []; waiting = [] }

-- ---- the frames

-- whether all are octets
abbrev below : List ℕ → Bool
below [] = true
below (b ∷ bs) = ltb b 256 && below bs

octets : (bs : List ℕ) → below bs ≡ true → Octets bs
octets [] e i = omega arith
octets (b ∷ bs) e zero = ltb-true b 256 (and_parts (ltb b 256) (below bs) e).0
octets (b ∷ bs) e (suc i) = octets bs (and_parts (ltb b 256) (below bs) e).1 i

pub answer_octets : Octets (answer_frame fields first) × Octets (answer_frame fields second)
unfolding fields answer_frame frame_bytes eth_bytes asnd_section padded answer_payload status_bytes head_bytes field_bytes entry_bytes type_number poll_octet
answer_octets = (octets (answer_frame fields first) refl, octets (answer_frame fields second) refl)

pub first_says : Says (answer_frame fields first) first
unfolding is_raisable
first_says =
    answer_reads fields first sizes
    ((refl, refl, numbers _ _ (omega arith)), ((refl, refl, numbers _ _ (omega arith)), ((refl, refl, numbers _ _ (omega arith)), ((refl, refl, numbers _ _ (omega arith)), tt))))

pub second_says : Says (answer_frame fields second) second
unfolding is_raisable
second_says = answer_reads fields second sizes ((refl, refl, numbers _ _ (omega arith)), tt)

-- ---- answer 1 with a status entry put in, and its repeat with another

shown_status : (m : ErrorEntryMode) (c : ℕ) → c < 2 ^ 16 → (m ≡ Terminator → ⊥) → IsStatusEntry (entry_bytes (shown m c))
shown_status m c h ne =
    let back : entry_of (entry_bytes (shown m c)) ≡ shown m c =
    ap entry_of (sym (append-nil (entry_bytes (shown m c))))
    ∙ entries_read_back.entries (shown m c) []
    (record { profile = omega arith; code = h; seconds = omega arith; nanoseconds = omega arith; information = omega arith }) in
    record { entry = record { size = bytes_length (shown m c); mode = rw back ne }; status = rw back }

abbrev pub with_two : List ℕ
with_two = two_put_in (answer_frame fields first)

abbrev pub with_other : List ℕ
with_other = put_in 4 (entry_bytes (shown EventOccurred 0x8172)) (answer_frame fields first)

-- whatever arrives of the first answer has its four entries
first_put : {given : List ℕ} (n : ℕ) (m : ErrorEntryMode) (c : ℕ) → n ≤ 4 → c < 2 ^ 16 → (m ≡ Terminator → ⊥)
    → Arrives (answer_frame fields first) given
    → Arrives (answer_frame fields first) (put_in n (entry_bytes (shown m c)) given)
unfolding booked_entries
first_put {given} n m c few h ne y =
    let four = ap length (says_arrived y first_says).entries in
    arrives_put (entry_bytes (shown m c)) n y (omega (arith, four, bookable_few (status_entries (status_payload given)))) (shown_status m c h ne)

first_arrives : Arrives (answer_frame fields first) (answer_frame fields first)
first_arrives = arrives_self (answer_frame fields first) (answer_long fields first)

pub two_arrive : Arrives (answer_frame fields first) with_two
two_arrive =
    first_put 0 ErrorActive 0x8170 (omega arith) (omega arith) (λ e. absurd (true≢false cc))
    (first_put 2 ErrorCleared 0x8171 (omega arith) (omega arith) (λ e. absurd (true≢false cc)) first_arrives)

pub other_arrives : Arrives (answer_frame fields first) with_other
other_arrives = first_put 4 EventOccurred 0x8172 (omega arith) (omega arith) (λ e. absurd (true≢false cc)) first_arrives

pub two_octets : Octets with_two
unfolding fields answer_frame frame_bytes eth_bytes asnd_section padded answer_payload status_bytes head_bytes field_bytes entry_bytes type_number poll_octet
two_octets = octets with_two refl

-- the frame that no head sent says what a fresh head would
made_answer : made_status fields ≡ answer_frame fields (fresh_head 7)
unfolding answer_frame answer_payload
made_answer = refl

pub made_says : Says (made_status fields) (fresh_head 7)
made_says = rw made_answer (answer_reads fields (fresh_head 7) sizes tt)

pub made_octets : Octets (made_status fields)
unfolding fields frame_bytes eth_bytes asnd_section padded status_bytes head_bytes field_bytes entry_bytes type_number poll_octet
made_octets = octets (made_status fields) refl

-- its EN is not that of the first answer
pub made_other : Arrives (answer_frame fields first) (made_status fields) → ⊥
made_other y =
    let en : en_in (status_in (made_status fields)).fields ≡ en_in (status_in (answer_frame fields first)).fields = ap (λ (x : Said). en_in x.fields) (said_same y) in
    absurd (true≢false (cc (en, ap en_in made_says.read ∙ made_says.en, ap en_in first_says.read ∙ first_says.en)))

pub made_source : (services : List ℕ) → NotFrom 7 (read_frame services (made_status fields)) → ⊥
made_source services ne = (rw (made_answer, is_status fields (fresh_head 7) sizes tt services) at ne) refl

pub hears_ea : (services : List ℕ) (ea : Bool) → ea_told services 7 (request_frame 7 asked ea) ≡ Ok (Some ea)
unfolding asked
hears_ea services ea = request_here services 7 7 asked ea refl refl

-- ---- frames of another head, and one of the box's host

unfoldable other : NewFrame PResFrame
other =
    new_pres (record { 0 = 2 ∷ 0 ∷ 0 ∷ 0 ∷ 0 ∷ 9 ∷ [] }) (node 9) NmtOperational
    (record { ms = false; en = false; rd = true; pr = Low1; rs = record { 0 = 0 } })
    (record { 0 = 0 })
    0

pub pres_frame : List ℕ
pres_frame = frame_bytes other.eth_header (PRes other.frame) []

module _ (services : List ℕ) where
  pres_reads : read_frame services pres_frame ≡ Ok (PRes other.frame)
  unfolding other pres_frame
  pres_reads =
      frame_read
      (frames_read_back.reads services other.eth_header (PRes other.frame) [] (record { destination = refl; source = refl; ethertype = refl })
      (refl, (omega arith, (refl, omega arith))))

  pub pres_far : NotFrom 7 (read_frame services pres_frame) × NotFrom 240 (read_frame services pres_frame)
  unfolding other
  pres_far = (rw pres_reads (λ e. omega arith), rw pres_reads (λ e. omega arith))

  pub pres_other : response_in services pres_frame ≡ Ok None
  pres_other = rw pres_reads

  pub pres_ignored : ea_told services 7 pres_frame ≡ Ok None
  pres_ignored = rw pres_reads

unfoldable packer : NewFrame ASndFrame
packer =
    new_asnd (record { 0 = 2 ∷ 0 ∷ 0 ∷ 0 ∷ 0 ∷ 9 ∷ [] }) (record { 0 = multicast_asnd }) (node 255) (node 9) (record { 0 = 0x20 })

pub house_frame : List ℕ
house_frame = frame_bytes packer.eth_header (ASnd packer.frame) []

house_reads : (services : List ℕ)
    → read_frame services house_frame ≡ need (holds services 0x20) (Err (InvalidServiceId 0x20)) (Ok (ASnd packer.frame))
unfolding house_frame packer frame_bytes asnd_section padded message_of kind_in read_section read_asnd
house_reads services =
    section_back services packer.eth_header (asnd_section packer.frame []) (record { destination = refl; source = refl; ethertype = refl })
    (omega arith)

house_holds : holds house 0x20 ≡ true
house_holds = table_holds 0x20 _ (omega arith) refl

pub house_far : (services : List ℕ) → NotFrom 7 (read_frame services house_frame)
unfolding packer
house_far services =
    either (holds services 0x20) (λ held. rw (house_reads services, held) (λ e. omega arith)) (λ unheld. rw (house_reads services, unheld) tt)

pub house_other : response_in house house_frame ≡ Ok None
unfolding packer
house_other = rw (house_reads house, house_holds)

pub house_refused : response_in ds301 house_frame ≡ Err (InvalidServiceId 0x20)
unfolding is_listed
house_refused = rw (house_reads ds301, tables_hold.twelve 0x20)

unfoldable poll : Bool → NewFrame PReqFrame
poll ea =
    new_preq (record { 0 = 2 ∷ 0 ∷ 0 ∷ 0 ∷ 0 ∷ 240 ∷ [] }) (record { 0 = 2 ∷ 0 ∷ 0 ∷ 0 ∷ 0 ∷ 7 ∷ [] }) (node 7)
    (record { ms = false; ea = ea; rd = true })
    (record { 0 = 0 })
    0

pub preq_frame : Bool → List ℕ
preq_frame ea = frame_bytes (poll ea).eth_header (PReq (poll ea).frame) []

pub hears_host : (services : List ℕ) (ea : Bool) → ea_told services 7 (preq_frame ea) ≡ Ok (Some ea)
unfolding poll preq_frame ea_for
hears_host services ea =
    rw
    (frame_read
    (frames_read_back.reads services (poll ea).eth_header (PReq (poll ea).frame) []
    (record { destination = refl; source = refl; ethertype = refl }) (refl, omega arith)))

pub hears_not : (services : List ℕ) (ea : Bool) → ea_told services 7 (request_frame 9 asked ea) ≡ Ok None
unfolding asked
hears_not services ea = request_else services 7 9 asked ea refl (λ e. omega arith)

-- ---- how long they are

pub first_length : length (answer_frame fields first) ≡ 132
first_length = answer_size fields first

pub second_length : length (answer_frame fields second) ≡ 72
second_length = answer_size fields second

pub request_length : (i : ℕ) (ea : Bool) → length (request_frame i asked ea) ≡ 60
request_length i ea = request_size i asked ea
