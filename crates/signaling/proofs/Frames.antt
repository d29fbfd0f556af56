-- What the frames of both ends are read as.
-- Assumes nothing.
use Prim.Native.Nat.{ℕ, zero, suc, ◌-◌, ◌^◌, ◌≤◌, ◌<◌, min}
use mathlib.Core.Bool.{Bool, true, false, true≢false}
use mathlib.Core.Path.{◌≡◌, refl, ap, ◌∙◌}
use mathlib.Core.List.{List, [], ◌∷◌, ◌++◌}
use native.Mathlib.Nat.{min-eq_left, min-le_right}
use native.Mathlib.Omega.{arith}
use lib.ListN.{length, replicate}
use lib.Dec.{ltb}
use borrow.Author.Tests.{ltb-true}
use Rattle.types.specs.Codes.{pick}
use Rattle.std.specs.Prelude.{Ok, Some}
use Rattle.types.specs.Header.{eth_bytes}
use Rattle.types.specs.Messages.{message_of}
use Rattle.types.specs.PollFlags.{poll_octet}
use Rattle.types.specs.declared.error_mode.ErrorEntryMode.{ErrorEntryMode}
use Rattle.types.specs.declared.error_mode.ErrorEntryMode.TheVariants.{Terminator, ErrorActive, ErrorCleared, EventOccurred}
use Rattle.types.specs.declared.poll_flags.PRFlag.{PRFlag}
use Rattle.services.proofs.Tables.{tables_hold}
use Rattle.section.specs.Write.{padded}
use Rattle.control.specs.ASnd.{asnd_bytes, asnd_section}
use Rattle.frame.specs.Write.{frame_bytes}
use Rattle.frame.specs.declared.PowerlinkFrame.TheVariants.{SoA, ASnd}
use Rattle.codec.specs.Frame.{read_frame}
use Rattle.error_entry.specs.declared.ErrorEntry.{ErrorEntry}
use Rattle.status_response.specs.Fields.{read_fields, head_bytes}
use Rattle.status_response.specs.ReadBack.{until_terminator, EachInRange}
use Rattle.status_response.specs.Steps.{status_bytes, unless_terminator}
use Rattle.status_response.specs.declared.bit_field.StaticErrorBitField.{StaticErrorBitField}
use Rattle.status_response.specs.declared.fields.StatusFields.{StatusFields}
use Rattle.status_response.proofs.ReadBack.{status_reads_back}
use Rattle.frame_laws.proofs.ASndBack.{asnd_back}
use Rattle.frame_laws.proofs.HeaderBack.{section_back}
use Rattle.frame_laws.proofs.ReadBack.{frame_read, frames_read_back}
use Rattle.reporter.specs.Calls.{Numbers, AnswerSizes}
use Rattle.reporter.specs.Rules.{Head, is_raisable, status_fields, answer_payload, answer_asnd, answer_frame, answer_length}
use Rattle.reporter.specs.declared.AnswerFields.{AnswerFields}
use Rattle.reporter.proofs.Meaning.{answer_size}
use Rattle.collector.specs.Rules.{Said, bookable, booked_entries, status_payload, request_soa, request_frame, response_in}
use Rattle.collector.specs.declared.RequestFields.{RequestFields}
use Rattle.signaling.specs.Arrival.{IsASnd, entries_at, Arrives}
use Rattle.signaling.specs.Calls.{node}
use Rattle.signaling.proofs.Arriving.{agree, said_same, response_same}
use Rattle.signaling.proofs.Fronts.{kind_told_lem, kinds_agree}

-- every entry may be raised, is of machine numbers and shows no status
abbrev pub Good : List ErrorEntry → Type 0
Good [] = Unit {0}
Good (e ∷ es) = ((is_raisable e ≡ true) × (e.entry_type.is_status_entry ≡ false) × Numbers e) × Good es

-- the octets are an answer of node i: an ASnd with all that stands in front of its entries, and a StatusResponse, whatever the table
pub record IsAnswer (i : ℕ) (bs : List ℕ) : Type 0 where
  pub asnd : IsASnd bs
  pub size : entries_at ≤ length bs
  pub status : (services : List ℕ) → response_in services bs ≡ Ok (Some (node i))

-- they are an answer of this head, with its EN and its batch
pub record Says (bs : List ℕ) (h : Head) : Type 0 where
  pub answer : IsAnswer h.id bs
  pub fields : StatusFields
  pub read : read_fields (status_payload bs) ≡ Ok fields
  pub en : fields.en_flag ≡ h.en
  pub entries : booked_entries (status_payload bs) ≡ h.batch

-- ---- the entries

-- what may be raised has a profile of 12 bits, and is no terminator
in_profile : (m : ErrorEntryMode) (p : ℕ) → unless_terminator m (ltb p 4096) false ≡ true → p < 2 ^ 12
in_profile Terminator p e = absurd (true≢false cc)
in_profile ErrorActive p e = ltb-true p 4096 e
in_profile ErrorCleared p e = ltb-true p 4096 e
in_profile EventOccurred p e = ltb-true p 4096 e

no_terminator : {A : Type 0} (m : ErrorEntryMode) (b : Bool) (x y : A) → unless_terminator m b false ≡ true → unless_terminator m x y ≡ x
no_terminator Terminator b x y e = absurd (true≢false cc)
no_terminator ErrorActive b x y e = refl
no_terminator ErrorCleared b x y e = refl
no_terminator EventOccurred b x y e = refl

in_range : (es : List ErrorEntry) → Good es → EachInRange es
unfolding is_raisable
in_range [] g = g
in_range (e ∷ es) g =
    let n : Numbers e = g.0.2 in (
      record {
        profile = in_profile e.entry_type.mode _ g.0.0;
        code = n.code;
        seconds = n.seconds;
        nanoseconds = n.nanoseconds;
        information = n.information;
      },
      in_range es g.1,
    )

to_the_end : (es : List ErrorEntry) → Good es → until_terminator es ≡ es
unfolding is_raisable
to_the_end [] g = refl
to_the_end (e ∷ es) g = no_terminator e.entry_type.mode _ _ _ g.0.0 ∙ ap (λ (l : List ErrorEntry). e ∷ l) (to_the_end es g.1)

picked : {A : Type 0} (b : Bool) (x y : A) → b ≡ false → pick b x y ≡ y
picked true x y e = absurd (true≢false cc)
picked false x y e = refl

-- all of them are booked
all_bookable : (es : List ErrorEntry) → Good es → bookable es ≡ es
all_bookable [] g = refl
all_bookable (e ∷ es) g =
    picked e.entry_type.is_status_entry _ _ g.0.1 ∙ ap (λ (l : List ErrorEntry). e ∷ l) (all_bookable es g.1)

-- ---- the answer

-- above 7 rs counts as 7
abbrev clamped : StatusFields → StatusFields
clamped f =
    record {
      en_flag = f.en_flag;
      ec_flag = f.ec_flag;
      pr = f.pr;
      rs = record { 0 = min f.rs.0 7 };
      nmt_state = f.nmt_state;
    }

same_poll : (p : PRFlag) (n : ℕ) → poll_octet p n ≡ poll_octet p (min n 7)
unfolding poll_octet
same_poll p n = rw (min-eq_left (min-le_right n 7))

same_head : (f : StatusFields) (field : StaticErrorBitField) → head_bytes f field ≡ head_bytes (clamped f) field
unfolding head_bytes
same_head f field = rw (same_poll f.pr f.rs.0)

answer_least : (n : ℕ) → 60 ≤ answer_length n
answer_least zero = omega arith
answer_least (suc n) = omega arith

-- whatever it carries
module _ (f : AnswerFields) (h : Head) where
  pub answer_long : entries_at ≤ length (answer_frame f h)
  answer_long = omega (arith, answer_size f h, answer_least (length h.batch))

  pub answer_asnd_lem : IsASnd (answer_frame f h)
  unfolding answer_frame frame_bytes eth_bytes asnd_section padded message_of
  answer_asnd_lem = kind_told_lem (answer_frame f h) answer_long

module _ (f : AnswerFields) (h : Head) (sizes : AnswerSizes f) (good : Good h.batch) where
  -- what stands behind the payload: the zeros that fill the smallest section
  abbrev behind : List ℕ
  behind = replicate (46 - length (asnd_bytes (answer_asnd f h.id).frame ++ answer_payload f h)) 0

  abbrev fields : StatusFields
  fields = clamped (status_fields f h.en)

  payload : status_payload (answer_frame f h) ≡ status_bytes (head_bytes fields f.static_error_bit_field) h.batch ++ behind
  unfolding answer_frame frame_bytes eth_bytes asnd_section padded answer_payload
  payload =
      ap (λ (l : List ℕ). status_bytes l h.batch ++ behind) (same_head (status_fields f h.en) f.static_error_bit_field)

  pub is_status : (services : List ℕ) → read_frame services (answer_frame f h) ≡ Ok (ASnd (answer_asnd f h.id).frame)
  unfolding answer_frame frame_bytes asnd_section padded
  is_status services =
      section_back services (answer_asnd f h.id).eth_header (asnd_section (answer_asnd f h.id).frame (answer_payload f h))
      (record { destination = sizes.destination; source = sizes.source; ethertype = refl }) (omega arith)
      ∙ asnd_back services (answer_asnd f h.id).frame (answer_payload f h) (tables_hold.status services)

  pub answer_reads : Says (answer_frame f h) h
  unfolding booked_entries
  answer_reads =
      record {
        answer = record { asnd = answer_asnd_lem f h; size = answer_long f h; status = λ services. rw (is_status services) };
        fields = fields;
        read = rw payload (status_reads_back.fields fields f.static_error_bit_field h.batch behind (min-le_right _ 7));
        en = refl;
        entries =
            rw payload
            (ap bookable
            (status_reads_back.entries fields f.static_error_bit_field h.batch behind (in_range h.batch good)
            ∙ to_the_end h.batch good)
            ∙ all_bookable h.batch good);
      }

-- ---- the request

pub request_reads : (services : List ℕ) (j : ℕ) (f : RequestFields) (ea : Bool) → length f.source_mac.0 ≡ 6
    → read_frame services (request_frame j f ea) ≡ Ok (SoA (request_soa j f ea).frame)
unfolding request_frame
request_reads services j f ea six =
    frame_read
    (frames_read_back.reads services (request_soa j f ea).eth_header (SoA (request_soa j f ea).frame) []
    (record { destination = refl; source = six; ethertype = refl }) refl)

-- ---- what arrives says what was sent

pub says_arrived : {f given : List ℕ} {h : Head} → Arrives f given → Says f h → Says given h
says_arrived y s =
    let asnd = s.answer.asnd in
    record {
      answer = record {
        asnd = kinds_agree (agree y) ∙ asnd;
        size = (agree y).right;
        status = λ services. response_same y services asnd ∙ s.answer.status services;
      };
      fields = s.fields;
      read = ap (λ (x : Said). x.fields) (said_same y) ∙ s.read;
      en = s.en;
      entries = ap (λ (x : Said). x.entries) (said_same y) ∙ s.entries;
    }
