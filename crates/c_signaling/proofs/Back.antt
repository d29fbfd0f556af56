-- Each step of `signaling` is a call of a host in C.
-- Assumes nothing.
use Prim.Native.Nat.{ℕ}
use mathlib.Core.Bool.{Bool, true, false}
use mathlib.Core.Path.{◌≡◌, refl, ap, ◌∙◌}
use mathlib.Core.List.{List, [], ◌∷◌, ◌++◌}
use native.Mathlib.Omega.{arith}
use lib.ListN.{length, get_or}
use lib.Dec.{eqb, leb}
use Rattle.std.specs.Prelude.{Result, Ok, Err}
use Rattle.types.specs.Causes.{Cause}
use Rattle.types.specs.Codes.{pick}
use Rattle.types.specs.Modes.{mode_code, mode_of}
use Rattle.types.specs.PollFlags.{priority_code}
use Rattle.types.specs.States.{state_code, state_of}
use Rattle.types.specs.declared.hal.PowerlinkError.TheVariants.{BufferTooShort}
use Rattle.types.proofs.ReadBack.{priority_known}
use Rattle.types.specs.declared.states.NmtState.{NmtState}
use Rattle.types.proofs.ReadBack.{codes_read_back}
use Rattle.section.specs.Write.{write_answer, write_cause, octets}
use Rattle.error_entry.specs.declared.ErrorEntry.{ErrorEntry}
use Rattle.status_response.specs.BitField.{field_of, field_bytes}
use Rattle.status_response.specs.declared.bit_field.StaticErrorBitField.{StaticErrorBitField}
use Rattle.reporter.specs.Calls as reporter
use Rattle.reporter.specs.Layout.{head_of}
use Rattle.reporter.specs.Rules.{new_cause, raise_cause, opened, answer_frame, read_cause}
use Rattle.reporter.specs.declared.AnswerFields.{AnswerFields}
use Rattle.reporter.proofs.AnyTable.{any_table, answer_writes}
use Rattle.collector.specs.Calls as collector
use Rattle.collector.specs.Layout.{account_of}
use Rattle.collector.specs.Rules as rules
use Rattle.collector.specs.declared.RequestFields.{RequestFields}
use Rattle.c_values.specs.Answers.{length_after, octet_after, octet_told, values_told, RowTold}
use Rattle.powerlink.specs.Reporting.{answer_fields, answer_given}
use Rattle.signaling.specs.Calls as signaling
use Rattle.signaling.specs.Calls.{Origin, Event, raised, answered, head_read, registered, box_read, requested, taken, World, Step, Run}
use Rattle.c_signaling.specs.Calls.{Site, world_of, CStep, raises, answers, head_reads, registers, box_reads, requests, takes, hosts, CRun, fresh, call, StepsAreCalls}
use Rattle.c_signaling.specs.Log.{Raising, Call, reporter_raise, reporter_answer, reporter_read, collector_register, collector_read, collector_request, collector_take, host_sends, events}
use Rattle.c_signaling.proofs.Told.{raise_number, register_number, write_number, read_row, box_row, request_row, take_row}
use Rattle.types.specs.declared.hal.PowerlinkError.{PowerlinkError}
use Rattle.reporter.specs.declared.RaiseError.{RaiseError}
use Rattle.reporter.specs.declared.NewError.{NewError}
use Rattle.collector.specs.declared.RegisterError.{RegisterError}
use Rattle.collector.specs.declared.RequestError.{RequestError}
use Rattle.collector.specs.declared.TakeError.{TakeError}
use Rattle.reporter.specs.declared.ReadOutcome.{ReadOutcome}
use Rattle.collector.specs.declared.ReadOutcome.{ReadOutcome as BoxReadOutcome}
use Rattle.collector.specs.declared.ReadError.{ReadError}

-- ---- fields as C gives them

seven : (l : List ℕ) → length l ≡ 7
    → get_or l 0 0 ∷ get_or l 1 0 ∷ get_or l 2 0 ∷ get_or l 3 0 ∷ get_or l 4 0 ∷ get_or l 5 0 ∷ get_or l 6 0 ∷ [] ≡ l
seven [] e = absurd (omega arith)
seven (a ∷ []) e = absurd (omega arith)
seven (a ∷ b ∷ []) e = absurd (omega arith)
seven (a ∷ b ∷ c ∷ []) e = absurd (omega arith)
seven (a ∷ b ∷ c ∷ d ∷ []) e = absurd (omega arith)
seven (a ∷ b ∷ c ∷ d ∷ f ∷ []) e = absurd (omega arith)
seven (a ∷ b ∷ c ∷ d ∷ f ∷ g ∷ []) e = absurd (omega arith)
seven (a ∷ b ∷ c ∷ d ∷ f ∷ g ∷ h ∷ []) e = refl
seven (a ∷ b ∷ c ∷ d ∷ f ∷ g ∷ h ∷ i ∷ l) e = absurd (omega arith)

field_back : (f : StaticErrorBitField) → length f.specific_errors ≡ 7 → field_of (field_bytes f) ≡ f
unfolding field_of field_bytes
field_back f e = ap (λ (l : List ℕ). record { error_register = f.error_register; specific_errors = l }) (seven f.specific_errors e)

abbrev fields_of : AnswerFields → NmtState → AnswerFields
fields_of f =
    answer_fields f.source_mac.0 f.dest_mac.0 f.ec_flag (priority_code f.pr) f.rs.0
    (field_bytes f.static_error_bit_field)

fields_back : (f : AnswerFields) → reporter.AnswerSizes f → fields_of f f.nmt_state ≡ f
fields_back f z = rw (priority_known f.pr, field_back f.static_error_bit_field z.errors)

-- ---- the calls

record Comes (i : ℕ) (s : Site) (v : World) : Type 0 where
  made : Call
  site : Site
  step : CStep i s made site
  same : world_of site ≡ v

-- what is told of a row, where zeros stood
abbrev value : Cause → ℕ
value c = pick (eqb c.number 0) (get_or c.returned 0 0) 0

row_told : (c d : Cause) → c ≡ d → RowTold d c.number 0 (value c) 0 (octet_told c 0)
row_told c d e =
    record { cause = ap (λ (x : Cause). x.number) e; value = ap value e; octet = ap (λ (x : Cause). octet_told x 0) e }

kept_by : (fits : Bool) (n : ℕ) → 0 ≡ octet_after (pick fits (Ok n) (Err BufferTooShort)) 0
kept_by true n = refl
kept_by false n = refl

kept_octet : (bs t : List ℕ) → 0 ≡ octet_after (write_answer bs t) 0
unfolding write_answer
kept_octet bs t = kept_by (leb (length bs) (length t)) (length bs)

module _ (i : ℕ) (s : Site) where
  -- the world after a call of the head, and of the box
  abbrev by_head : List ℕ → signaling.Log → World
  by_head after l = record { head = after; box = s.box; log = l ++ events s.log }

  abbrev by_box : List ℕ → signaling.Log → World
  by_box after l = record { head = s.head; box = after; log = l ++ events s.log }

  raise_back : (e : ErrorEntry) (r : Result Unit RaiseError) (after : List ℕ) → reporter.Raises e r s.head after → Comes i s (by_head after (raised e r ∷ []))
  raise_back e r after c =
      let t = e.entry_type in
      let g : Raising =
      record {
        status = t.is_status_entry;
        queue = t.send_to_queue;
        mode = mode_code t.mode;
        profile = t.profile;
        code = e.error_code;
        stamp = e.timestamp;
        information = e.additional_information;
      } in
      let n = (raise_cause r).number in
      let q : mode_of (mode_code t.mode) ≡ Ok t.mode = codes_read_back.modes t.mode in
      record {
        made = reporter_raise g n;
        site = record { head = after; box = s.box; log = reporter_raise g n ∷ s.log };
        step = raises g n after
            (rw q (record { cause = ap (λ (x : Result Unit RaiseError). (raise_cause x).number) c.answer; raises = rw c.answer at c }));
        same = rw (q, raise_number r);
      }

  answer_back : (services : List ℕ) (f : AnswerFields) (r : Result ℕ PowerlinkError) (after t t' : List ℕ) → reporter.Answers services f r s.head after t t'
      → Comes i s (by_head after (answered r t' ∷ []))
  answer_back services f r after t t' c =
      let k = f.nmt_state in
      let n = (write_cause r).number in
      let m = length_after r 0 in
      let q : state_of (state_code k) ≡ Ok k = codes_read_back.states k in
      let b = fields_back f c.sizes in
      let bs = answer_frame f (opened (head_of s.head)) in
      let w : answer_given services (fields_of f) (state_code k) (head_of s.head) ≡ octets bs =
      rw (q, b) (any_table.answer services f (opened (head_of s.head))) in
      let y = answer_writes services f r s.head after t t' c in
      let a = y.answer in
      record {
        made = reporter_answer (state_code k) n t' m;
        site = record { head = after; box = s.box; log = reporter_answer (state_code k) n t' m ∷ s.log };
        step = answers services f.source_mac.0 f.dest_mac.0 f.ec_flag (priority_code f.pr) f.rs.0
            (field_bytes f.static_error_bit_field) (state_code k) n after t t' 0 m 0 0
            (record {
              writes = record {
                cause = ap (λ (x : Result ℕ PowerlinkError). (write_cause x).number) a ∙ rw w;
                target = y.holds ∙ rw w;
                written = ap (λ (x : Result ℕ PowerlinkError). length_after x 0) a ∙ rw w;
                octet = kept_octet bs t ∙ rw w;
              };
              answers = rw (q, b) (rw c.writes.answer at c);
            });
        same = rw (q, a, write_number bs t 0);
      }

  read_back : (services : List ℕ) (from : Origin) (bs : List ℕ) (r : Result ReadOutcome PowerlinkError) (after : List ℕ)
      → signaling.Delivered services 240 from bs (signaling.tally i (events s.log)).requests
      → reporter.Reads services bs r s.head after
      → Comes i s (by_head after (head_read services from bs r ∷ []))
  read_back services from bs r after d c =
      let y = read_cause r in
      let p = reporter_read services from bs y.number (value y) (octet_told y 0) in
      record {
        made = p;
        site = record { head = after; box = s.box; log = p ∷ s.log };
        step = head_reads services from bs y.number 0 (value y) 0 (octet_told y 0) after d
            (record { told = row_told y _ (ap read_cause c.answer); reads = rw c.answer at c });
        same = rw (read_row r y.number 0 (value y) 0 (octet_told y 0) (row_told y y refl));
      }

  register_back : (j : ℕ) (r : Result Unit RegisterError) (after : List ℕ) → collector.Registers (signaling.node j) r s.box after
      → Comes i s (by_box after (registered j r ∷ []))
  register_back j r after c =
      let n = (rules.register_cause r).number in
      record {
        made = collector_register j n;
        site = record { head = s.head; box = after; log = collector_register j n ∷ s.log };
        step = registers j n after
            (record { cause = ap (λ (x : Result Unit RegisterError). (rules.register_cause x).number) c.answer; registers = rw c.answer at c });
        same = rw (register_number r);
      }

  box_back : (services : List ℕ) (from : Origin) (bs : List ℕ) (r : Result BoxReadOutcome ReadError) (after : List ℕ)
      → signaling.Reaches services i from bs (signaling.tally i (events s.log)).answers
      → collector.Reads services bs r s.box after
      → Comes i s (by_box after (box_read services from bs r ∷ []))
  box_back services from bs r after d c =
      let y = rules.read_cause r in
      let p = collector_read services from bs y.number (value y) (octet_told y 0) in
      record {
        made = p;
        site = record { head = s.head; box = after; log = p ∷ s.log };
        step = box_reads services from bs y.number 0 (value y) 0 (octet_told y 0) after d
            (record { told = row_told y _ (ap rules.read_cause c.answer); reads = rw c.answer at c });
        same = rw (box_row r y.number 0 (value y) 0 (octet_told y 0) (row_told y y refl));
      }

  request_back : (j : ℕ) (f : RequestFields) (r : Result ℕ RequestError) (t t' : List ℕ) → collector.Requests (signaling.node j) f r s.box t t'
      → Comes i s (by_box s.box (requested j r t' ∷ []))
  request_back j f r t t' c =
      let k = f.nmt_state in
      let y = rules.request_cause r in
      let q : state_of (state_code k) ≡ Ok k = codes_read_back.states k in
      let a = c.answer in
      let p = collector_request j (state_code k) y.number t' (value y) in
      let told : RowTold (rules.request_cause (rules.request_answer j f t (account_of s.box j))) y.number 0 (value y) 0 (octet_told y 0) =
      row_told y _ (ap rules.request_cause a) in
      record {
        made = p;
        site = record { head = s.head; box = s.box; log = p ∷ s.log };
        step = requests j f.source_mac.0 f.epl_version.0 (state_code k) y.number t t' 0 (value y) 0 (octet_told y 0)
            (record { told = rw q told; requests = rw q (rw a at c) });
        same = rw (q, request_row j f t (account_of s.box j) y.number 0 (value y) 0 (octet_told y 0) told, ← a);
      }

  take_back : (j : ℕ) (r : Result ErrorEntry TakeError) (after : List ℕ) → collector.Takes (signaling.node j) r s.box after
      → Comes i s (by_box after (taken j r ∷ []))
  take_back j r after c =
      let y = rules.take_cause r in
      let vs = values_told y [] in
      record {
        made = collector_take j y.number vs;
        site = record { head = s.head; box = after; log = collector_take j y.number vs ∷ s.log };
        step = takes j y.number after [] vs
            (record {
              cause = ap (λ (x : Result ErrorEntry TakeError). (rules.take_cause x).number) c.answer;
              values = ap (λ (x : Result ErrorEntry TakeError). values_told (rules.take_cause x) []) c.answer;
              takes = rw c.answer at c;
            });
        same = rw (take_row r y.number [] vs refl refl);
      }

comes : {i : ℕ} {s : Site} {x : Event} {v : World} → Step i (world_of s) x v → Comes i s v
comes {i} {s} (signaling.raise e r after c) = raise_back i s e r after c
comes {i} {s} (signaling.answer services f r after t t' c) = answer_back i s services f r after t t' c
comes {i} {s} (signaling.head_reads services from bs r after d c) = read_back i s services from bs r after d c
comes {i} {s} (signaling.register j r after c) = register_back i s j r after c
comes {i} {s} (signaling.box_reads services from bs r after d c) = box_back i s services from bs r after d c
comes {i} {s} (signaling.request j f r t t' c) = request_back i s j f r t t' c
comes {i} {s} (signaling.takes j r after c) = take_back i s j r after c
comes {i} {s} (signaling.hosts bs told) =
    record {
      made = host_sends bs;
      site = record { head = s.head; box = s.box; log = host_sends bs ∷ s.log };
      step = hosts bs told;
      same = refl;
    }

-- ---- lists

back : {i : ℕ} {w : World} → Run i w → (s : Site) × CRun i s × (world_of s ≡ w)
back {i} (signaling.fresh before head box m f) =
    let r = fresh before head box 0 (record { cause = ap (λ (x : Result Unit NewError). (new_cause x).number) m.answer; makes = rw m.answer at m }) (record { cause = refl; fresh = f }) in
    (record { head = head; box = box; log = [] }, r, refl)
back (signaling.call run st) =
    let p = back run in
    let c = comes (rw (← p.2) at st) in
    (c.site, call p.1 c.step, c.same)

pub steps_are_calls : StepsAreCalls
steps_are_calls = record { lists = λ i w r. back r }
