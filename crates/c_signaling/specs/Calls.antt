-- Demand 3 for a host in C: what 01 says of a list of calls, said of the calls that a host can make. Each call is any that the contract of the
-- C function allows (`powerlink/specs`), and the log has what its host sees of it.
-- Assumes nothing.
use Rattle.std.specs.Prelude.{ℕ, suc, ◌≤◌, Bool, false, ◌≡◌, List, [], ◌∷◌, ◌++◌, Ok, Some}
use Rattle.types.specs.Nodes.{managing_node}
use Rattle.error_entry.specs.Values.{entry_told}
use Rattle.error_entry.specs.declared.ErrorEntry.{ErrorEntry}
use Rattle.reporter.specs.Layout.{head_of}
use Rattle.reporter.specs.Rules.{ea_told}
use Rattle.powerlink.specs.Collecting.{CollectorMakes, CollectorRegisters, CollectorReads, CollectorFlags, CollectorRequests, CollectorTakes, request_fields}
use Rattle.powerlink.specs.Reporting.{ReporterMakes, ReporterRaises, ReporterAnswers, ReporterReads, answer_fields}
use Rattle.signaling.specs.Arrival.{IsASnd, Arrives}
use Rattle.signaling.specs.Calls.{Origin, Event, Log, tally, accepted, handed_out, answers_sent, requests_sent, ruled, unbooked, World, Delivered, Reaches, Tells, Step, Run}
use Rattle.c_signaling.specs.Log.{Raising, Call, reporter_raise, reporter_answer, reporter_read, collector_register, collector_read, collector_request, collector_take, host_sends, Seen, seen, events_of, events}

-- ---- the list of calls

-- the octets of both states, and the log
pub record Site : Type 0 where
  pub head : List ℕ
  pub box : List ℕ
  pub log : List Call

abbrev pub world_of : Site → World
world_of w = record { head = w.head; box = w.box; log = events w.log }

-- One call of a host in C between the head with ID i and the box. What a call leaves is what the contract of the C function says; the other
-- state stays. The premises are 01's: what the line gives to a reading, and what the box's host sends.
pub data CStep (i : ℕ) (w : Site) : Call → Site → Type 0 where
  raises : (g : Raising) (r : ℕ) (after : List ℕ)
      → ReporterRaises g.status g.queue g.mode g.profile g.code g.stamp g.information r w.head after
      → CStep i w (reporter_raise g r) (record { head = after; box = w.box; log = reporter_raise g r ∷ w.log })
  answers : (services from to : List ℕ) (ec : Bool) (pr rs : ℕ) (field : List ℕ) (state r : ℕ) (after t t' : List ℕ) (n n' o o' : ℕ)
      → ReporterAnswers services (answer_fields from to ec pr rs field) state r w.head after t t' n n' o o'
      → CStep i w (reporter_answer state r t' n') (record { head = after; box = w.box; log = reporter_answer state r t' n' ∷ w.log })
  head_reads : (services : List ℕ) (from : Origin) (bs : List ℕ) (r k k' o o' : ℕ) (after : List ℕ)
      → Delivered services managing_node from bs (tally i (events w.log)).requests
      → ReporterReads services bs r w.head after k k' o o'
      → CStep i w (reporter_read services from bs r k' o') (record { head = after; box = w.box; log = reporter_read services from bs r k' o' ∷ w.log })
  registers : (j r : ℕ) (after : List ℕ) → CollectorRegisters j r w.box after
      → CStep i w (collector_register j r) (record { head = w.head; box = after; log = collector_register j r ∷ w.log })
  box_reads : (services : List ℕ) (from : Origin) (bs : List ℕ) (r k k' o o' : ℕ) (after : List ℕ)
      → Reaches services i from bs (tally i (events w.log)).answers
      → CollectorReads services bs r w.box after k k' o o'
      → CStep i w (collector_read services from bs r k' o') (record { head = w.head; box = after; log = collector_read services from bs r k' o' ∷ w.log })
  requests : (j : ℕ) (from : List ℕ) (version state r : ℕ) (t t' : List ℕ) (n n' o o' : ℕ)
      → CollectorRequests j (request_fields from version) state r w.box t t' n n' o o'
      → CStep i w (collector_request j state r t' n') (record { head = w.head; box = w.box; log = collector_request j state r t' n' ∷ w.log })
  takes : (j r : ℕ) (after v v' : List ℕ) → CollectorTakes j r w.box after v v'
      → CStep i w (collector_take j r v') (record { head = w.head; box = after; log = collector_take j r v' ∷ w.log })
  hosts : (bs : List ℕ) → Tells i w.box bs
      → CStep i w (host_sends bs) (record { head = w.head; box = w.box; log = host_sends bs ∷ w.log })

-- "The list starts from a fresh box, a fresh head and a line with nothing sent": a head was made, with 0
pub data CRun (i : ℕ) : Site → Type 0 where
  fresh : (before head box : List ℕ) (r : ℕ) → ReporterMakes i 0 before head → CollectorMakes r box
      → CRun i (record { head = head; box = box; log = [] })
  call : {w v : Site} {x : Call} → CRun i w → CStep i w x v → CRun i v

-- ---- each call is a step of `signaling`, the one that the numbers tell, or leaves both states and sends nothing

pub data Translated (i : ℕ) (w : World) : Log → World → Type 0 where
  nothing : Translated i w [] w
  one : {x : Event} {v : World} → Step i w x v → Translated i w (x ∷ []) v

abbrev pub seen_in : ℕ → Log → Seen
seen_in i l =
    record { accepted = accepted i l; handed_out = handed_out i l; answers_sent = answers_sent i l; requests_sent = requests_sent i l }

pub record CallsAreSteps : Type 0 where
  pub calls : (i : ℕ) (w v : Site) (x : Call) → CStep i w x v → Translated i (world_of w) (events_of x) (world_of v)
  pub lists : (i : ℕ) (w : Site) → CRun i w → Run i (world_of w)
  -- and 01's words of the one are those of the other
  pub words : (i : ℕ) (w : Site) → CRun i w → seen_in i (events w.log) ≡ seen i w.log

-- and the other way round: every list of calls of `signaling` is one of C calls, `LossAndRepeat` of its examples too
pub record StepsAreCalls : Type 0 where
  pub lists : (i : ℕ) (w : World) → Run i w → (s : Site) × CRun i s × (world_of s ≡ w)

-- ---- what holds after a list of calls

-- "what further Takes for it hand out until one is refused"
pub data CDrained (i : ℕ) : List ℕ → List ErrorEntry → Type 0 where
  over : {s : List ℕ} (r : ℕ) (after v v' : List ℕ) → CollectorTakes i r s after v v' → (r ≡ 0 → ⊥) → CDrained i s []
  more : {s : List ℕ} (after v v' : List ℕ) (es : List ErrorEntry) → CollectorTakes i 0 s after v v' → CDrained i after es
      → CDrained i s (entry_told v' ∷ es)

-- so many Takes for a head, one after the other, that answer 0
pub data CTakenTimes (i : ℕ) : ℕ → List ℕ → Type 0 where
  start : {s : List ℕ} → CTakenTimes i 0 s
  next : {n : ℕ} {s : List ℕ} (after v v' : List ℕ) → CollectorTakes i 0 s after v v' → CTakenTimes i n after → CTakenTimes i (suc n) s

-- as `NoneLost` of `signaling`
pub record CNoneLost (i : ℕ) (w : Site) : Type 0 where
  pub opening : (further : List ErrorEntry) → CDrained i w.box further
      → (rest : List ErrorEntry) × ((seen i w.log).handed_out ++ further ++ rest ≡ (seen i w.log).accepted)
  pub all : (further : List ErrorEntry) → CDrained i w.box further
      → (seen i w.log).handed_out ++ further ++ (unbooked i (events w.log) ++ (ruled i (events w.log)).waiting) ≡ (seen i w.log).accepted
  pub head : head_of w.head ≡ ruled i (events w.log)
  pub ends : (further : List ErrorEntry) × CDrained i w.box further
  pub most : (n : ℕ) → CTakenTimes i n w.box → n ≤ 64

pub record CDemand3 : Type 0 where
  pub holds : (i : ℕ) (w : Site) → CRun i w → CNoneLost i w

-- ---- the frames of the box's host

pub record CFlagsTell : Type 0 where
  -- a frame with the EA that `powerlink_collector_flags` told is one that the host may send
  pub tells : (services : List ℕ) (i : ℕ) (s bs : List ℕ) (a a' e e' : Bool) → CollectorFlags i 0 s a a' e e'
      → ea_told services i bs ≡ Ok (Some a') → Tells i s bs
  -- and where it answered 11, one with EA 0
  pub unregistered : (services : List ℕ) (i : ℕ) (s bs : List ℕ) (a a' e e' : Bool) → CollectorFlags i 11 s a a' e e'
      → ea_told services i bs ≡ Ok (Some false)
      → Tells i s bs

-- ---- status entries

-- as `AsSent` of `signaling`: number, outcome, octet and the box's octets are those of the frame as sent
pub record CAsSent : Type 0 where
  pub reads : (services f given s after after' : List ℕ) (r r' k k₁ k₂ o o₁ o₂ : ℕ) → IsASnd f → Arrives f given
      → CollectorReads services f r s after k k₁ o o₁
      → CollectorReads services given r' s after' k k₂ o o₂
      → (r' ≡ r) × (k₂ ≡ k₁) × (o₂ ≡ o₁) × (after' ≡ after)
