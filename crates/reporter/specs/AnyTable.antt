-- Which table a head is lent makes no difference to the error exchange (02, CR 1: "An error exchange under any loaded table books as
-- before"): every table holds the service of an answer, and EA stands in no ASnd.
-- Assumes nothing.
use Rattle.std.specs.Prelude.{ℕ, ◌-◌, Bool, ◌≡◌, ◌⊎◌, List, get_or, Result, Ok, Err, Some}
use Rattle.types.specs.declared.hal.PowerlinkError.TheVariants.{InvalidServiceId}
use Rattle.section.specs.Write.{octets}
use Rattle.control.specs.ASnd.{asnd_payload_at}
use Rattle.reporter.specs.Rules.{Head, answer_frame, answer_writing, acknowledge_answer, after_acknowledge, ea_told}
use Rattle.reporter.specs.declared.AnswerFields.{AnswerFields}
use Rattle.reporter.specs.declared.ReadOutcome.TheVariants.{Ignored}
use Rattle.reporter.specs.declared.ReadOutcome.{ReadOutcome}
use Rattle.types.specs.declared.hal.PowerlinkError.{PowerlinkError}

-- 6 with the octet of the service, the last in front of the payload, or nothing
abbrev pub SixOrIgnored : List ℕ → Result ReadOutcome PowerlinkError → Type 0
SixOrIgnored bytes r = (r ≡ Err (InvalidServiceId (get_or bytes (asnd_payload_at - 1) 0))) ⊎ (r ≡ (Ok Ignored))

pub record AnyTable : Type 0 where
  -- Answer's result does not depend on the table
  pub answer : (services : List ℕ) (f : AnswerFields) (h : Head) → answer_writing services f h ≡ octets (answer_frame f h)
  -- nor does the EA that octets tell
  pub ea : (services others : List ℕ) (i : ℕ) (bytes : List ℕ) (ea : Bool) → ea_told services i bytes ≡ Ok (Some ea)
      → ea_told others i bytes ≡ Ok (Some ea)
  -- what a reading answers: only whether an ASnd is refused with 6 or ignored depends on the table
  pub reading : (services others : List ℕ) (i : ℕ) (bytes : List ℕ) (h : Head)
      → (acknowledge_answer (ea_told services i bytes) h ≡ acknowledge_answer (ea_told others i bytes) h)
      ⊎ (SixOrIgnored bytes (acknowledge_answer (ea_told services i bytes) h) × SixOrIgnored bytes (acknowledge_answer (ea_told others i bytes) h))
  -- and what it makes of the head does not
  pub head : (services others : List ℕ) (i : ℕ) (bytes : List ℕ) (h : Head)
      → after_acknowledge (acknowledge_answer (ea_told services i bytes) h) h ≡ after_acknowledge (acknowledge_answer (ea_told others i bytes) h) h
