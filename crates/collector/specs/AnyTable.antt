-- Which table a box is lent makes no difference to what it books (02, CR 1: "An error exchange under any loaded table books as before"), and to
-- what it answers only by 6 against 10.
-- Assumes nothing.
use Rattle.std.specs.Prelude.{ℕ, ◌-◌, ◌≡◌, ◌⊎◌, List, get_or, Result, Ok, Err, Some}
use Rattle.types.specs.declared.NodeId.{NodeId}
use Rattle.types.specs.declared.hal.PowerlinkError.TheVariants.{InvalidServiceId}
use Rattle.control.specs.ASnd.{asnd_payload_at}
use Rattle.collector.specs.Layout.{box_of, response_bytes}
use Rattle.collector.specs.Rules.{Box, response_in, read_answer, after_response}
use Rattle.collector.specs.declared.ReadError.TheVariants.{Frame, NotStatusResponse}
use Rattle.collector.specs.declared.ReadOutcome.{ReadOutcome}
use Rattle.collector.specs.declared.ReadError.{ReadError}

-- 6 with the octet of the service, the last in front of the payload, or 10
abbrev pub SixOrTen : List ℕ → Result ReadOutcome ReadError → Type 0
SixOrTen bytes r = (r ≡ Err (Frame (InvalidServiceId (get_or bytes (asnd_payload_at - 1) 0)))) ⊎ (r ≡ Err NotStatusResponse)

pub record AnyTable : Type 0 where
  -- whose StatusResponse octets are
  pub status : (services others bytes : List ℕ) (source : NodeId) → response_in services bytes ≡ Ok (Some source)
      → response_in others bytes ≡ Ok (Some source)
  -- what a reading answers: only whether another ASnd is refused with 6 or with 10 depends on the table
  pub answer : (services others bytes : List ℕ) (b : Box)
      → (read_answer services bytes b ≡ read_answer others bytes b) ⊎ (SixOrTen bytes (read_answer services bytes b) × SixOrTen bytes (read_answer others bytes b))
  -- what it makes of the box
  pub box : (services others bytes : List ℕ) (b : Box)
      → after_response services (read_answer services bytes b) bytes b ≡ after_response others (read_answer others bytes b) bytes b
  -- and of its octets
  pub octets : (services others bytes s : List ℕ)
      → response_bytes services (read_answer services bytes (box_of s)) bytes s ≡ response_bytes others (read_answer others bytes (box_of s)) bytes s
