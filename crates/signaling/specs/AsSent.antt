-- Status entries make no difference to the box: "demand 3 holds as for the answer sent, and book and EA are as without them" (02, CR 2).
-- `Demand3` and `Progress` are of lists over the line that puts them in.
-- Assumes nothing.
use Rattle.std.specs.Prelude.{ℕ, ◌≤◌, ◌≡◌, List, length, take, Result, Ok}
use Rattle.status_response.specs.Steps.{status_entries}
use Rattle.reporter.specs.Calls.{Answers}
use Rattle.reporter.specs.declared.AnswerFields.{AnswerFields}
use Rattle.collector.specs.Calls.{Reads}
use Rattle.collector.specs.Rules.{status_payload}
use Rattle.collector.specs.declared.ReadError.{ReadError}
use Rattle.collector.specs.declared.ReadOutcome.{ReadOutcome as BoxOutcome}
use Rattle.signaling.specs.Arrival.{IsASnd, IsStatusEntry, Arrives, put_in}
use Rattle.signaling.specs.Calls.{sent, tally, World, Delivered, Reaches, Run}

pub record AsSent : Type 0 where
  -- Whatever arrives, in whichever state the box is: it answers what it answers to the frame as sent, and every octet of it is then the same.
  pub reads : (services f given state after after' : List ℕ) (r r' : Result BoxOutcome ReadError)
      → IsASnd f → Arrives f given → Reads services f r state after
      → Reads services given r' state after'
      → (r' ≡ r) × (after' ≡ after)
  -- a status entry may be put in before any entry, and behind the last; and so may a further one
  pub puts : (f given e : List ℕ) (n : ℕ) → Arrives f given → n ≤ length (status_entries (status_payload given)) → IsStatusEntry e
      → Arrives f (put_in n e given)
  -- such a frame is every answer that a head sends
  pub answers : (services : List ℕ) (f : AnswerFields) (n : ℕ) (state after target written : List ℕ)
      → Answers services f (Ok n) state after target written
      → IsASnd (take n written)
  -- 01's own line is the case of none: what it delivers reaches the box, after every list of calls
  pub own : (i : ℕ) (w : World) → Run i w → (services : List ℕ) (p : ℕ) (bs : List ℕ)
      → Delivered services i (sent p) bs (tally i w.log).answers
      → Reaches services i (sent p) bs (tally i w.log).answers
