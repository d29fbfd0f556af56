-- What is counted of a call.
-- Assumes nothing.
use Rattle.std.specs.Prelude.{ℕ, ◌+◌, ◌-◌, ◌^◌, min, Bool, List, drop, get_or, set, nat_eq, Result, Ok, Err}
use Rattle.std.specs.List.{list_all}
use Rattle.types.specs.Codes.{pick}
use Rattle.demo.specs.Causes.{number}
use Rattle.demo.specs.World.{unwritten}
use Rattle.demo.specs.declared.cause.Cause.{Cause}
use Rattle.demo.specs.declared.outcome.Success.{Success}
use Rattle.demo.specs.declared.target.Target.{Target}
use Rattle.demo.specs.declared.world.World.{World}

-- nothing is written behind the first n octets of the space
abbrev pub clean : ℕ → Target → Bool
clean n t = list_all (λ b. nat_eq b unwritten) (drop n t.space)

-- the octets that a writer says it has written; none, where it refuses
abbrev pub written : {E : Type 0} → Result ℕ E → ℕ
written (Ok n) = n
written (Err e) = 0

-- one more; the largest number stays
abbrev pub counted : ℕ → ℕ
counted n = min (n + 1) (2 ^ 64 - 1)

-- something was asked for that holds, or does not
abbrev pub demanded : Bool → World → World
demanded holds w = record {
  at_box = w.at_box;
  line = w.line;
  calls = w.calls;
  refusals = w.refusals;
  faults = pick holds w.faults (counted w.faults);
  sent = w.sent;
  by_host = w.by_host;
}

-- a refusal, by the number of its cause
abbrev pub refused : Result Success Cause → List ℕ → List ℕ
refused (Ok s) ns = ns
refused (Err c) ns = set ns (number c) (counted (get_or ns (number c) 0))

-- a call came to an outcome, which was the expected one or not
abbrev pub came_to : Result Success Cause → Bool → World → World
came_to got met w =
    demanded met (record {
      at_box = w.at_box;
      line = w.line;
      calls = counted w.calls;
      refusals = refused got w.refusals;
      faults = w.faults;
      sent = w.sent;
      by_host = w.by_host;
    })
