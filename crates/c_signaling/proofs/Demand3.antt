-- No error lost, none twice: the calls of a host in C.
-- Assumes nothing.
use Prim.Native.Nat.{ℕ}
use mathlib.Core.Path.{◌≡◌, refl, sym, ap, ◌∙◌}
use mathlib.Core.Bool.{true≢false}
use mathlib.Core.List.{List, []}
use native.Mathlib.Omega.{arith}
use Rattle.std.specs.Prelude.{Result, Ok, Err, IsErr}
use Rattle.error_entry.specs.Values.{entry_numbers, entry_told}
use Rattle.error_entry.specs.declared.ErrorEntry.{ErrorEntry}
use Rattle.error_entry.proofs.Values.{values_tell}
use Rattle.collector.specs.Calls as collector
use Rattle.collector.specs.Layout.{account_of}
use Rattle.collector.specs.Rules.{take_answer, take_cause}
use Rattle.collector.specs.declared.TakeError.TheVariants.{NotRegistered, NothingBooked}
use Rattle.c_values.specs.Answers.{values_told}
use Rattle.powerlink.specs.Collecting.{CollectorTakes}
use Rattle.signaling.specs.Calls as signaling
use Rattle.signaling.specs.Calls.{node, Drained, TakenTimes, NoneLost}
use Rattle.signaling.proofs.Demand3.{demand_3}
use Rattle.c_signaling.specs.Calls.{Site, world_of, seen_in, CDrained, over, more, CTakenTimes, start, next, CNoneLost, CDemand3}
use Rattle.c_signaling.specs.Log.{seen, events}
use Rattle.c_signaling.proofs.Steps.{runs}
use Rattle.c_signaling.proofs.Words.{words}
use Rattle.collector.specs.declared.TakeError.{TakeError}

-- ---- a Take in C is one of the box

-- it is refused where the number is not 0
refused : (a : Result ErrorEntry TakeError) → ((take_cause a).number ≡ 0 → ⊥) → IsErr a
refused (Ok e) h = absurd (h refl)
refused (Err x) h = refl

-- and where it is 0, hands out the entry that the values tell
handed : (a : Result ErrorEntry TakeError) (v v' : List ℕ) → 0 ≡ (take_cause a).number → v' ≡ values_told (take_cause a) v → a ≡ Ok (entry_told v')
handed (Ok e) v v' n ev = rw (ev, values_tell.entries e)
handed (Err NotRegistered) v v' n ev = absurd (omega arith)
handed (Err NothingBooked) v v' n ev = absurd (omega arith)

module _ (i : ℕ) (s after v v' : List ℕ) where
  takes_one : CollectorTakes i 0 s after v v' → collector.Takes (node i) (Ok (entry_told v')) s after
  takes_one c = rw (handed (take_answer (account_of s i)) v v' c.cause c.values) at c.takes

drained : {i : ℕ} {s : List ℕ} {es : List ErrorEntry} → CDrained i s es → Drained i s es
drained {i} (over {s} r after v v' c h) = signaling.over (take_answer (account_of s i)) after c.takes (refused (take_answer (account_of s i)) (λ e. h (c.cause ∙ e)))
drained {i} (more {s} after v v' es c d) = signaling.more (entry_told v') after es (takes_one i s after v v' c) (drained d)

times : {i n : ℕ} {s : List ℕ} → CTakenTimes i n s → TakenTimes i n s
times start = signaling.start
times {i} (next {s} after v v' c d) = signaling.next (entry_told v') after (takes_one i s after v v' c) (times d)

-- ---- and the other way round

not_taken : (a : Result ErrorEntry TakeError) → IsErr a → (take_cause a).number ≡ 0 → ⊥
not_taken (Ok e) y z = true≢false (sym y)
not_taken (Err NotRegistered) y z = omega arith
not_taken (Err NothingBooked) y z = omega arith

-- what a Take of the box tells in C
tells : (i : ℕ) (a : Result ErrorEntry TakeError) (s after : List ℕ) → collector.Takes (node i) a s after
    → CollectorTakes i (take_cause a).number s after [] (values_told (take_cause a) [])
tells i a s after c =
    record {
      cause = ap (λ (x : Result ErrorEntry TakeError). (take_cause x).number) c.answer;
      values = ap (λ (x : Result ErrorEntry TakeError). values_told (take_cause x) []) c.answer;
      takes = rw c.answer at c;
    }

drains : {i : ℕ} {s : List ℕ} {es : List ErrorEntry} → Drained i s es → CDrained i s es
drains {i} (signaling.over {s} r after c y) = over (take_cause r).number after [] (values_told (take_cause r) []) (tells i r s after c) (not_taken r y)
drains {i} (signaling.more {s} e after es c d) =
    rw (values_tell.entries e) at (more after [] (entry_numbers e) es (tells i (Ok e) s after c) (drains d))

-- ---- the demand

kept : (i : ℕ) (w : Site) → seen_in i (events w.log) ≡ seen i w.log → NoneLost i (world_of w) → CNoneLost i w
kept i w e h =
    record {
      opening = λ further d. let o = h.opening further (drained d) in (o.0, rw (← e) o.1);
      all = λ further d. rw (← e) (h.all further (drained d));
      head = h.head;
      ends = (h.ends.0, drains h.ends.1);
      most = λ n d. h.most n (times d);
    }

pub c_demand_3 : CDemand3
c_demand_3 = record { holds = λ i w r. kept i w (words r) (demand_3.holds i (world_of w) (runs r)) }
