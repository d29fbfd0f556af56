-- Status entries make no difference to the box, and 01's own line is the case of none.
-- Assumes nothing.
use Prim.Native.Nat.{ℕ}
use mathlib.Core.Path.{◌≡◌, sym, ap, ◌∙◌}
use mathlib.Core.List.{List}
use lib.ListN.{take}
use Rattle.std.specs.Prelude.{Result, Ok}
use Rattle.reporter.specs.Calls.{Answers}
use Rattle.reporter.specs.Layout.{head_of}
use Rattle.reporter.specs.Rules.{opened, answer_frame}
use Rattle.reporter.specs.declared.AnswerFields.{AnswerFields}
use Rattle.reporter.proofs.AnyTable.{answer_writes}
use Rattle.collector.specs.Calls.{Reads}
use Rattle.collector.specs.Layout.{response_bytes}
use Rattle.collector.specs.declared.ReadError.{ReadError}
use Rattle.collector.specs.declared.ReadOutcome.{ReadOutcome as BoxOutcome}
use Rattle.signaling.specs.Arrival.{IsASnd}
use Rattle.signaling.specs.AsSent.{AsSent}
use Rattle.signaling.proofs.Arriving.{reads_sent, arrives_self, arrives_put}
use Rattle.signaling.proofs.Calls.{written_frame}
use Rattle.signaling.proofs.Frames.{answer_asnd_lem}
use Rattle.signaling.proofs.Steps.{held}

-- two readings of one frame by one box are the same
pub reads_once : {services f s after after' : List ℕ} {r r' : Result BoxOutcome ReadError} → Reads services f r s after → Reads services f r' s after'
    → (r' ≡ r) × (after' ≡ after)
reads_once {services} {f} {s} c d =
    let same = d.answer ∙ sym c.answer in
    (same, d.bytes ∙ ap (λ (x : Result BoxOutcome ReadError). response_bytes services x f s) same ∙ sym c.bytes)

answer_is_asnd : (services : List ℕ) (f : AnswerFields) (n : ℕ) (state after target written : List ℕ)
    → Answers services f (Ok n) state after target written
    → IsASnd (take n written)
answer_is_asnd services f n state after target written c =
    let h = opened (head_of state) in
    let y = answer_writes services f (Ok n) state after target written c in
    let octets : take n written ≡ answer_frame f h = rw y.holds (written_frame (answer_frame f h) target n y.answer) in
    rw octets (answer_asnd_lem f h)

pub as_sent : AsSent
as_sent =
    record {
      reads = λ services f given state after after' r r' k y c d. reads_once c (reads_sent y services k d);
      puts = λ f given e n y few st. arrives_put e n y few st;
      answers = answer_is_asnd;
      own = λ i w run services p bs d. (bs, d, arrives_self bs ((held run).inv.source p bs d.1).size);
    }
