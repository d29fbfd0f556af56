-- w entries are closed after at most w exchanges of a host in C.
-- Assumes nothing.
use Rattle.signaling.proofs.Progress.{progress, stepwise_progress}
use Rattle.c_signaling.specs.Calls.{world_of}
use Rattle.c_signaling.specs.Exchanges.{CProgress, CStepwiseProgress}
use Rattle.c_signaling.proofs.Exchanging.{exchanges, found, is_found}
use Rattle.c_signaling.proofs.Steps.{runs}

pub c_progress : CProgress
c_progress =
    record {
      closes = λ i n w v r room xs. progress.closes i n (world_of w) (world_of v) (runs r) room (exchanges xs);
      closed = λ i n w v r room xs few. progress.closed i n (world_of w) (world_of v) (runs r) room (exchanges xs) few;
    }

pub c_stepwise_progress : CStepwiseProgress
c_stepwise_progress =
    record {
      closes = λ i n w v r is xs f. stepwise_progress.closes i n (world_of w) (world_of v) (runs r) is (exchanges xs) (found xs f);
      closed = λ i n w v r is xs f few. stepwise_progress.closed i n (world_of w) (world_of v) (runs r) is (exchanges xs) (found xs f) few;
      found = λ i n w v r room xs. is_found xs (stepwise_progress.found i n (world_of w) (world_of v) (runs r) room (exchanges xs));
    }
