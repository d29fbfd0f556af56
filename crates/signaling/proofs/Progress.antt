-- Each exchange closes what the answer carries: w entries are closed after at most w exchanges.
-- Assumes nothing.
use Prim.Native.Nat.{ℕ, ◌-◌, ◌≤◌}
use mathlib.Core.Path.{◌≡◌, ap}
use mathlib.Core.List.{[], ◌++◌}
use native.Mathlib.Omega.{arith}
use lib.ListN.{length, length-append}
use Rattle.std.proofs.lemmas.List.{nil_from_length}
use Rattle.signaling.specs.Calls.{Event, accepted, handed_out, ruled, unbooked, World, Step, Run}
use Rattle.signaling.specs.Exchanges.{pending, Exchanges, done, more, Room, Progress, IsRegistered, Found, StepwiseProgress}
use Rattle.signaling.proofs.Exchange.{exchanged}
use Rattle.signaling.proofs.Invariant.{head_in, Held}
use Rattle.signaling.proofs.Pending.{entries, AtMost, at_most_stays}
use Rattle.signaling.proofs.Places.{room_found}
use Rattle.signaling.proofs.Quiet.{NoRaise, Ready, goes_on_lem, Roomy, room_stays, quiet_stays, until_read, exchange_stays}
use Rattle.signaling.proofs.Steps.{held}

-- ---- the pending entries

pending_in : {i : ℕ} {w : World} → Held i w → pending i w ≡ entries (head_in w)
pending_in t = rw (← t.head)

eases : {i k n : ℕ} {w : World} → k ≤ n → AtMost i k w → AtMost i n w
eases le y = record { ready = y.ready; few = omega (arith, le, y.few) }

-- ---- many exchanges

closed_often : {i k n : ℕ} {w v : World} → AtMost i k w → (xs : Exchanges i n w v) → Found xs → AtMost i (k - n) v
closed_often {i = i} {k = k} y (done l) f = eases (omega arith) (quiet_stays (AtMost i k) at_most_stays l y)
closed_often {i = i} {k = k} y (more l x xs) f =
    eases (omega arith) (closed_often {k = k - 1} (exchanged (quiet_stays (AtMost i k) at_most_stays l y) x f.0) xs f.1)

-- places for all that is not booked
abbrev Places : ℕ → World → Type 0
Places i w = Ready i w × Roomy i w

places_stay : {i : ℕ} (w v : World) (x : Event) → Step i w x v → NoRaise i x → Places i w → Places i v
places_stay w v x s unraised y = (goes_on_lem s y.0, room_stays s unraised y.1)

-- with them each exchange finds those that it needs
all_found : {i n : ℕ} {w v : World} → Places i w → (xs : Exchanges i n w v) → Found xs
all_found y (done l) = tt
all_found {i} y (more l x xs) =
    let here = quiet_stays (Places i) places_stay l y in
    let z = until_read (Places i) places_stay x here in
    (room_found z.0 z.1 x.box_reads, all_found (exchange_stays (Places i) places_stay x here) xs)

ready : {i : ℕ} {w : World} → Run i w → IsRegistered i w → Ready i w
ready run is = record { held = held run; place = rw is.1 }

-- free places for what is not booked
roomy : {i : ℕ} {w : World} → Held i w → Room i w → Roomy i w
roomy {i} {w} t free =
    let total : handed_out i w.log ++ free.account.book ++ (unbooked i w.log ++ (ruled i w.log).waiting) ≡ accepted i w.log =
    rw free.registered at t.inv.total in
    let n = simp length-append at (ap length total) in
    let k = simp length-append at free.free in
    omega (arith, n, k)

module _ (i n : ℕ) (w v : World) (run : Run i w) where
  module _ (is : IsRegistered i w) (xs : Exchanges i n w v) (found : Found xs) where
    closes : length (pending i v) ≤ length (pending i w) - n
    closes =
        let start : AtMost i (length (pending i w)) w = record { ready = ready run is; few = rw (pending_in (held run)) (omega arith) } in
        let y = closed_often start xs found in
        rw (pending_in y.ready.held) y.few

    closed : length (pending i w) ≤ n → pending i v ≡ []
    closed few = nil_from_length (pending i v) (omega (arith, closes))

  module _ (free : Room i w) where
    is_registered : IsRegistered i w
    is_registered = (free.account, free.registered)

    finds : (xs : Exchanges i n w v) → Found xs
    finds xs = all_found (ready run is_registered, roomy (held run) free) xs

pub stepwise_progress : StepwiseProgress
stepwise_progress = record { closes = closes; closed = closed; found = finds }

pub progress : Progress
progress =
    record {
      closes = λ i n w v run free xs. closes i n w v run (is_registered i n w v run free) xs (finds i n w v run free xs);
      closed = λ i n w v run free xs. closed i n w v run (is_registered i n w v run free) xs (finds i n w v run free xs);
    }
