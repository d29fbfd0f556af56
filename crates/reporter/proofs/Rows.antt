-- The number of a reading is the frame's.
-- Assumes nothing.
use Prim.Native.Nat.{ℕ}
use mathlib.Core.Bool.{Bool, true, false, not, ◌&&◌, beq}
use mathlib.Core.Path.{◌≡◌, refl}
use lib.Dec.{eqb}
use Rattle.std.specs.Prelude.{Result, Ok, Err, Some, None}
use Rattle.types.specs.Codes.{need, pick}
use Rattle.codec.specs.Frame.{frame_cause}
use Rattle.frame.specs.declared.PowerlinkFrame.{PowerlinkFrame}
use Rattle.frame.specs.declared.PowerlinkFrame.TheVariants.{Soc, PReq, PRes, SoA, ASnd}
use Rattle.reporter.specs.Rules.{Head, is_empty, ea_for, ea_in_frame, ea_in_answer, ea_answer, acknowledge_answer, read_cause}
use Rattle.reporter.specs.declared.ReadOutcome.TheVariants.{Closed, Kept}
use Rattle.types.specs.declared.hal.PowerlinkError.{PowerlinkError}

-- what can be read is refused by no head

ea_by : (t : Bool) → (read_cause (Ok (pick t Closed Kept))).number ≡ 0
ea_by true = refl
ea_by false = refl

for_by : (t u ea : Bool) (h : Head) → (read_cause (acknowledge_answer (Ok (need t None (need u None (Some ea)))) h)).number ≡ 0
unfolding ea_answer
for_by true true ea h = ea_by (not (is_empty h.batch) && beq h.en ea)
for_by true false ea h = refl
for_by false u ea h = refl

frame_row : (i : ℕ) (f : PowerlinkFrame) (h : Head) → (read_cause (acknowledge_answer (Ok (ea_in_frame i f)) h)).number ≡ 0
unfolding ea_for
frame_row i (Soc f) h = refl
frame_row i (PReq f) h = for_by (eqb f.source.0 240) (eqb f.destination.0 i) f.flags.ea h
frame_row i (PRes f) h = refl
frame_row i (SoA f) h = for_by (eqb f.source.0 240) (eqb f.target_node_id.0 i) f.flags.ea h
frame_row i (ASnd f) h = refl

pub read_row : (i : ℕ) (a : Result PowerlinkFrame PowerlinkError) (h : Head) → (read_cause (acknowledge_answer (ea_in_answer i a) h)).number ≡ (frame_cause a).number
read_row i (Err e) h = refl
read_row i (Ok f) h = frame_row i f h
