-- `list_part` meets its contract. The loop's invariant: what is done so far, in front of what the rest comes to, is the whole.
-- The measure is what is left of the part.
-- Assumes nothing.
use Prim.Native.Nat.{◌≤◌}
use native.Mathlib.Omega.{arith}
use lib.ListN.{length}
use borrow.Author.Rules.{rules}
use Rattle.journal_records.proofs.PartLaws.{held_first, turn_most, turn_fits, turn_size, turn_less, turn_on, turn_stop}
use Rattle.journal_records.proofs.listing.list_part.Goals as goal

pub loop-answer-init : goal.loop-answer-init
loop-answer-init c = held_first

pub slice_bounds-step-count : goal.slice_bounds-step-count
slice_bounds-step-count c = let i = c.loop-answer.invariant in omega (arith, i.room, i.size)

pub slice_bounds-step-start : goal.slice_bounds-step-start
slice_bounds-step-start c = let i = c.loop-answer.invariant in let h : c.loop-answer.written ≤ length c.loop-answer.out = omega (arith, i.room, i.size) in search rules

pub overflow_add-consumed : goal.overflow_add-consumed
overflow_add-consumed c =
    record { fits = omega (arith, turn_most c.loop-answer.invariant c.tail.ensures.octets c.step-part.ensures) }

pub overflow_add-written : goal.overflow_add-written
overflow_add-written c =
    record { fits = omega (arith, c.well_formed.1.1.1, c.loop-answer.invariant.size, turn_fits c.loop-answer.invariant c.tail.ensures.octets c.step-part.ensures) }

pub shape_of-out-then-part-eq0 : goal.shape_of-out-then-part-eq0
shape_of-out-then-part-eq0 c =
    turn_size c.loop-answer.invariant c.tail.ensures.octets c.step-part.ensures

pub returns-then-part-eq0 : goal.returns-then-part-eq0
returns-then-part-eq0 c =
    turn_stop c.loop-answer.invariant c.tail.ensures.octets c.step-part.ensures c.answer_after.ensures c.if-part-eq0.true

pub loop-answer-smaller : goal.loop-answer-smaller
loop-answer-smaller c =
    turn_less c.loop-answer.invariant c.tail.ensures.octets c.step-part.ensures c.if-part-eq0.false

pub loop-answer-preserved : goal.loop-answer-preserved
loop-answer-preserved c =
    turn_on c.loop-answer.invariant c.tail.ensures.octets c.step-part.ensures c.if-part-eq0.false
