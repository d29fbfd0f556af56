-- `list` meets its contract. The loop's invariant: how far the program stands. The measure is what is left of the part.
-- Assumes nothing.
use mathlib.Core.Path.{refl, sym, ap, ◌∙◌}
use native.Mathlib.Omega.{arith}
use borrow.Author.Rules.{rules}
use Rattle.std.specs.Prelude.{Ok}
use Rattle.journal.proofs.Parts.{further, says, same_size, countable, settled, listed_as, less, on}
use Rattle.journal.proofs.list.Goals as goal

pub overflow_add-at : goal.overflow_add-at
overflow_add-at g c =
    let l = c.loop-to_come in
    record { fits = omega (arith, c.requires.counted.1, further l.invariant.0 c.tail-left.ensures.octets c.has_ended.ensures c.list_part-part.ensures) }

pub say-requires : goal.say-requires
say-requires g c =
    let l = c.loop-to_come in
    let b = c.requires.counted in (
      says l.invariant.0 c.tail-left.ensures.octets c.has_ended.ensures c.list_part-part.ensures c.front.ensures.octets,
      countable l.invariant.0 c.tail-left.ensures.octets c.has_ended.ensures c.list_part-part.ensures c.front.ensures.octets b.0 b.1 (search rules),
    )

pub returns-then-not-is_crowded : goal.returns-then-not-is_crowded
returns-then-not-is_crowded g c =
    let l = c.loop-to_come in
    listed_as _ _ _ _ _ _ refl (ap Ok (sym c.rest_after.ensures))
    (settled l.invariant.0 c.tail-left.ensures.octets c.has_ended.ensures c.list_part-part.ensures c.in_ok-say.ensures c.front.ensures.octets
    (sym c.is_crowded.ensures ∙ c.if-not-is_crowded.true))

pub loop-to_come-smaller : goal.loop-to_come-smaller
loop-to_come-smaller g c =
    let l = c.loop-to_come in
    less l.invariant.0 c.tail-left.ensures.octets c.has_ended.ensures c.list_part-part.ensures (sym c.is_crowded.ensures ∙ c.if-not-is_crowded.false)
    (omega arith)

pub loop-to_come-preserved : goal.loop-to_come-preserved
loop-to_come-preserved g c =
    let l = c.loop-to_come in (
      on l.invariant.0 c.tail-left.ensures.octets c.has_ended.ensures c.list_part-part.ensures (sym c.is_crowded.ensures ∙ c.if-not-is_crowded.false)
          (omega arith) c.in_ok-say.ensures c.front.ensures.octets,
      same_size l.invariant.0 c.tail-left.ensures.octets c.has_ended.ensures c.list_part-part.ensures ∙ l.invariant.1,
    )
