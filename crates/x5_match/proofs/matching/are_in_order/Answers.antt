-- A part that doesn't occur makes the answer false, and one that occurs leaves the question for the parts and the text
-- behind it: by the definition of parts in order, at the part's first occurrence.
use Rattle.std.proofs.Common.{◌∙◌}
use Rattle.x5_match.proofs.OccurrenceLemmas.{in_order-found, in_order-missing}
use Rattle.x5_match.proofs.matching.are_in_order.Goals as goal

pub returns-in-None : goal.returns-in-None
returns-in-None c =
    in_order-missing c.args.parts.now c.loop-part.part-index c.part-item.result c.args.last.now c.loop-part.rest.now c.loop-part-test.true c.part-item.is
    (rw c.as_slice.ensures at c.in-None.ensures) ∙ c.loop-part.invariant

pub loop-part-preserved : goal.loop-part-preserved
loop-part-preserved c =
    in_order-found c.args.parts.now c.loop-part.part-index c.part-item.result c.args.last.now c.loop-part.rest.now c.in-Some.behind.now c.loop-part-test.true c.part-item.is
    (rw c.as_slice.ensures at c.in-Some.ensures) ∙ c.loop-part.invariant
