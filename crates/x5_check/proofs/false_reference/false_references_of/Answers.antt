-- What is told first of the first member of which something is told.
use Rattle.std.proofs.Common.{sym, ◌∙◌}
use Rattle.x5_model_tree.specs.Consistent.{false_reference}
use Rattle.x5_check.specs.Views.{breach_view}
use Rattle.x5_check.proofs.Steps.{stop}
use Rattle.x5_check.proofs.false_reference.false_references_of.Goals as goal

pub returns-then-is_some : goal.returns-then-is_some
returns-then-is_some c =
    stop breach_view (false_reference c.args.known.now c.args.agent.now.0 c.args.agent.now.1) c.references-references.result.now c.loop-reference.reference-index _ c.loop-reference.invariant c.in_ok-told.told c.reference-item.result c.loop-reference-test.true c.reference-item.is c.in_ok-told.ensures (sym c.is_some.ensures ∙ c.if-is_some.true)
