-- What is told first of the first member of which something is told.
use Rattle.std.proofs.Common.{sym, ◌∙◌}
use Rattle.x5_model_tree.specs.Consistent.{FileReference, false_shadows, specific_of}
use Rattle.x5_check.specs.Views.{breach_view}
use Rattle.x5_check.proofs.Steps.{stop}
use Rattle.x5_check.proofs.false_shadow.false_shadows_at.Goals as goal

pub returns-then-is_some : goal.returns-then-is_some
returns-then-is_some c =
    stop breach_view (λ (r : FileReference). false_shadows c.args.known.now (specific_of r)) c.references-references.result.now c.loop-reference.reference-index _ c.loop-reference.invariant c.in_ok-told.told c.reference-item.result c.loop-reference-test.true c.reference-item.is c.in_ok-told.ensures (sym c.is_some.ensures ∙ c.if-is_some.true)
