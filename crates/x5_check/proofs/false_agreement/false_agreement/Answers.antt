-- What is told first of the first member of which something is told.
use Rattle.std.proofs.Common.{sym, ◌∙◌}
use Rattle.x5_check.specs.Parts.{unsupplied_part}
use Rattle.x5_check.specs.Views.{breach_view}
use Rattle.x5_check.proofs.Steps.{pass, stop}
use Rattle.x5_check.proofs.false_agreement.false_agreement.Goals as goal

pub returns-then-is_some : goal.returns-then-is_some
returns-then-is_some c =
    stop breach_view (unsupplied_part c.args.known.now) c.agreements-agreements.result.now c.loop-agreement.agreement-index _ c.loop-agreement.invariant c.in_ok-told.told c.agreement-item.result c.loop-agreement-test.true c.agreement-item.is c.in_ok-told.ensures (sym c.is_some.ensures ∙ c.if-is_some.true)

pub loop-agreement-preserved : goal.loop-agreement-preserved
loop-agreement-preserved c =
    pass breach_view (unsupplied_part c.args.known.now) c.agreements-agreements.result.now c.loop-agreement.agreement-index _ c.loop-agreement.invariant c.in_ok-told.told c.agreement-item.result c.loop-agreement-test.true c.agreement-item.is c.in_ok-told.ensures (sym c.is_some.ensures ∙ c.if-is_some.false)
