-- What its table says.
use Rattle.std.proofs.Common.{ap, ◌∙◌}
use Rattle.x5_model_tree.specs.Consistent.{masters_below}
use Rattle.x5_check.specs.Rows.{Numbers}
use Rattle.x5_check.proofs.known.Known.masters_below.Goals as goal

pub returns : goal.returns
returns c =
    c.has.ensures ∙ ap (λ (f : Numbers). f c.args.above.now c.agent.inside.0) c.self.invariant.5 ∙ (λ i. masters_below (c.self.view_is i) (c.agent.view_is i) c.args.above.now)
