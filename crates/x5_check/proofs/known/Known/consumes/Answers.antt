-- What its table says.
use Rattle.std.proofs.Common.{ap, ◌∙◌}
use Rattle.x5_model_tree.specs.Masters.{consumes}
use Rattle.x5_check.specs.Rows.{Numbers}
use Rattle.x5_check.proofs.known.Known.consumes.Goals as goal

pub returns : goal.returns
returns c =
    c.has.ensures ∙ ap (λ (f : Numbers). f c.args.context.now c.agent.inside.0) c.self.invariant.7 ∙ (λ i. consumes (c.self.view_is i) (c.agent.view_is i) c.args.context.now)
