-- What its table says.
use Rattle.std.proofs.Common.{ap, ◌∙◌}
use Rattle.x5_model_tree.specs.Masters.{masters}
use Rattle.x5_check.specs.Rows.{Numbers}
use Rattle.x5_check.proofs.known.Known.masters.Goals as goal

pub returns : goal.returns
returns c =
    c.has.ensures ∙ ap (λ (f : Numbers). f c.args.prefix.now c.agent.inside.0) c.self.invariant.4 ∙ (λ i. masters (c.self.view_is i) (c.agent.view_is i) c.args.prefix.now)
