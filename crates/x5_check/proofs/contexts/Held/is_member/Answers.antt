-- What its table says.
use Rattle.std.proofs.Common.{ap, ◌∙◌}
use Rattle.x5_model_tree.specs.Consistent.{in_nssr}
use Rattle.x5_check.specs.Rows.{Numbers}
use Rattle.x5_check.proofs.contexts.Held.is_member.Goals as goal

pub returns : goal.returns
returns c =
    c.has.ensures ∙ ap (λ (f : Numbers). f c.args.at.now c.agent.inside.0) c.self.invariant.1 ∙ (λ i. in_nssr (c.self.view_is i).context c.args.at.now (c.agent.view_is i))
