-- What its table says.
use Rattle.std.proofs.Common.{ap, ◌∙◌}
use Rattle.x5_model_tree.specs.Masters.{numbered}
use Rattle.x5_check.specs.Numbers.{referrers_in}
use Rattle.x5_check.specs.Rows.{Numbers}
use Rattle.x5_check.proofs.known.Known.refers.Goals as goal

pub returns : goal.returns
returns c =
    c.has.ensures ∙ ap (λ (f : Numbers). f c.args.pin.now c.agent.inside.0) c.self.invariant.6 ∙ (λ i. referrers_in (numbered (c.self.view_is i)) c.args.pin.now (c.agent.view_is i))
