-- The number that the content says.
use Rattle.std.proofs.Common.{drop, subst}
use Rattle.x5_model_typed.specs.Layouts.{time_leaf}
use Rattle.x5_types.specs.FormView.{world}
use Rattle.x5_model_typed.specs.Nodes.{Node}
use Rattle.x5_dispber.specs.Direct.{LeafAt}
use Rattle.x5_dispber.proofs.direct.moment_at.Goals as goal

pub returns-in-Some-clause-says : goal.returns-in-Some-clause-says
returns-in-Some-clause-says c =
    let octets = c.args.octets.now in
    subst (λ (n : Node). LeafAt (time_leaf (world c.args.start.now c.args.names.now)) 24 n octets
    (drop c.in_ok-node.taken octets))
    c.in-Some.ensures c.in_ok-node.ensures.says
