-- The number that the content says.
use Rattle.std.proofs.Common.{drop, subst}
use Rattle.x5_model_typed.specs.Leaves.{from_to, number}
use Rattle.x5_model_typed.specs.Nodes.{Node}
use Rattle.x5_dispber.specs.Direct.{LeafAt}
use Rattle.x5_dispber.proofs.direct.number_at.Goals as goal

pub returns-in-Some-clause-says : goal.returns-in-Some-clause-says
returns-in-Some-clause-says c =
    let octets = c.args.octets.now in
    subst (λ (n : Node). LeafAt (number (from_to 0 4294967295)) 2 n octets (drop c.in_ok-node.taken octets))
    c.in-Some.ensures c.in_ok-node.ensures.says
