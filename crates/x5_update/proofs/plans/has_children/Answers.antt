-- The walk begins at the node itself.
use Rattle.std.proofs.Common.{List, ap, ◌∙◌}
use Rattle.x5_dse.specs.declared.node.NodeId.{NodeId}
use Rattle.x5_update.proofs.Below.{has_two, second, walked}
use Rattle.x5_update.proofs.plans.has_children.Goals as goal

pub returns : goal.returns
returns c = λ n linked with.
    c.is_some.ensures
    ∙ second c.walk-below.result c.next.new.self c.next-2.new.self c.next.result c.next-2.result c.next.ensures.steps c.next-2.ensures.steps
    ∙ ap (λ (l : List NodeId). has_two l) c.walk-below.ensures
    ∙ walked c.args.tree.now.nodes c.args.node n linked with
