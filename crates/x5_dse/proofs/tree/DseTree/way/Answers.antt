-- The nodes are linked, as the type keeps it.
use Rattle.std.proofs.Common.{subst}
use Rattle.x5_dse.specs.Linked.{Nodes, IsLinked}
use Rattle.x5_dse.proofs.Named.{linked}
use Rattle.x5_dse.proofs.tree.DseTree.way.Goals as goal

pub returns-clause-linked : goal.returns-clause-linked
returns-clause-linked c = subst (λ (n : Nodes). IsLinked n.nodes) c.self.view_is (linked c.self.inside.prefix c.self.inside.slots.items c.self.inside.order.items c.self.invariant.0.row)
