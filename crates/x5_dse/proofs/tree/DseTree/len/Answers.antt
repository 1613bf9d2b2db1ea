-- The nodes are the first one and those in order, and they are linked.
use Rattle.std.proofs.Common.{length, ap, subst, arith}
use Rattle.x5_dse.specs.Linked.{Nodes, IsLinked}
use Rattle.x5_dse.proofs.Named.{linked, count}
use Rattle.x5_dse.proofs.tree.DseTree.len.Goals as goal

pub returns-clause-same : goal.returns-clause-same
returns-clause-same c =
    let n = count c.self.inside.prefix c.self.inside.slots.items c.self.inside.order.items c.self.invariant.0.row in
    let e = ap (λ (n : Nodes). length n.nodes) c.self.view_is in
    omega (arith, n, e, c.len.ensures, c.self.inside.order.ok.0)

pub returns-clause-linked : goal.returns-clause-linked
returns-clause-linked c = subst (λ (n : Nodes). IsLinked n.nodes) c.self.view_is (linked c.self.inside.prefix c.self.inside.slots.items c.self.inside.order.items c.self.invariant.0.row)
