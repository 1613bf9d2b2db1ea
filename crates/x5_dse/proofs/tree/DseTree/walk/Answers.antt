-- A walk from its own top is all that is at or below it.
use Rattle.std.proofs.Common.{◌≡◌, true, sym, subst, Some}
use Rattle.x5_dse.specs.Linked.{Nodes, is_live, walk_from, subtree_of, IsAt}
use Rattle.x5_dse.specs.Inside.{nodes_of}
use Rattle.x5_dse.proofs.Named.{live_used}
use Rattle.x5_dse.proofs.Steps.{walk_whole, at_start}
use Rattle.x5_dse.proofs.tree.DseTree.walk.Goals as goal

pub invariant_of-result : goal.invariant_of-result
invariant_of-result c =
    let live : is_live (nodes_of c.self.inside.prefix c.self.inside.slots.items c.self.inside.order.items) c.args.node ≡ true = subst (λ (n : Nodes). is_live n.nodes c.args.node ≡ true) (sym c.self.view_is) c.requires in
    let used = live_used c.self.inside.prefix c.self.inside.slots.items c.self.inside.order.items c.self.invariant.0.row c.args.node live in
    subst (λ (n : Nodes). IsAt n.nodes c.args.node (Some c.args.node)) c.self.view_is (at_start c.self.inside.prefix c.self.inside.slots.items c.self.inside.order.items c.self.invariant.0.row c.args.node used)

pub returns : goal.returns
returns c =
    let live : is_live (nodes_of c.self.inside.prefix c.self.inside.slots.items c.self.inside.order.items) c.args.node ≡ true = subst (λ (n : Nodes). is_live n.nodes c.args.node ≡ true) (sym c.self.view_is) c.requires in
    let used = live_used c.self.inside.prefix c.self.inside.slots.items c.self.inside.order.items c.self.invariant.0.row c.args.node live in
    subst (λ (n : Nodes). walk_from n.nodes c.args.node c.args.node ≡ subtree_of n.nodes c.args.node) c.self.view_is (walk_whole c.self.inside.prefix c.self.inside.slots.items c.self.inside.order.items c.self.invariant.0.row c.args.node used)
