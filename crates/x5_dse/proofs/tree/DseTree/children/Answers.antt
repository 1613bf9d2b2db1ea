-- The run is what stands just below the node.
use Rattle.std.proofs.Common.{◌≡◌, true, List, sym, ap, subst, ◌∙◌}
use Rattle.x5_dse.specs.declared.node.NodeId.{NodeId}
use Rattle.x5_dse.specs.Linked.{Nodes, is_live, children_of}
use Rattle.x5_dse.specs.Inside.{Slots, nodes_of, spots_of, IsStart}
use Rattle.x5_dse.specs.Run.{run_from}
use Rattle.x5_dse.proofs.Named.{live_used}
use Rattle.x5_dse.proofs.ChildRuns.{children_are}
use Rattle.x5_dse.proofs.tree.DseTree.children.Goals as goal

pub returns : goal.returns
returns c =
    let row = c.self.invariant.0.row in
    let live : is_live (nodes_of c.self.inside.prefix c.self.inside.slots.items c.self.inside.order.items) c.args.node ≡ true = subst (λ (n : Nodes). is_live n.nodes c.args.node ≡ true) (sym c.self.view_is) c.requires in
    let start : IsStart (spots_of c.self.inside.slots.items c.self.inside.order.items) c.args.node c.run_of-at.result =
    subst (λ (l : Slots). IsStart (spots_of l c.self.inside.order.items) c.args.node c.run_of-at.result) c.deref.ensures.value
    (subst (λ (ns : List NodeId). IsStart (spots_of c.deref.result.now ns) c.args.node c.run_of-at.result) c.deref-2.ensures.value c.run_of-at.ensures) in
    c.new.ensures
    ∙ (λ i. run_from (c.deref-3.ensures.value i) (c.deref-4.ensures.value i) c.args.node c.run_of-at.result)
    ∙ children_are c.self.inside.prefix c.self.inside.slots.items c.self.inside.order.items row c.args.node (live_used c.self.inside.prefix c.self.inside.slots.items c.self.inside.order.items row c.args.node live) c.run_of-at.result start
    ∙ ap (λ (n : Nodes). children_of n.nodes c.args.node) c.self.view_is
