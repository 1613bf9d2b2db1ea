-- The walk from the prefix goes over all nodes.
use Rattle.std.proofs.Common.{List, sym, ◌∙◌}
use Rattle.std.proofs.lemmas.Iterator.{items_from_drains}
use Rattle.std.proofs.lemmas.Iterator.Consumers.{YieldsList-from_first}
use Rattle.std.proofs.lemmas.List.{map-id}
use Rattle.x5_dse.specs.declared.node.NodeId.{NodeId}
use Rattle.x5_dse.specs.Linked.{subtree_of}
use Rattle.x5_holdings.proofs.Posted.{top_live}
use Rattle.x5_supply.proofs.Nodes.{all_walked}
use Rattle.x5_supply.proofs.entries.nodes_of.Goals as goal

pub walk-requires : goal.walk-requires
walk-requires c = top_live c.args.tree.now.nodes c.top.result c.top.ensures

pub returns : goal.returns
returns c =
    let ran = c.in_ok-collect.ensures.ran in
    ran.2.0 ∙ sym (map-id ran.0)
    ∙ items_from_drains ran.0 ran.1 (YieldsList-from_first (λ (x : NodeId). x) (λ (l : List NodeId). l)
    (subtree_of c.args.tree.now.nodes c.top.result) c.walk.ensures)
    ∙ all_walked c.args.tree.now.nodes c.len.ensures.linked c.top.result c.top.ensures
