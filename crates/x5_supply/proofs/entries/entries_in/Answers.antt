-- The nodes are all that there are, each the one of its number.
use Rattle.std.proofs.Common.{List, map, subst, ap, ◌∙◌}
use Rattle.std.specs.Option.{option_map}
use Rattle.x5_model.specs.Members.{In}
use Rattle.x5_dse.specs.declared.node.NodeId.{NodeId}
use Rattle.x5_dse.specs.Linked.{entries_of, named_of, node_with}
use Rattle.x5_holdings.proofs.Posted.{top_live}
use Rattle.x5_supply.proofs.Nodes.{all_live, all_named, all_inside}
use Rattle.x5_supply.proofs.entries.entries_in.Goals as goal

pub entry-requires : goal.entry-requires
entry-requires c = top_live c.args.tree.now.nodes c.top.result c.top.ensures

pub named_at_all-requires : goal.named_at_all-requires
named_at_all-requires c id i =
    all_live c.args.tree.now.nodes id (subst (λ (l : List NodeId). In id l) (c.deref.ensures.value ∙ c.in_ok-nodes.ensures) i)

pub returns : goal.returns
returns c =
    let nodes = c.args.tree.now.nodes in
    c.from_vec.ensures
    ∙ all_inside c.in_ok-all.all.items (entries_of nodes)
    (c.in_ok-all.ensures
    ∙ ap (map (λ (id : NodeId). option_map named_of (node_with nodes id))) (c.deref.ensures.value ∙ c.in_ok-nodes.ensures)
    ∙ all_named nodes c.entry.ensures.numbered)
