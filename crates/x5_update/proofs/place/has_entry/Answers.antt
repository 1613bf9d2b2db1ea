-- An entry is there where its node is found.
use Rattle.std.proofs.Common.{ap, ◌∙◌}
use Rattle.std.specs.Option.{is_some}
use Rattle.x5_model.specs.Values.{key_of}
use Rattle.x5_dse.specs.Linked.{Nodes, entries_of}
use Rattle.x5_dse.specs.declared.node.NodeId.{NodeId}
use Rattle.std.specs.declared.option.Option.{Option}
use Rattle.x5_model_tree.specs.Tree.{is_there}
use Rattle.x5_update.proofs.Nodes.{there_by_node}
use Rattle.x5_update.proofs.place.has_entry.Goals as goal

pub returns : goal.returns
returns c =
    c.is_some.ensures ∙ ap (λ (o : Option NodeId). is_some o) c.find.ensures
    ∙ there_by_node c.tree.result.now.nodes (key_of c.args.name.now)
    ∙ ap (λ (n : Nodes). is_there (entries_of n.nodes) (key_of c.args.name.now)) c.tree.ensures.nodes
