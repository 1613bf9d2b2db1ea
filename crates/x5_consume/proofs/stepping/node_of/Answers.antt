-- The node that is found is the one of its number.
use Rattle.x5_holdings.proofs.Posted.{top_live}
use Rattle.x5_consume.proofs.Found.{found_node, lacks}
use Rattle.x5_consume.proofs.stepping.node_of.Goals as goal

pub entry-requires : goal.entry-requires
entry-requires c = top_live c.args.tree.now.nodes c.top.result c.top.ensures

pub returns : goal.returns
returns c = found_node c.args.tree.now.nodes _ c.in-Some.node c.entry.ensures.numbered c.in-Some.ensures

pub unreachable-requires : goal.unreachable-requires
unreachable-requires c = lacks c.args.tree.now.nodes _ c.in-None.ensures c.requires
