-- The change is the one that is due at the place.
use Rattle.x5_holdings.proofs.Posted.{top_live}
use Rattle.x5_consume.proofs.Standing.{due_at, find_at}
use Rattle.x5_consume.proofs.stepping.change_at.Goals as goal

pub entry-requires : goal.entry-requires
entry-requires c = top_live c.tree-tree.result.now.nodes c.top.result c.top.ensures

pub change_of-requires : goal.change_of-requires
change_of-requires c =
    find_at c.args.state.now c.args.place c.args.ready c.brought_at-held.result.now c.tree-tree.result.now c.brought_at-held.ensures
    c.tree-tree.ensures.nodes c.requires

pub returns : goal.returns
returns c =
    due_at c.args.state.now c.args.place c.args.ready c.brought_at-held.result.now c.tree-tree.result.now c.brought_at-held.ensures
    c.tree-tree.ensures.nodes c.change_of.result c.change_of.ensures c.entry.ensures.linked c.tree-tree.ensures.kept
