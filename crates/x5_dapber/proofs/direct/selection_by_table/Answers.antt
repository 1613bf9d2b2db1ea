-- What is spelled of the selection says it.
use Rattle.x5_types.specs.NodeView.{node_view}
use Rattle.x5_dapber.proofs.ReadIsSayable.{selection_fits}
use Rattle.x5_dapber.proofs.direct.selection_by_table.Goals as goal

pub selection_in-requires : goal.selection_in-requires
selection_in-requires c = selection_fits (node_view c.in_ok-node.node) c.in_ok-node.ensures.fits

pub returns : goal.returns
returns c = (node_view c.in_ok-node.node, c.in_ok-node.ensures.is, c.in_ok-selection_in.ensures)
