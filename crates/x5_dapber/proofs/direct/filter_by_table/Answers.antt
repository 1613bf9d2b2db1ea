-- What is spelled of the filter says it.
use Rattle.x5_types.specs.NodeView.{node_view}
use Rattle.x5_dapber.proofs.ReadIsSayable.{filter_fits}
use Rattle.x5_dapber.proofs.direct.filter_by_table.Goals as goal

pub filter_in-requires : goal.filter_in-requires
filter_in-requires c = record { said = filter_fits (node_view c.in_ok-node.node) c.in_ok-node.ensures.fits }

pub returns : goal.returns
returns c = (node_view c.in_ok-node.node, c.in_ok-node.ensures.is, c.in_ok-filter_in.ensures.filter)
