-- The value stands in its tag.
use Rattle.x5_types.specs.FormView.{named_view}
use Rattle.x5_types.specs.NodeView.{node_view}
use Rattle.x5_dapber.proofs.Components.{in_tag_lost, in_tag_put}
use Rattle.x5_dapber.proofs.write_parts.put_tagged.Goals as goal

pub returns-in_err-write_node : goal.returns-in_err-write_node
returns-in_err-write_node c =
    in_tag_lost c.args.tag (named_view c.args.form) (node_view c.args.node.now) c.in_err-write_node.field-0.0
    c.args.out.now c.write_node.new.out c.args.out.now c.write_node.new.out c.from_residual.result
    c.from_residual.ensures.1 c.in_err-write_node.ensures

pub returns : goal.returns
returns c =
    in_tag_put c.args.tag c.len-behind.result (named_view c.args.form) (node_view c.args.node.now) c.args.out.now
    c.write_node.new.out c.enclose.new.out c.len-behind.ensures c.in_ok-enclose.ensures c.in_ok-write_node.ensures
