-- The value is written as it is, as the result of the operation.
use Rattle.std.proofs.Common.{subst}
use Rattle.x5_model_typed.specs.Named as named
use Rattle.x5_model_typed.specs.Nodes as nodes
use Rattle.x5_types.specs.NodeView.{node_view}
use Rattle.x5_dapreply.specs.Found.{PutsPart, form_of}
use Rattle.x5_dapreply.proofs.found.put_other.Goals as goal

pub returns : goal.returns
returns c =
    let old = c.args.out.now in
    let new = c.write_node.new.out in
    let r = c.write_node.result in
    subst (λ (n : nodes.Node). PutsPart (named.Outcome (form_of c.args.operation)) n old new r) c.in_ok-node.ensures
    (subst (λ (f : named.Operation). PutsPart (named.Outcome f) (node_view c.in_ok-node.node) old new r)
    c.form_of_operation.ensures c.write_node.ensures)
