-- The argument is written as it is.
use Rattle.std.proofs.Common.{subst}
use Rattle.x5_model_messages.specs.Requests.{argument_node}
use Rattle.x5_model_octets.specs.Elements.{canonical}
use Rattle.x5_model_typed.specs.Named as named
use Rattle.x5_model_typed.specs.Nodes.{Node}
use Rattle.x5_ops.specs.RequestViews.{request_view}
use Rattle.x5_types.specs.FormView.{operation_view}
use Rattle.x5_writer.specs.Puts.{Puts}
use Rattle.x5_dapber.proofs.Asked.{of}
use Rattle.x5_dapber.proofs.write_arguments.put_other.Goals as goal

pub returns : goal.returns
returns c =
    let old = c.args.out.now in
    let new = c.write_node.new.out in
    subst (λ (o : named.Operation). Puts canonical (of (named.Argument o) (argument_node (request_view c.args.request.now))) old new c.write_node.result)
    c.operation_asked.ensures
    (subst (λ (n : Node). Puts canonical (of (named.Argument (operation_view c.operation_asked.result)) n) old new c.write_node.result)
    c.in_ok-node.ensures c.write_node.ensures)
