-- The selection stands in its tag.
use Rattle.std.proofs.Common.{map}
use Rattle.x5_model.specs.Requests.{Only}
use Rattle.x5_model_messages.specs.Requests.{selection_node}
use Rattle.x5_model_typed.specs.Named as named
use Rattle.x5_syntax.specs.TypeView.{type_view}
use Rattle.x5_dapber.proofs.Components.{in_tag_lost, in_tag_put}
use Rattle.x5_dapber.proofs.write_arguments.put_chosen.Goals as goal

pub returns-in_err-put_selected : goal.returns-in_err-put_selected
returns-in_err-put_selected c =
    in_tag_lost c.args.tag named.Selection (selection_node (Only (map type_view c.args.kinds.now)))
    c.in_err-put_selected.field-0.0 c.args.out.now c.put_selected.new.out c.args.out.now c.put_selected.new.out
    c.from_residual.result c.from_residual.ensures.1 c.in_err-put_selected.ensures

pub returns : goal.returns
returns c =
    in_tag_put c.args.tag c.len-behind.result named.Selection (selection_node (Only (map type_view c.args.kinds.now)))
    c.args.out.now c.put_selected.new.out c.enclose.new.out c.len-behind.ensures c.in_ok-enclose.ensures
    c.in_ok-put_selected.ensures
