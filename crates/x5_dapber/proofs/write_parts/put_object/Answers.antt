-- The name stands in its tag.
use Rattle.x5_model_messages.specs.Terms.{name_node}
use Rattle.x5_model_typed.specs.Named as named
use Rattle.x5_types.specs.FormView.{nowhere}
use Rattle.x5_dapber.proofs.Components.{in_tag_lost, in_tag_put}
use Rattle.x5_dapber.proofs.write_parts.put_object.Goals as goal

pub returns-in_err-put_name : goal.returns-in_err-put_name
returns-in_err-put_name c =
    in_tag_lost 0 named.Name (name_node c.args.name.now) c.in_err-put_name.field-0.0
    c.args.out.now c.put_name.new.out c.args.out.now c.put_name.new.out c.from_residual.result
    c.from_residual.ensures.1 (c.in_err-put_name.ensures nowhere)

pub returns : goal.returns
returns c =
    in_tag_put 0 c.len-behind.result named.Name (name_node c.args.name.now) c.args.out.now
    c.put_name.new.out c.enclose.new.out c.len-behind.ensures c.in_ok-enclose.ensures (c.in_ok-put_name.ensures nowhere)
