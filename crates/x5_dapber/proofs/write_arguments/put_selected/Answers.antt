-- The types stand in their SET, which stands in its tag, within the selection.
use Rattle.std.proofs.Common.{List, map, sym, subst}
use Rattle.std.specs.declared.result.Result.TheVariants.{Ok}
use Rattle.x5_model_messages.specs.Terms.{type_node}
use Rattle.x5_model_octets.specs.Elements.{canonical}
use Rattle.x5_model_typed.specs.Nodes.{Node}
use Rattle.x5_syntax.specs.TypeView.{type_view}
use Rattle.x5_types.specs.FormView.{nowhere}
use Rattle.x5_writer.specs.Puts.{Puts}
use Rattle.x5_direct_writer.proofs.Naming.{in_two}
use Rattle.x5_dapber.proofs.ArgumentsWritten.{selected, selected_lost, selected_put}
use Rattle.x5_dapber.proofs.write_arguments.put_selected.Goals as goal

pub returns-in_err-put_types : goal.returns-in_err-put_types
returns-in_err-put_types c =
    let kinds = c.args.kinds.now in
    subst (λ (ns : List Node). Puts canonical (selected ns) c.args.out.now c.put_types.new.out c.from_residual.result)
    (sym (in_two type_node type_view kinds))
    (selected_lost (map (λ k. type_node (type_view k)) kinds) c.in_err-put_types.field-0.0 c.args.out.now
    c.put_types.new.out c.args.out.now c.put_types.new.out c.from_residual.result c.from_residual.ensures.1
    (c.in_err-put_types.ensures nowhere))

pub returns : goal.returns
returns c =
    let kinds = c.args.kinds.now in
    subst (λ (ns : List Node). Puts {Y = Unit {0}} canonical (selected ns) c.args.out.now c.enclose-3.new.out (Ok tt))
    (sym (in_two type_node type_view kinds))
    (selected_put (map (λ k. type_node (type_view k)) kinds) c.len-behind.result c.args.out.now c.put_types.new.out
    c.enclose.new.out c.enclose-2.new.out c.enclose-3.new.out c.len-behind.ensures c.in_ok-enclose.ensures
    c.in_ok-enclose-2.ensures c.in_ok-enclose-3.ensures (c.in_ok-put_types.ensures nowhere))
