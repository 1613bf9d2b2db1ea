-- They are left out where they are usual.
use Rattle.std.proofs.Common.{sym, subst, ◌∙◌}
use Rattle.x5_model_messages.specs.Requests.{controls_node}
use Rattle.x5_model_octets.specs.Elements as elements
use Rattle.x5_model_octets.specs.Elements.{canonical_all}
use Rattle.std.specs.declared.option.Option.TheVariants.{Some}
use Rattle.x5_model_typed.specs.Forms.{at}
use Rattle.x5_model_typed.specs.Layouts.{controls}
use Rattle.x5_model_typed.specs.Named as named
use Rattle.x5_model_typed.specs.Nodes.{Node}
use Rattle.x5_ops.specs.RequestViews.{controls_view}
use Rattle.x5_types.specs.FormView.{table}
use Rattle.x5_writer.specs.Puts.{Puts}
use Rattle.x5_dapber.specs.PutsPart.{part}
use Rattle.x5_dapber.proofs.Components.{left_out, tagged_part}
use Rattle.x5_dapber.proofs.write_arguments.put_controls.Goals as goal

pub returns-then-are_usual : goal.returns-then-are_usual
returns-then-are_usual c =
    left_out table controls (controls_node (controls_view c.args.controls)) c.args.out.now
    (sym c.are_usual.ensures ∙ c.if-are_usual.true)

pub returns : goal.returns
returns c =
    let n = controls_node (controls_view c.args.controls) in
    tagged_part table controls n c.args.out.now c.put_tagged.new.out c.put_tagged.result
    (sym c.are_usual.ensures ∙ c.if-are_usual.false)
    (subst (λ (m : Node). Puts canonical_all (part table (at 30 named.Controls) m (Some elements.Nil)) c.args.out.now c.put_tagged.new.out c.put_tagged.result)
    c.in_ok-node.ensures c.put_tagged.ensures)
