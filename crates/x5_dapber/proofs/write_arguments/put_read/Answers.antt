-- The name, the selection and the controls stand in the SET.
use Rattle.std.proofs.Common.{[], ◌∷◌, refl}
use Rattle.x5_model_messages.specs.Requests.{controls_node, selection_node}
use Rattle.x5_model_messages.specs.Terms.{name_node, node_of}
use Rattle.x5_model_typed.specs.Forms.{Component, at, or}
use Rattle.x5_model_typed.specs.Layouts.{all_attributes, controls}
use Rattle.x5_model_typed.specs.Named as named
use Rattle.x5_model_typed.specs.Nodes.{Node}
use Rattle.x5_ops.specs.RequestViews.{controls_view, selection_view}
use Rattle.x5_dapber.proofs.ArgumentsWritten.{none_put, one_more, set_lost, set_put}
use Rattle.x5_dapber.proofs.Asked.{of}
use Rattle.x5_dapber.proofs.write_arguments.put_read.Goals as goal

pub returns-in_err-put_controls : goal.returns-in_err-put_controls
returns-in_err-put_controls c =
    let x : Component × Node = (at 0 named.Name, name_node c.args.object.now) in
    let y : Component × Node = (or all_attributes (at 1 named.Selection), selection_node (selection_view c.args.selection.now)) in
    let z : Component × Node = (controls, controls_node (controls_view c.args.controls)) in
    set_lost (of (named.Argument named.Read) (node_of (x.1 ∷ y.1 ∷ z.1 ∷ []))) (x ∷ y ∷ []) z []
    c.in_err-put_controls.field-0.0 c.args.out.now c.put_controls.new.out c.args.out.now c.put_controls.new.out c.from_residual.result refl
    c.from_residual.ensures.1 c.in_err-put_controls.ensures

pub returns-in_err-put_selection : goal.returns-in_err-put_selection
returns-in_err-put_selection c =
    let x : Component × Node = (at 0 named.Name, name_node c.args.object.now) in
    let y : Component × Node = (or all_attributes (at 1 named.Selection), selection_node (selection_view c.args.selection.now)) in
    let z : Component × Node = (controls, controls_node (controls_view c.args.controls)) in
    set_lost (of (named.Argument named.Read) (node_of (x.1 ∷ y.1 ∷ z.1 ∷ []))) (x ∷ []) y (z ∷ [])
    c.in_err-put_selection.field-0.0 c.put_controls.new.out c.put_selection.new.out c.args.out.now c.put_selection.new.out c.from_residual-in_err-put_selection.result refl
    c.from_residual-in_err-put_selection.ensures.1 c.in_err-put_selection.ensures

pub returns-in_err-put_object : goal.returns-in_err-put_object
returns-in_err-put_object c =
    let x : Component × Node = (at 0 named.Name, name_node c.args.object.now) in
    let y : Component × Node = (or all_attributes (at 1 named.Selection), selection_node (selection_view c.args.selection.now)) in
    let z : Component × Node = (controls, controls_node (controls_view c.args.controls)) in
    set_lost (of (named.Argument named.Read) (node_of (x.1 ∷ y.1 ∷ z.1 ∷ []))) [] x (y ∷ z ∷ [])
    c.in_err-put_object.field-0.0 c.put_selection.new.out c.put_object.new.out c.args.out.now c.put_object.new.out c.from_residual-in_err-put_object.result refl
    c.from_residual-in_err-put_object.ensures.1 c.in_err-put_object.ensures

pub returns : goal.returns
returns c =
    let x : Component × Node = (at 0 named.Name, name_node c.args.object.now) in
    let y : Component × Node = (or all_attributes (at 1 named.Selection), selection_node (selection_view c.args.selection.now)) in
    let z : Component × Node = (controls, controls_node (controls_view c.args.controls)) in
    set_put (of (named.Argument named.Read) (node_of (x.1 ∷ y.1 ∷ z.1 ∷ []))) (x ∷ y ∷ z ∷ [])
    c.len-behind.result c.args.out.now c.put_object.new.out c.enclose.new.out refl c.len-behind.ensures
    c.in_ok-enclose.ensures
    (one_more x (y ∷ z ∷ []) c.args.out.now c.put_selection.new.out c.put_object.new.out
    (one_more y (z ∷ []) c.args.out.now c.put_controls.new.out c.put_selection.new.out
    (one_more z [] c.args.out.now c.args.out.now c.put_controls.new.out
    (none_put c.args.out.now) c.in_ok-put_controls.ensures) c.in_ok-put_selection.ensures) c.in_ok-put_object.ensures)
