-- The name, the subset, the filter, the selection and the controls stand in the SET.
use Rattle.std.proofs.Common.{[], ◌∷◌, refl}
use Rattle.x5_match.specs.FilterView.{filter_view}
use Rattle.x5_model_messages.specs.FilterTerms.{filter_node}
use Rattle.x5_model_messages.specs.Requests.{controls_node, selection_node}
use Rattle.x5_model_messages.specs.Terms.{name_node, node_of}
use Rattle.x5_model_typed.specs.Forms.{Component, at, or}
use Rattle.x5_model_typed.specs.Layouts.{all_attributes, controls, everything}
use Rattle.x5_model_typed.specs.Named as named
use Rattle.x5_model_typed.specs.Nodes.{Node}
use Rattle.x5_ops.specs.RequestViews.{controls_view, selection_view, subset_view}
use Rattle.x5_dapber.proofs.ArgumentsWritten.{none_put, one_more, set_lost, set_put, subset}
use Rattle.x5_dapber.proofs.Asked.{of}
use Rattle.x5_dapber.proofs.write_arguments.put_search.Goals as goal

pub returns-in_err-put_controls : goal.returns-in_err-put_controls
returns-in_err-put_controls c =
    let x : Component × Node = (at 0 named.Name, name_node c.args.base.now) in
    let y : Component × Node = subset (subset_view c.args.subset) in
    let z : Component × Node = (or everything (at 2 (named.Filter 16)), filter_node (filter_view c.args.filter.now)) in
    let u : Component × Node = (or all_attributes (at 4 named.Selection), selection_node (selection_view c.args.selection.now)) in
    let v : Component × Node = (controls, controls_node (controls_view c.args.controls)) in
    set_lost (of (named.Argument named.Search) (node_of (x.1 ∷ y.1 ∷ z.1 ∷ u.1 ∷ v.1 ∷ []))) (x ∷ y ∷ z ∷ u ∷ []) v []
    c.in_err-put_controls.field-0.0 c.args.out.now c.put_controls.new.out c.args.out.now c.put_controls.new.out c.from_residual.result refl
    c.from_residual.ensures.1 c.in_err-put_controls.ensures

pub returns-in_err-put_selection : goal.returns-in_err-put_selection
returns-in_err-put_selection c =
    let x : Component × Node = (at 0 named.Name, name_node c.args.base.now) in
    let y : Component × Node = subset (subset_view c.args.subset) in
    let z : Component × Node = (or everything (at 2 (named.Filter 16)), filter_node (filter_view c.args.filter.now)) in
    let u : Component × Node = (or all_attributes (at 4 named.Selection), selection_node (selection_view c.args.selection.now)) in
    let v : Component × Node = (controls, controls_node (controls_view c.args.controls)) in
    set_lost (of (named.Argument named.Search) (node_of (x.1 ∷ y.1 ∷ z.1 ∷ u.1 ∷ v.1 ∷ []))) (x ∷ y ∷ z ∷ []) u (v ∷ [])
    c.in_err-put_selection.field-0.0 c.put_controls.new.out c.put_selection.new.out c.args.out.now c.put_selection.new.out c.from_residual-in_err-put_selection.result refl
    c.from_residual-in_err-put_selection.ensures.1 c.in_err-put_selection.ensures

pub returns-in_err-put_filter : goal.returns-in_err-put_filter
returns-in_err-put_filter c =
    let x : Component × Node = (at 0 named.Name, name_node c.args.base.now) in
    let y : Component × Node = subset (subset_view c.args.subset) in
    let z : Component × Node = (or everything (at 2 (named.Filter 16)), filter_node (filter_view c.args.filter.now)) in
    let u : Component × Node = (or all_attributes (at 4 named.Selection), selection_node (selection_view c.args.selection.now)) in
    let v : Component × Node = (controls, controls_node (controls_view c.args.controls)) in
    set_lost (of (named.Argument named.Search) (node_of (x.1 ∷ y.1 ∷ z.1 ∷ u.1 ∷ v.1 ∷ []))) (x ∷ y ∷ []) z (u ∷ v ∷ [])
    c.in_err-put_filter.field-0.0 c.put_selection.new.out c.put_filter.new.out c.args.out.now c.put_filter.new.out c.from_residual-in_err-put_filter.result refl
    c.from_residual-in_err-put_filter.ensures.1 c.in_err-put_filter.ensures

pub returns-in_err-put_subset : goal.returns-in_err-put_subset
returns-in_err-put_subset c =
    let x : Component × Node = (at 0 named.Name, name_node c.args.base.now) in
    let y : Component × Node = subset (subset_view c.args.subset) in
    let z : Component × Node = (or everything (at 2 (named.Filter 16)), filter_node (filter_view c.args.filter.now)) in
    let u : Component × Node = (or all_attributes (at 4 named.Selection), selection_node (selection_view c.args.selection.now)) in
    let v : Component × Node = (controls, controls_node (controls_view c.args.controls)) in
    set_lost (of (named.Argument named.Search) (node_of (x.1 ∷ y.1 ∷ z.1 ∷ u.1 ∷ v.1 ∷ []))) (x ∷ []) y (z ∷ u ∷ v ∷ [])
    c.in_err-put_subset.field-0.0 c.put_filter.new.out c.put_subset.new.out c.args.out.now c.put_subset.new.out c.from_residual-in_err-put_subset.result refl
    c.from_residual-in_err-put_subset.ensures.1 c.in_err-put_subset.ensures

pub returns-in_err-put_object : goal.returns-in_err-put_object
returns-in_err-put_object c =
    let x : Component × Node = (at 0 named.Name, name_node c.args.base.now) in
    let y : Component × Node = subset (subset_view c.args.subset) in
    let z : Component × Node = (or everything (at 2 (named.Filter 16)), filter_node (filter_view c.args.filter.now)) in
    let u : Component × Node = (or all_attributes (at 4 named.Selection), selection_node (selection_view c.args.selection.now)) in
    let v : Component × Node = (controls, controls_node (controls_view c.args.controls)) in
    set_lost (of (named.Argument named.Search) (node_of (x.1 ∷ y.1 ∷ z.1 ∷ u.1 ∷ v.1 ∷ []))) [] x (y ∷ z ∷ u ∷ v ∷ [])
    c.in_err-put_object.field-0.0 c.put_subset.new.out c.put_object.new.out c.args.out.now c.put_object.new.out c.from_residual-in_err-put_object.result refl
    c.from_residual-in_err-put_object.ensures.1 c.in_err-put_object.ensures

pub returns : goal.returns
returns c =
    let x : Component × Node = (at 0 named.Name, name_node c.args.base.now) in
    let y : Component × Node = subset (subset_view c.args.subset) in
    let z : Component × Node = (or everything (at 2 (named.Filter 16)), filter_node (filter_view c.args.filter.now)) in
    let u : Component × Node = (or all_attributes (at 4 named.Selection), selection_node (selection_view c.args.selection.now)) in
    let v : Component × Node = (controls, controls_node (controls_view c.args.controls)) in
    set_put (of (named.Argument named.Search) (node_of (x.1 ∷ y.1 ∷ z.1 ∷ u.1 ∷ v.1 ∷ []))) (x ∷ y ∷ z ∷ u ∷ v ∷ [])
    c.len-behind.result c.args.out.now c.put_object.new.out c.enclose.new.out refl c.len-behind.ensures
    c.in_ok-enclose.ensures
    (one_more x (y ∷ z ∷ u ∷ v ∷ []) c.args.out.now c.put_subset.new.out c.put_object.new.out
    (one_more y (z ∷ u ∷ v ∷ []) c.args.out.now c.put_filter.new.out c.put_subset.new.out
    (one_more z (u ∷ v ∷ []) c.args.out.now c.put_selection.new.out c.put_filter.new.out
    (one_more u (v ∷ []) c.args.out.now c.put_controls.new.out c.put_selection.new.out
    (one_more v [] c.args.out.now c.args.out.now c.put_controls.new.out
    (none_put c.args.out.now) c.in_ok-put_controls.ensures) c.in_ok-put_selection.ensures) c.in_ok-put_filter.ensures) c.in_ok-put_subset.ensures) c.in_ok-put_object.ensures)
