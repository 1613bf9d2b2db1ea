-- The first type that is listed, where none is selected.
use Rattle.std.proofs.Common.{None, Some, sym, ap, ◌∙◌, cond}
use Rattle.x5_syntax.specs.TypeView.{type_view}
use Rattle.x5_ops.proofs.Selecting.{fault_found}
use Rattle.x5_ops.proofs.reading.selection_fault.Goals as goal

pub returns-then-has_selected : goal.returns-then-has_selected
returns-then-has_selected c =
    sym (fault_found c.args.selection.now c.in-Only.kinds c.as_slice.result.now c.args.entry.now c.in_ok-first.first.now c.attributes.result.now c.has_selected.result c.in-Only.is c.as_slice.ensures c.in_ok-first.ensures.value c.attributes.ensures.same c.has_selected.ensures
    ∙ ap (λ b. cond b None (Some (type_view c.in_ok-first.first.now))) c.if-has_selected.true)

pub returns : goal.returns
returns c =
    sym (fault_found c.args.selection.now c.in-Only.kinds c.as_slice.result.now c.args.entry.now c.in_ok-first.first.now c.attributes.result.now c.has_selected.result c.in-Only.is c.as_slice.ensures c.in_ok-first.ensures.value c.attributes.ensures.same c.has_selected.ensures
    ∙ ap (λ b. cond b None (Some (type_view c.in_ok-first.first.now))) c.if-has_selected.false)
