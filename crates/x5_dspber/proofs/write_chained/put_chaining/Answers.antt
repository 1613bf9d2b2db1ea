-- The parts stand in the element in the order of their tags.
use Rattle.std.proofs.Common.{List, map, subst}
use Rattle.x5_model.specs.Values.{Rdn}
use Rattle.x5_ops.specs.declared.references.TraceItem.{TraceItem}
use Rattle.x5_dapreply.specs.ReplyViews.{told_item}
use Rattle.x5_dspber.specs.ChainedViews.{told_chained}
use Rattle.x5_dspber.proofs.ChainedWritten.{ExclusionsLost, ExclusionsPut, TraceLost, TracePut, chaining_put, exclusions_lost, kind_lost, progress_lost, target_lost, trace_lost}
use Rattle.x5_dspber.proofs.write_chained.put_chaining.Goals as goal

pub returns-in_err-put_exclusions : goal.returns-in_err-put_exclusions
returns-in_err-put_exclusions c =
    let fault = c.in_err-put_exclusions.field-0.0 in
    exclusions_lost (told_chained c.args.message.now) fault c.args.out.now c.put_exclusions.new.out c.args.out.now
    c.put_exclusions.new.out c.from_residual.result c.from_residual.ensures.1
    (subst (λ (l : List Rdn). ExclusionsLost l c.args.out.now c.put_exclusions.new.out fault)
    c.as_slice.ensures c.in_err-put_exclusions.ensures)

pub returns-in_err-put_kind : goal.returns-in_err-put_kind
returns-in_err-put_kind c =
    kind_lost (told_chained c.args.message.now) c.in_err-put_kind.field-0.0 c.put_exclusions.new.out c.put_kind.new.out
    c.args.out.now c.put_kind.new.out c.from_residual-in_err-put_kind.result c.from_residual-in_err-put_kind.ensures.1
    c.in_err-put_kind.ensures

pub returns-in_err-put_trace : goal.returns-in_err-put_trace
returns-in_err-put_trace c =
    let fault = c.in_err-put_trace.field-0.0 in
    trace_lost (told_chained c.args.message.now) fault c.put_kind.new.out c.put_trace.new.out c.args.out.now
    c.put_trace.new.out c.from_residual-in_err-put_trace.result c.from_residual-in_err-put_trace.ensures.1
    (subst (λ (l : List TraceItem). TraceLost (map told_item l) c.put_kind.new.out c.put_trace.new.out fault)
    c.as_slice-2.ensures c.in_err-put_trace.ensures)

pub returns-in_err-put_resolved : goal.returns-in_err-put_resolved
returns-in_err-put_resolved c =
    progress_lost (told_chained c.args.message.now) c.in_err-put_resolved.field-0.0 c.put_trace.new.out
    c.put_resolved.new.out c.args.out.now c.put_resolved.new.out c.from_residual-in_err-put_resolved.result
    c.from_residual-in_err-put_resolved.ensures.1 c.in_err-put_resolved.ensures

pub returns-in_err-put_object : goal.returns-in_err-put_object
returns-in_err-put_object c =
    target_lost (told_chained c.args.message.now) c.in_err-put_object.field-0.0 c.put_resolved.new.out
    c.put_object.new.out c.args.out.now c.put_object.new.out c.from_residual-in_err-put_object.result
    c.from_residual-in_err-put_object.ensures.1 c.in_err-put_object.ensures

pub returns : goal.returns
returns c =
    chaining_put (told_chained c.args.message.now) c.len-behind.result c.args.out.now c.put_exclusions.new.out
    c.put_kind.new.out c.put_trace.new.out c.put_resolved.new.out c.put_object.new.out c.enclose.new.out
    c.len-behind.ensures c.in_ok-enclose.ensures
    (subst (λ (l : List Rdn). ExclusionsPut l c.args.out.now c.put_exclusions.new.out)
    c.as_slice.ensures c.in_ok-put_exclusions.ensures)
    c.in_ok-put_kind.ensures
    (subst (λ (l : List TraceItem). TracePut (map told_item l) c.put_kind.new.out c.put_trace.new.out)
    c.as_slice-2.ensures c.in_ok-put_trace.ensures)
    c.in_ok-put_resolved.ensures c.in_ok-put_object.ensures
