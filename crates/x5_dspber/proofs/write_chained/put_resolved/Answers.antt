-- How far the target is resolved stands in its tag.
use Rattle.x5_model_messages.specs.Replies.{progress_node}
use Rattle.x5_model_typed.specs.Named as named
use Rattle.x5_ops.specs.ReferenceViews.{progress_view}
use Rattle.x5_types.specs.FormView.{nowhere}
use Rattle.x5_dapber.proofs.Components.{in_tag_lost, in_tag_put}
use Rattle.x5_dspber.proofs.write_chained.put_resolved.Goals as goal

pub returns-in_err-put_progress : goal.returns-in_err-put_progress
returns-in_err-put_progress c =
    in_tag_lost 1 named.Progress (progress_node (progress_view c.args.progress)) c.in_err-put_progress.field-0.0
    c.args.out.now c.put_progress.new.out c.args.out.now c.put_progress.new.out c.from_residual.result
    c.from_residual.ensures.1 (c.in_err-put_progress.ensures nowhere)

pub returns : goal.returns
returns c =
    in_tag_put 1 c.len-behind.result named.Progress (progress_node (progress_view c.args.progress)) c.args.out.now
    c.put_progress.new.out c.enclose.new.out c.len-behind.ensures c.in_ok-enclose.ensures
    (c.in_ok-put_progress.ensures nowhere)
