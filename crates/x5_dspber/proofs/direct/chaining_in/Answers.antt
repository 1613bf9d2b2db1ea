-- Each component says its part.
use Rattle.std.proofs.Common.{map}
use Rattle.x5_ops.specs.ReferenceViews.{kind_view, progress_view}
use Rattle.x5_dapreply.specs.ReplyViews.{told_item}
use Rattle.x5_dspber.proofs.DirectWhole.{chaining_read}
use Rattle.x5_dspber.proofs.direct.chaining_in.Goals as goal

pub returns : goal.returns
returns c =
    chaining_read c.in_ok-target.target (progress_view c.in_ok-progress.progress) (kind_view c.in_ok-kind.kind)
    c.in_ok-exclusions.exclusions (map told_item c.in_ok-trace.trace) c.in_ok-target_part.target_part.now
    c.in_ok-target_part.progress_part.now c.in_ok-target_part.trace_part.now c.in_ok-target_part.kind_part.now
    c.args.octets.now c.in_ok-target_part.rest.now c.in_ok-target_part.ensures c.in_ok-target.ensures
    c.in_ok-progress.ensures c.in_ok-trace.ensures c.in_ok-kind.ensures c.in_ok-exclusions.ensures
