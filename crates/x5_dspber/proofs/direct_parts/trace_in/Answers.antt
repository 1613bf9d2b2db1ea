-- The items that are read are the trace's, which follows its rule.
use Rattle.std.proofs.Common.{[], length, map, arith, ◌≤◌}
use Rattle.std.proofs.lemmas.List.{length-map}
use Rattle.x5_dapreply.specs.ReplyViews.{told_item}
use Rattle.x5_dspber.proofs.DirectTrace.{told_distinct}
use Rattle.x5_dspber.proofs.DirectWhole.{trace_read}
use Rattle.x5_dspber.proofs.direct_parts.trace_in.Goals as goal

pub returns : goal.returns
returns c =
    let t = c.in_ok-trace.trace in
    let few : length (map told_item t) ≤ 128 = omega (arith, c.in_ok-trace.ensures.few, length-map t told_item) in
    trace_read (map told_item t) c.in_ok-content.content.now c.args.octets.now [] c.in_ok-content.ensures
    c.in_ok-trace.ensures.each few (told_distinct t c.in_ok-trace.ensures.apart)
