-- The line of the totals, behind the line on knowledge, is the summary of the run, since the totals count the blocks of
-- all its commands.
use Rattle.std.proofs.Common.{◌∙◌, map, string_bytes}
use Rattle.x5_report.specs.Counted.{totals_view}
use Rattle.x5_script.specs.Views.{command_view}
use Rattle.xdir.proofs.Counts.{if_ok_more, is_summary}
use Rattle.xdir.proofs.summed.summary_of.Goals as goal

pub returns : goal.returns
returns c =
    if_ok_more c.text_of.result (λ text is f stands knowledge told.
    is_summary f (map command_view c.args.commands.now) c.totals_of.new.network (totals_view c.in_ok-totals.totals) (c.in_ok-totals.ensures f stands told) c.as_str.result.now (string_bytes text) (c.as_str.ensures.value ∙ knowledge) is)
    c.text_of.ensures
