-- It's an and of nothing.
use Rattle.std.proofs.Common.{◌∙◌}
use Rattle.x5_dapber.proofs.FilterRows.{all_meet}
use Rattle.x5_dapber.proofs.write_arguments.is_everything.Goals as goal

pub returns-in-And : goal.returns-in-And
returns-in-And c =
    all_meet c.in-And.filters c.args.filter.now c.len.result c.in-And.is (c.len.ensures ∙ c.in-And.filters.ok.0)
