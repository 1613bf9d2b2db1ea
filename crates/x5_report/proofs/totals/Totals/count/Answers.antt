-- The counts of the block are added, and those of a run's blocks are sums.
use Rattle.std.proofs.Common.{ap, ◌∙◌}
use Rattle.x5_model_output.specs.Summary.{both, capped_counts}
use Rattle.x5_model_output.proofs.Counting.{one_more_adds, capped_on_the_way}
use Rattle.x5_report.specs.Counted.{totals_view}
use Rattle.x5_report.proofs.Counting.{of_run}
use Rattle.x5_report.proofs.totals.Totals.count.Goals as goal

pub returns-clause-of_run : goal.returns-clause-of_run
returns-clause-of_run c =
    λ names b blocks. of_run one_more_adds capped_on_the_way names c.args.journal.now c.args.outcome.now
    (totals_view c.args.self.now) (totals_view c.with.result)
    (c.with.ensures ∙ ap (λ k. capped_counts (both (totals_view c.args.self.now) k))
    (c.of_block-more.ensures names)) b blocks
