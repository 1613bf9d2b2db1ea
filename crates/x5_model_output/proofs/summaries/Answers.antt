-- Each clause is its theorem.
use Rattle.x5_model_output.proofs.Counting.{one_more_adds, capped_on_the_way}
use Rattle.x5_model_output.proofs.summaries.Goals as goal

pub returns-clause-more : goal.returns-clause-more
returns-clause-more c = one_more_adds

pub returns-clause-capped : goal.returns-clause-capped
returns-clause-capped c = capped_on_the_way
