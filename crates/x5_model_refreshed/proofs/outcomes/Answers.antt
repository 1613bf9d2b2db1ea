-- Each clause is its theorem.
use Rattle.x5_model_refreshed.proofs.Blocks.{block_brings, others_do_nothing, blocks_lead}
use Rattle.x5_model_refreshed.proofs.outcomes.Goals as goal

pub returns-clause-brings : goal.returns-clause-brings
returns-clause-brings c = block_brings

pub returns-clause-nothing : goal.returns-clause-nothing
returns-clause-nothing c = others_do_nothing

pub returns-clause-leads : goal.returns-clause-leads
returns-clause-leads c = blocks_lead
