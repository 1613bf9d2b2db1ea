-- Each clause is its theorem, whatever is said of messages and replies.
use Rattle.x5_model_counted.specs.Laws.{Whatever}
use Rattle.x5_model_counted.proofs.Runs.{output_is_counted}
use Rattle.x5_model_counted.proofs.Summaries.{summary_is_of_texts}
use Rattle.x5_model_counted.proofs.summaries_are_of_texts.Goals as goal

pub returns-clause-counted : goal.returns-clause-counted
returns-clause-counted c = output_is_counted Whatever

pub returns-clause-texts : goal.returns-clause-texts
returns-clause-texts c = summary_is_of_texts Whatever
