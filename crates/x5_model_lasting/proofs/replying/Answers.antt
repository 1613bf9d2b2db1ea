-- A right reply stays right where lines are added, if what it says of acceptance stays: results, who tells of an error,
-- one line more, and then any number.
use Rattle.x5_model_lasting.proofs.Replies.{result_stays, teller_stays, right_stays, right_lasts}
use Rattle.x5_model_lasting.proofs.replying.Goals as goal

pub returns-clause-result : goal.returns-clause-result
returns-clause-result c = result_stays

pub returns-clause-told : goal.returns-clause-told
returns-clause-told c = teller_stays

pub returns-clause-one : goal.returns-clause-one
returns-clause-one c = right_stays

pub returns-clause-right : goal.returns-clause-right
returns-clause-right c = right_lasts
