-- All cases of the induction are proved, so without premises on them whatever is done for a message is right, and so is
-- whatever a user is told.
use Rattle.x5_model_right.proofs.Whole.{all_is_right, requests_are_right}
use Rattle.x5_model_right.proofs.everything.Goals as goal

pub returns-clause-claims : goal.returns-clause-claims
returns-clause-claims c = all_is_right

pub returns-clause-requests : goal.returns-clause-requests
returns-clause-requests c = requests_are_right
