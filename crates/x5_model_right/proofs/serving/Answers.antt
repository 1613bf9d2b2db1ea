-- From its cases the claim of whatever is done holds, by structural recursion over all that is done; so a user's
-- request is licensed, right and thorough.
use Rattle.x5_model_right.proofs.Induction.{serving_is_right}
use Rattle.x5_model_right.proofs.Top.{request_is_right}
use Rattle.x5_model_right.proofs.serving.Goals as goal

pub returns-clause-claims : goal.returns-clause-claims
returns-clause-claims c = serving_is_right

pub returns-clause-request : goal.returns-clause-request
returns-clause-request c = request_is_right
