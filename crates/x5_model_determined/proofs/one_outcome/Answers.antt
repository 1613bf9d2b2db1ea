-- Each thing that is done from one journal has one outcome, and a request one journal and one reply: by induction over
-- the first of two derivations.
use Rattle.x5_model_determined.proofs.Once.{acts_are_determined, request_is_determined}
use Rattle.x5_model_determined.proofs.one_outcome.Goals as goal

pub returns-clause-acts : goal.returns-clause-acts
returns-clause-acts c = acts_are_determined

pub returns-clause-request : goal.returns-clause-request
returns-clause-request c = request_is_determined
