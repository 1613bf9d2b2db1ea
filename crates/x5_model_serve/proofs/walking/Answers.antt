-- The walk of a list or search comes to each pin once, to nothing but what is evaluated on the spot, and to all of it
-- where no pin is evaluated twice, so that all it needs is asked for.
use Rattle.x5_model_serve.proofs.Walks.{walk_is_once, rest_is_needed, walk_is_whole, needs_are_walked}
use Rattle.x5_model_serve.proofs.walking.Goals as goal

pub returns-clause-once : goal.returns-clause-once
returns-clause-once c = walk_is_once

pub returns-clause-rest : goal.returns-clause-rest
returns-clause-rest c = rest_is_needed

pub returns-clause-whole : goal.returns-clause-whole
returns-clause-whole c = walk_is_whole

pub returns-clause-needs : goal.returns-clause-needs
returns-clause-needs c = needs_are_walked
