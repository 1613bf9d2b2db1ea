-- The run has what begins with the key.
use Rattle.x5_one.proofs.places.subtree.Goals as goal

pub returns : goal.returns
returns c = c.run_end-end.ensures.run
