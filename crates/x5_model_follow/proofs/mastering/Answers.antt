-- What masters alone tell is the tree's.
use Rattle.x5_model_follow.proofs.Masters.{masters_tell}
use Rattle.x5_model_follow.proofs.mastering.Goals as goal

pub returns : goal.returns
returns c = masters_tell
