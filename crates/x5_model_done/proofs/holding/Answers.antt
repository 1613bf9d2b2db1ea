-- What an agent holds in a setting of consistent knowledge is in order: each context once, each copy once, and an entry
-- at the prefix of each that it may answer from.
use Rattle.x5_model_done.proofs.Done.{settings_are_kept}
use Rattle.x5_model_done.proofs.holding.Goals as goal

pub returns : goal.returns
returns c = settings_are_kept
