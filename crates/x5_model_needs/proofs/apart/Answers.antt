-- No two references that an agent needs for a message ask the same of one agent: by cases of what name resolution
-- finds.
use Rattle.x5_model_needs.proofs.Needed.{needs_apart}
use Rattle.x5_model_needs.proofs.apart.Goals as goal

pub returns : goal.returns
returns c = needs_apart
