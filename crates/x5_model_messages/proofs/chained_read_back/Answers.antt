-- Messages between agents component by component.
use Rattle.x5_model_messages.proofs.Chained.{chained_back}
use Rattle.x5_model_messages.proofs.chained_read_back.Goals as goal

pub returns : goal.returns
returns c = chained_back
