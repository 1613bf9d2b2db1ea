-- What is done for a message leaves all that stands above it in the journal: by induction over all that is done.
use Rattle.x5_model_serve.proofs.Frame.{framed}
use Rattle.x5_model_serve.proofs.framing.Goals as goal

pub returns : goal.returns
returns c = framed
