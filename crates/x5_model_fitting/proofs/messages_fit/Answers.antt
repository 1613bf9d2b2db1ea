-- Component by component.
use Rattle.x5_model_fitting.proofs.Chained.{chained_fits, chained_is}
use Rattle.x5_model_fitting.proofs.messages_fit.Goals as goal

pub returns-clause-fits : goal.returns-clause-fits
returns-clause-fits c = chained_fits

pub returns-clause-spelled : goal.returns-clause-spelled
returns-clause-spelled c = chained_is
