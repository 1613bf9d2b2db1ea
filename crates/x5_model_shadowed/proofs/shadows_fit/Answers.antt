-- Component by component.
use Rattle.x5_model_shadowed.proofs.Fitting.{shadow_fits}
use Rattle.x5_model_shadowed.proofs.Spelled.{shadow_is}
use Rattle.x5_model_shadowed.proofs.shadows_fit.Goals as goal

pub returns-clause-fits : goal.returns-clause-fits
returns-clause-fits c = shadow_fits

pub returns-clause-spelled : goal.returns-clause-spelled
returns-clause-spelled c = shadow_is
