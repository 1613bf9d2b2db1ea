-- Component by component.
use Rattle.x5_model_fitting.proofs.Requests.{request_fits, request_is}
use Rattle.x5_model_fitting.proofs.requests_fit.Goals as goal

pub returns-clause-fits : goal.returns-clause-fits
returns-clause-fits c = request_fits

pub returns-clause-spelled : goal.returns-clause-spelled
returns-clause-spelled c = request_is
