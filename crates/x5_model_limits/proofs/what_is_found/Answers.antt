-- The answers are the lemmas of this crate.
use Rattle.x5_model_limits.proofs.Finding.{finds_bounded}
use Rattle.x5_model_limits.proofs.Needing.{rest_bounded, probes_bounded}
use Rattle.x5_model_limits.proofs.what_is_found.Goals as goal

pub returns-clause-found : goal.returns-clause-found
returns-clause-found c = finds_bounded

pub returns-clause-rest : goal.returns-clause-rest
returns-clause-rest c = rest_bounded

pub returns-clause-probes : goal.returns-clause-probes
returns-clause-probes c = probes_bounded
