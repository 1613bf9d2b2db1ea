-- The answers are the lemmas of this crate.
use Rattle.x5_model_heard.proofs.Still.{probes_accept_none}
use Rattle.x5_model_heard.proofs.Fresh.{here_is_fresh, updates_are_carried}
use Rattle.x5_model_heard.proofs.keeping.Goals as goal

pub returns-clause-probes : goal.returns-clause-probes
returns-clause-probes c = probes_accept_none

pub returns-clause-fresh : goal.returns-clause-fresh
returns-clause-fresh c = here_is_fresh

pub returns-clause-updates : goal.returns-clause-updates
returns-clause-updates c = updates_are_carried
