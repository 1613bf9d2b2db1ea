-- The answers are the lemmas of this crate.
use Rattle.x5_model_known.proofs.Resolving.{resolves_alike, unresolved_is_stuck}
use Rattle.x5_model_known.proofs.resolution.Goals as goal

pub returns-clause-alike : goal.returns-clause-alike
returns-clause-alike c = resolves_alike

pub returns-clause-stuck : goal.returns-clause-stuck
returns-clause-stuck c = unresolved_is_stuck
