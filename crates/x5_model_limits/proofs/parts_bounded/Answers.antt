-- The answers are the lemmas of this crate.
use Rattle.x5_model_limits.proofs.Parting.{own_part_is_bounded, copy_part_is_bounded, local_part_is_bounded}
use Rattle.x5_model_limits.proofs.parts_bounded.Goals as goal

pub returns-clause-own : goal.returns-clause-own
returns-clause-own c = own_part_is_bounded

pub returns-clause-copy : goal.returns-clause-copy
returns-clause-copy c = copy_part_is_bounded

pub returns-clause-local : goal.returns-clause-local
returns-clause-local c = local_part_is_bounded
