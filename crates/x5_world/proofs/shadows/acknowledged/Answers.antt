-- The reply is the result of the operation, and no problem.
use Rattle.std.proofs.Common.{sym, ◌∙◌}
use Rattle.x5_world.proofs.Arriving.{none_some}
use Rattle.x5_world.proofs.shadows.acknowledged.Goals as goal

pub unreachable-requires : goal.unreachable-requires
unreachable-requires c = none_some (sym c.in_ok-carried_problem.ensures ∙ c.in-Some.is)
