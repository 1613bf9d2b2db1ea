-- What is told of the whole world.
use Rattle.std.proofs.Common.{subst}
use Rattle.x5_model_tree.specs.World.{World}
use Rattle.x5_model_tree.specs.Consistent.{breaches}
use Rattle.x5_know.specs.WorldView.{world_view}
use Rattle.x5_check.specs.Views.{Tells}
use Rattle.x5_check.proofs.Whole.{consistent_where_none, first_where_some}
use Rattle.x5_check.proofs.conditions.check.Goals as goal

pub returns-clause-consistent : goal.returns-clause-consistent
returns-clause-consistent c =
    consistent_where_none (world_view c.args.world.now) c.first_told-told.result (subst (λ (w : World). Tells c.first_told-told.result (breaches w)) c.in_ok-known.ensures c.first_told-told.ensures)

pub returns-clause-first : goal.returns-clause-first
returns-clause-first c =
    first_where_some (world_view c.args.world.now) c.first_told-told.result (subst (λ (w : World). Tells c.first_told-told.result (breaches w)) c.in_ok-known.ensures c.first_told-told.ensures)
