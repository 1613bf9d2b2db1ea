-- The contexts gathered so far, followed by those of the agents from the current place on, are all mastered contexts of
-- the world in file order.
use Rattle.std.proofs.Common.{◌≡◌, ◌++◌, map, drop}
use Rattle.x5_model_tree.specs.Masters.{mastered}
use Rattle.x5_know.specs.WorldView.{described_agent_view, world_view}
use Rattle.x5_check.specs.Numbers.{of_agents}
use Rattle.x5_check.proofs.contexts.contexts_of.Given as goal

abbrev pub invariant-loop-place : goal.invariant-loop-place
invariant-loop-place l =
    l.held.items ++ of_agents l.place (map described_agent_view (drop l.place l.world.agents)) ≡ mastered (world_view l.world)
