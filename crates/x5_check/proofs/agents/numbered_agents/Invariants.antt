-- The agents numbered so far, followed by those left, numbered from the current place on, are the world's agents with
-- their places.
use Rattle.std.proofs.Common.{◌≡◌, ◌++◌, map, drop}
use Rattle.std.specs.List.{enumerate_from}
use Rattle.x5_model_tree.specs.Masters.{numbered}
use Rattle.x5_know.specs.WorldView.{described_agent_view, world_view}
use Rattle.x5_check.proofs.agents.numbered_agents.Given as goal

abbrev pub invariant-loop-place : goal.invariant-loop-place
invariant-loop-place l =
    l.agents.items ++ enumerate_from l.place (map described_agent_view (drop l.place l.world.agents)) ≡ numbered (world_view l.world)
