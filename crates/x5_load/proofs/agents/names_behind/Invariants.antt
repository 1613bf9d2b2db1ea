-- The names so far, with those that the objects left have, are the names of all agents, and there are no more of them
-- than objects read.
use Rattle.std.proofs.Common.{◌≡◌, ◌≤◌, drop, length, []}
use Rattle.serde_json.specs.View.{items_view}
use Rattle.x5_model_world.specs.AgentText as model
use Rattle.x5_load.proofs.agents.names_behind.Given as goal

abbrev pub invariant-loop-item : goal.invariant-loop-item
invariant-loop-item l =
    (model.names_behind l.names (items_view (drop l.item-index l.items)) ≡ model.names_behind [] (items_view l.items))
    × (length l.names ≤ l.item-index)
