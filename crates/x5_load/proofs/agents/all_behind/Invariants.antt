-- Reading the objects that are left behind the agents and counts so far gives what reading the whole list of agents
-- gives, agents or a fault.
use Rattle.std.proofs.Common.{◌≡◌, drop, []}
use Rattle.serde_json.specs.View.{items_view}
use Rattle.x5_model_world.specs.AgentText as model
use Rattle.x5_model_world.specs.WorldFile.{none_yet}
use Rattle.x5_world_members.specs.Paths.{path_of}
use Rattle.x5_load.proofs.agents.all_behind.Given as goal

abbrev pub invariant-loop-i : goal.invariant-loop-i
invariant-loop-i l =
    model.all_behind l.names (path_of l.place) l.i l.agents (items_view (drop l.i l.items))
    ≡ model.all_behind l.names (path_of l.place) 0 (record { agents = []; counts = none_yet }) (items_view l.items)
