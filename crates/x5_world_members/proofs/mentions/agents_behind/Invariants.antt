-- Finding the agents of the texts that are left, behind those so far, gives what the whole list of agents' names gives.
use Rattle.std.proofs.Common.{◌≡◌, [], drop}
use Rattle.serde_json.specs.View.{items_view}
use Rattle.x5_model_world.specs.ContextText as model
use Rattle.x5_world_members.specs.Paths.{path_of}
use Rattle.x5_world_members.proofs.mentions.agents_behind.Given as goal

abbrev pub invariant-loop-i : goal.invariant-loop-i
invariant-loop-i l =
    model.agents_behind l.names (path_of l.place) l.i l.agents (items_view (drop l.i l.items)) ≡ model.agents_behind l.names (path_of l.place) 0 [] (items_view l.items)
