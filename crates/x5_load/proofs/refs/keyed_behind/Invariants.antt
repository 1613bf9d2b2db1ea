-- Reading the objects that are left behind the references so far gives what reading the whole list of an agent's
-- references gives.
use Rattle.std.proofs.Common.{◌≡◌, drop}
use Rattle.serde_json.specs.View.{items_view}
use Rattle.x5_model_world.specs.AgentText as model
use Rattle.x5_world_members.specs.Paths.{path_of}
use Rattle.x5_load.proofs.refs.keyed_behind.Given as goal

abbrev pub invariant-loop-i : goal.invariant-loop-i
invariant-loop-i l =
    model.references_behind l.names (path_of l.place) l.i l.references (items_view (drop l.i l.items))
    ≡ model.references_behind l.names (path_of l.place) 0 model.no_references (items_view l.items)
