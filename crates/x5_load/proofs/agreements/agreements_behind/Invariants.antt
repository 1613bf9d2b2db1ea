-- Reading the objects that are left behind the agreements so far gives what reading the whole list of shadowing
-- agreements gives.
use Rattle.std.proofs.Common.{◌≡◌, drop, []}
use Rattle.serde_json.specs.View.{items_view}
use Rattle.x5_model_world.specs.WorldFile as model
use Rattle.x5_world_members.specs.Paths.{path_of}
use Rattle.x5_load.proofs.agreements.agreements_behind.Given as goal

abbrev pub invariant-loop-i : goal.invariant-loop-i
invariant-loop-i l =
    model.agreements_behind l.names (path_of l.place) l.i l.agreements.items (items_view (drop l.i l.items))
    ≡ model.agreements_behind l.names (path_of l.place) 0 [] (items_view l.items)
