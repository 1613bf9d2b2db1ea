-- Reading the values that are left behind the texts so far gives what the whole list gives: its texts, each once, or a
-- fault.
use Rattle.std.proofs.Common.{◌≡◌, drop, []}
use Rattle.serde_json.specs.View.{items_view}
use Rattle.x5_model_world.specs.NetworkText as model
use Rattle.x5_world_members.specs.Paths.{path_of}
use Rattle.x5_load.proofs.network.texts_behind.Given as goal

abbrev pub invariant-loop-i : goal.invariant-loop-i
invariant-loop-i l =
    model.texts_behind (path_of l.place) l.i l.texts (items_view (drop l.i l.items))
    ≡ model.texts_behind (path_of l.place) 0 [] (items_view l.items)
