-- Reading the objects that are left behind the entries so far gives what reading all entries of the context of the
-- prefix gives.
use Rattle.std.proofs.Common.{◌≡◌, [], drop}
use Rattle.serde_json.specs.View.{items_view}
use Rattle.x5_model_world.specs.ContextText as model
use Rattle.x5_world_members.specs.Paths.{path_of}
use Rattle.x5_world_members.proofs.entries.entries_behind.Given as goal

abbrev pub invariant-loop-i : goal.invariant-loop-i
invariant-loop-i l =
    model.entries_behind (path_of l.place) l.i l.prefix l.entries (items_view (drop l.i l.items)) ≡ model.entries_behind (path_of l.place) 0 l.prefix [] (items_view l.items)
