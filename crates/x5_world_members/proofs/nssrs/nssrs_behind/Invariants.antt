-- Reading the objects left behind the non-specific subordinate references so far gives what reading the whole list of
-- them gives.
use Rattle.std.proofs.Common.{◌≡◌, drop}
use Rattle.serde_json.specs.View.{items_view}
use Rattle.x5_model_world.specs.ContextText as model
use Rattle.x5_world_members.specs.Paths.{path_of}
use Rattle.x5_world_members.proofs.nssrs.nssrs_behind.Given as goal

abbrev pub invariant-loop-i : goal.invariant-loop-i
invariant-loop-i l =
    model.nssrs_behind l.names (path_of l.place) l.i l.entries l.nssrs (items_view (drop l.i l.items))
    ≡ model.nssrs_behind l.names (path_of l.place) 0 l.entries l.fn.before (items_view l.items)
