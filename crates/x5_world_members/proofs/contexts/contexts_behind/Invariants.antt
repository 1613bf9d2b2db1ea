-- Reading the objects that are left behind the contexts so far gives what reading the whole list of naming contexts
-- gives.
use Rattle.std.proofs.Common.{◌≡◌, drop}
use Rattle.serde_json.specs.View.{items_view}
use Rattle.x5_model_world.specs.ContextText as model
use Rattle.x5_world_members.specs.Paths.{path_of}
use Rattle.x5_world_members.proofs.contexts.contexts_behind.Given as goal

abbrev pub invariant-loop-i : goal.invariant-loop-i
invariant-loop-i l =
    model.contexts_behind l.names (path_of l.place) l.i l.contexts (items_view (drop l.i l.items))
    ≡ model.contexts_behind l.names (path_of l.place) 0 l.fn.before (items_view l.items)
