-- Reading the texts that are left behind the types and values so far gives what reading all texts of an entry's
-- attributes gives.
use Rattle.std.proofs.Common.{◌≡◌, [], drop}
use Rattle.serde_json.specs.View.{items_view}
use Rattle.x5_model_world.specs.EntryTexts as model
use Rattle.x5_world_members.specs.Paths.{path_of}
use Rattle.x5_world_members.proofs.given.given_behind.Given as goal

abbrev pub invariant-loop-i : goal.invariant-loop-i
invariant-loop-i l =
    model.given_behind (path_of l.place) l.i l.given.items (items_view (drop l.i l.items)) ≡ model.given_behind (path_of l.place) 0 [] (items_view l.items)
