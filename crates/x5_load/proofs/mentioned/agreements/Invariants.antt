-- The first supplier or consumer that is no agent in the agreements that are left is the first in the whole list of
-- agreements.
use Rattle.std.proofs.Common.{◌≡◌, drop}
use Rattle.serde_json.specs.View.{items_view}
use Rattle.x5_model_world.specs.Mentioned as model
use Rattle.x5_world_members.specs.Paths.{path_of}
use Rattle.x5_load.proofs.mentioned.agreements.Given as goal

abbrev pub invariant-loop-i : goal.invariant-loop-i
invariant-loop-i l =
    model.first_in (model.unknown_in_agreement l.names) (path_of l.place) l.i (items_view (drop l.i l.items))
    ≡ model.first_in (model.unknown_in_agreement l.names) (path_of l.place) 0 (items_view l.items)
