-- The first refusal for equal values in one of the changes that are left is the first for those in all changes.
use Rattle.std.proofs.Common.{◌≡◌, map, drop}
use Rattle.std.specs.List.{flat_map}
use Rattle.x5_model.specs.Statics as model
use Rattle.x5_model.specs.Words.{first_of}
use Rattle.x5_ops.specs.RequestViews.{change_view}
use Rattle.x5_ops.proofs.statics.changes_repeats.Given as goal

abbrev pub invariant-loop-change : goal.invariant-loop-change
invariant-loop-change l =
    first_of (flat_map model.change_repeats (map change_view (drop l.change-index l.changes))) ≡ first_of (flat_map model.change_repeats (map change_view l.changes))
