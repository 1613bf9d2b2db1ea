-- The first refusal of the attributes left, for equal values or the type of one that comes before, passed or left, is
-- the first of all attributes.
use Rattle.std.proofs.Common.{◌≡◌, [], map, take, drop}
use Rattle.x5_model.specs.Statics as model
use Rattle.x5_model.specs.Words.{first_of}
use Rattle.x5_ops.specs.RequestViews.{attribute_view}
use Rattle.x5_ops.proofs.Repeats.{kinds_before}
use Rattle.x5_ops.proofs.statics.attribute_repeats.Given as goal

abbrev pub invariant-loop-i : goal.invariant-loop-i
invariant-loop-i l =
    first_of (model.attribute_repeats (kinds_before (take l.i l.attributes) []) (map attribute_view (drop l.i l.attributes))) ≡ first_of (model.attribute_repeats [] (map attribute_view l.attributes))
