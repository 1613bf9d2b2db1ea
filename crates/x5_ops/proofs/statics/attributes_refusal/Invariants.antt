-- The first refusal of the types and values of the attributes that are left is the first of all attributes.
use Rattle.std.proofs.Common.{◌≡◌, map, drop}
use Rattle.std.specs.List.{flat_map}
use Rattle.x5_model.specs.Statics as model
use Rattle.x5_model.specs.Words.{first_of}
use Rattle.x5_ops.specs.RequestViews.{attribute_view}
use Rattle.x5_ops.proofs.statics.attributes_refusal.Given as goal

abbrev pub invariant-loop-attribute : goal.invariant-loop-attribute
invariant-loop-attribute l =
    first_of (flat_map model.value_refusals (map attribute_view (drop l.attribute-index l.attributes))) ≡ first_of (flat_map model.value_refusals (map attribute_view l.attributes))
