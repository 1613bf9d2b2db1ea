-- The lowest single-valued type with more than one value is the same among the attributes that are left as among all.
use Rattle.std.proofs.Common.{◌≡◌, drop}
use Rattle.x5_model.specs.Attributes as model
use Rattle.x5_ops.proofs.entries.doubled.Given as goal

abbrev pub invariant-loop-attribute : goal.invariant-loop-attribute
invariant-loop-attribute l = model.doubled (record { attributes = drop l.attribute-index l.attribute-items }) ≡ model.doubled l.entry
