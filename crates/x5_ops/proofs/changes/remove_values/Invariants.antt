-- Removing the values that are left from the entry so far gives what removing all of them from the given entry gives.
use Rattle.std.proofs.Common.{◌≡◌, drop}
use Rattle.x5_model.specs.Changes as model
use Rattle.x5_model.specs.Values.{Known}
use Rattle.x5_ops.specs.RefusalView.{given_values}
use Rattle.x5_ops.proofs.changes.remove_values.Given as goal

abbrev pub invariant-loop-value : goal.invariant-loop-value
invariant-loop-value l =
    model.each_value (model.drop_old l.kind) (given_values (Known l.kind) (drop l.value-index l.values)) l.entry ≡ model.each_value (model.drop_old l.kind) (given_values (Known l.kind) l.values) l.fn.entry
