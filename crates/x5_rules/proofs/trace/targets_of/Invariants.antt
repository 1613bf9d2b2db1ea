-- The names of the items so far, and then those of the others.
use Rattle.std.proofs.Common.{◌≡◌, ◌++◌, drop, map}
use Rattle.x5_types.specs.NodeView.{node_view}
use Rattle.x5_rules.specs.Items.{target_in}
use Rattle.x5_rules.proofs.trace.targets_of.Given as goal

abbrev pub invariant-loop-item : goal.invariant-loop-item
invariant-loop-item l = l.targets.items ++ map target_in (map node_view (drop l.item-index l.items))
    ≡ map target_in (map node_view l.items)
