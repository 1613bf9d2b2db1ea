-- Those that aren't left are in order.
use Rattle.std.proofs.Common.{◌≡◌, drop, map, length, take}
use Rattle.x5_model.specs.Words.{sorted}
use Rattle.x5_model_typed.specs.Rules as rules
use Rattle.x5_types.specs.NodeView.{node_view}
use Rattle.x5_rules.proofs.pair.in_order.Given as goal

abbrev pub invariant-loop-node : goal.invariant-loop-node
invariant-loop-node l = record {
  left : l.nodes.items ≡ take (length l.nodes.items) l.fn.nodes.items;
  same : map node_view l.done.items ≡ sorted rules.pair_below
      (map node_view (drop (length l.nodes.items) l.fn.nodes.items));
}

abbrev pub decreases-loop-node : goal.decreases-loop-node
decreases-loop-node l = length l.nodes.items
