-- Those that aren't left are in order, and are all of the kind, each once.
use Rattle.std.proofs.Common.{◌≡◌, drop, map, length, take, true}
use Rattle.x5_model.specs.Words.{sorted}
use Rattle.x5_model_typed.specs.Rules as rules
use Rattle.x5_types.specs.NodeView.{node_view}
use Rattle.x5_rules.proofs.Once.{each_once}
use Rattle.x5_rules.proofs.entry.in_order.Given as goal

abbrev pub invariant-loop-value : goal.invariant-loop-value
invariant-loop-value l = record {
  left : l.values.items ≡ take (length l.values.items) l.fn.values.items;
  same : map node_view l.done.items ≡ sorted (rules.value_below l.kind)
      (map node_view (drop (length l.values.items) l.fn.values.items));
  normals : l.normals.items ≡ map (rules.normal_in l.kind) (map node_view l.done.items);
  once : each_once (rules.is_of_type l.kind) (rules.same_value l.kind)
      (map node_view (drop (length l.values.items) l.fn.values.items)) ≡ true;
}

abbrev pub decreases-loop-value : goal.decreases-loop-value
decreases-loop-value l = length l.values.items
