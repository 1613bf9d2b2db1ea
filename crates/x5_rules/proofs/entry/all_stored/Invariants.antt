-- Those that aren't left are in order, and each is stored so, of a type that no other has.
use Rattle.std.proofs.Common.{◌≡◌, drop, map, length, take, true}
use Rattle.x5_model.specs.Words.{sorted}
use Rattle.x5_model_typed.specs.Rules as rules
use Rattle.x5_types.specs.NodeView.{node_view}
use Rattle.x5_rules.proofs.Once.{each_once}
use Rattle.x5_rules.proofs.entry.all_stored.Given as goal

abbrev pub invariant-loop-attribute : goal.invariant-loop-attribute
invariant-loop-attribute l = record {
  left : l.attributes.items ≡ take (length l.attributes.items) l.fn.attributes.items;
  same : map node_view l.done.items ≡ sorted rules.attribute_below
      (map rules.in_order (map node_view (drop (length l.attributes.items) l.fn.attributes.items)));
  once : each_once rules.is_stored rules.same_attribute
      (map node_view (drop (length l.attributes.items) l.fn.attributes.items)) ≡ true;
}

abbrev pub decreases-loop-attribute : goal.decreases-loop-attribute
decreases-loop-attribute l = length l.attributes.items
