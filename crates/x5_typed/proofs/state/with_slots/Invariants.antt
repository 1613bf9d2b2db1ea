-- The values so far, and those of the components that are left, are all.
use Rattle.std.proofs.Common.{◌≡◌, ◌++◌, drop, map, length}
use Rattle.x5_model_typed.specs.Judged as judged
use Rattle.x5_types.specs.NodeView.{node_view, option_view}
use Rattle.x5_typed.specs.StateView.{left_view}
use Rattle.x5_typed.proofs.state.with_slots.Given as goal

abbrev pub invariant-loop-i : goal.invariant-loop-i
invariant-loop-i l = record {
  count : length l.slots.items ≡ length (left_view l.left);
  same :
      map node_view l.nodes.items ++ judged.filled (drop l.i (left_view l.left))
      (drop l.i (map option_view l.slots.items))
      ≡ judged.filled (left_view l.left) (map option_view l.fn.slots.items);
}
