-- There is an empty slot for each component so far.
use Rattle.std.proofs.Common.{◌≡◌, map, take}
use Rattle.x5_typed.proofs.state.empty.Given as goal
use Rattle.x5_types.specs.NodeView.{option_view}
use Rattle.x5_typed.specs.StateView.{no_node}

abbrev pub invariant-loop-component : goal.invariant-loop-component
invariant-loop-component l = map option_view l.slots.items ≡ map no_node (take l._component-index l.components)
