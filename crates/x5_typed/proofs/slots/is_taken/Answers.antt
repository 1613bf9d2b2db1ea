-- What stands in the slot, through the view.
use Rattle.std.proofs.Common.{◌≡◌, ◌+◌, ℕ, List, ◌∷◌, map, drop, slice_index_or}
use Rattle.std.specs.declared.option.Option.{Option}
use Rattle.std.specs.declared.option.Option.TheVariants.{None, Some}
use Rattle.std.specs.Option.{is_some}
use Rattle.x5_model_typed.specs.Nodes as nodes
use Rattle.x5_types.specs.declared.node.Node.{Node}
use Rattle.x5_typed.proofs.Lists.{mapped_more}
use Rattle.x5_typed.proofs.slots.is_taken.Goals as goal
use Rattle.x5_types.specs.NodeView.{node_view, option_view}
use Rattle.x5_typed.specs.StateView.{SlotIs}

slot : (o : Option Node) (i : ℕ) (slots : List (Option nodes.Node))
    → drop i slots ≡ option_view o ∷ drop (i + 1) slots → SlotIs (is_some o) i slots
slot None i slots e = e
slot (Some n) i slots e = (node_view n, e)

pub returns : goal.returns
returns c = rw (c.is_some.ensures, c.index-slots-i.is)
    (slot (slice_index_or c.args.slots.now c.args.i c.index-slots-i.result) c.args.i
    (map option_view c.args.slots.now) (mapped_more option_view c.args.slots.now c.args.i c.index-slots-i.result
    c.requires))
