-- A SET begins with a slot for each component.
use Rattle.x5_types.specs.FormView.{nowhere}
use Rattle.x5_typed.proofs.Awaiting.{state_at_first}
use Rattle.x5_typed.proofs.state.State.new.Goals as goal

pub returns-clause-kept : goal.returns-clause-kept
returns-clause-kept c =
    state_at_first c.args.content c.args.at c.components_in-left.result c.in_ok-nodes.nodes c.in_ok-slots.slots
    (c.in_ok-slots.ensures nowhere) (c.components_in-left.ensures nowhere)
