-- Items are compared part by part, and a node that is no item is like none.
use Rattle.std.proofs.Common.{◌≡◌, sym, ◌∙◌}
use Rattle.x5_model_typed.specs.Nodes as nodes
use Rattle.x5_types.specs.NodeView.{node_view}
use Rattle.x5_rules.proofs.Traces.{same_by}
use Rattle.x5_rules.proofs.trace.is_same_item.Goals as goal

pub returns : goal.returns
returns c =
    let i = c.in-Some.item in
    let j = c.in-Some-item_of.other in
    c.are_same.ensures
    ∙ sym (same_by (node_view c.args.item.now) (node_view c.args.other.now) (node_view i.agent.now)
    (node_view i.target.now) (node_view i.progress.now) (node_view i.wide.now) (node_view j.agent.now)
    (node_view j.target.now) (node_view j.progress.now) (node_view j.wide.now) c.in-Some.ensures
    c.in-Some-item_of.ensures c.args.target.now c.args.other_target.now c.requires.target c.requires.other)
