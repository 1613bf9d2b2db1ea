-- The outcome is left out where all was explored.
use Rattle.std.proofs.Common.{refl, sym, ◌∙◌}
use Rattle.x5_model_messages.specs.Replies as replies
use Rattle.x5_model_octets.specs.Elements as elements
use Rattle.x5_model_octets.specs.Elements.{canonical_all}
use Rattle.x5_types.specs.NodeView.{node_view}
use Rattle.x5_dapreply.specs.ReplyViews.{told_outcome}
use Rattle.x5_direct_writer.proofs.Wholes.{passed_on}
use Rattle.x5_dapreply.proofs.Founding.{left_out, outcome_elements, outcome_fails, outcome_put}
use Rattle.x5_dapreply.proofs.found.put_outcome.Goals as goal

pub returns-then-is_whole : goal.returns-then-is_whole
returns-then-is_whole c =
    let n = replies.outcome_node (told_outcome c.args.outcome.now) in
    (elements.Nil, left_out n (sym c.is_whole.ensures ∙ c.if-is_whole.true), refl)

pub returns-in_err-write_node : goal.returns-in_err-write_node
returns-in_err-write_node c =
    let n = replies.outcome_node (told_outcome c.args.outcome.now) in
    let old = c.args.out.now in
    let new = c.write_node.new.out in
    let fault = c.in_err-write_node.field-0.0 in
    passed_on canonical_all (outcome_elements n) old new fault
    c.from_residual-in_err-write_node.result c.from_residual-in_err-write_node.ensures.1
    (outcome_fails n (node_view c.in_ok-node.node) fault old new old new c.in_ok-node.ensures
    (sym c.is_whole.ensures ∙ c.if-is_whole.false) c.in_err-write_node.ensures)

pub returns : goal.returns
returns c =
    let n = replies.outcome_node (told_outcome c.args.outcome.now) in
    outcome_put c.len-behind.result n (node_view c.in_ok-node.node) c.args.out.now c.write_node.new.out
    c.enclose.new.out c.in_ok-node.ensures (sym c.is_whole.ensures ∙ c.if-is_whole.false) c.len-behind.ensures
    c.in_ok-enclose.ensures c.in_ok-write_node.ensures
