-- Members of a filter, one by one.
use Rattle.std.proofs.Common.{rules, ap, map}
use Rattle.x5_model_messages.specs.FilterTerms as terms
use Rattle.x5_types.specs.NodeView.{node_view}
use Rattle.x5_dapber.proofs.FilterMembers.{and_said, or_said, members_are_filters, parts_of}
use Rattle.x5_dapber.proofs.read_filters.+filters.Goals as goal

pub filter_in-returns-in_ok-filters_in-in-1 : goal.filter_in-returns-in_ok-filters_in-in-1
filter_in-returns-in_ok-filters_in-in-1 t c =
    let e = and_said c.in_ok-filters_in-in-1.field-0 (node_view c.deref-in-1.result.now) c.in_ok-filters_in-in-1.ensures.members in
    record { filter = search (rules, e) }

pub filter_in-returns-in_ok-filters_in-in-2 : goal.filter_in-returns-in_ok-filters_in-in-2
filter_in-returns-in_ok-filters_in-in-2 t c =
    let e = or_said c.in_ok-filters_in-in-2.field-0 (node_view c.deref-in-2.result.now) c.in_ok-filters_in-in-2.ensures.members in
    record { filter = search (rules, e) }

pub filters_in-loop-node-init : goal.filters_in-loop-node-init
filters_in-loop-node-init t c = record {
  so_far = rw c.new-members.ensures.items
      (ap (map terms.filter_in) (parts_of c.in-Many.nodes c.args.node.now c.deref-node-items.result.now c.in-Many.is c.deref-node-items.ensures.value));
  said = members_are_filters c.in-Many.nodes c.args.node.now c.deref-node-items.result.now c.requires.said c.in-Many.is
      c.deref-node-items.ensures.value;
}
