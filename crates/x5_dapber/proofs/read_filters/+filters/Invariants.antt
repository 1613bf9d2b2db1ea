-- The members so far, and then the others.
use Rattle.std.proofs.Common.{◌≡◌, ◌++◌, drop, map}
use Rattle.std.specs.Prelude.{All}
use Rattle.x5_match.specs.FilterView.{filter_view}
use Rattle.x5_model_messages.specs.FilterTerms as terms
use Rattle.x5_model_typed.specs.Nodes as nodes
use Rattle.x5_types.specs.NodeView.{node_view}
use Rattle.x5_dapber.specs.Sayable.{IsFilter}
use Rattle.x5_dapber.proofs.read_filters.+filters.Given as goal

abbrev pub decreases-filter_in : goal.decreases-filter_in
decreases-filter_in l = goal.size-filter_in l

abbrev pub decreases-filters_in : goal.decreases-filters_in
decreases-filters_in l = goal.size-filters_in l

abbrev pub invariant-filters_in-loop-node : goal.invariant-filters_in-loop-node
invariant-filters_in-loop-node l = record {
  so_far : map filter_view l.members.items ++ map terms.filter_in (map node_view (drop l.node-index l.node-items))
      ≡ map terms.filter_in (nodes.parts (node_view l.node));
  said : All (λ n. IsFilter (node_view n)) l.node-items;
}
