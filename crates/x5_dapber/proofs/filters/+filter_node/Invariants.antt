-- The members so far, and then the others.
use Rattle.std.proofs.Common.{◌≡◌, ◌++◌, drop, map}
use Rattle.x5_match.specs.FilterView.{filter_view}
use Rattle.x5_model_messages.specs.FilterTerms.{filter_node}
use Rattle.x5_types.specs.NodeView.{node_view}
use Rattle.x5_dapber.proofs.filters.+filter_node.Given as goal

abbrev pub invariant-loop-member : goal.invariant-loop-member
invariant-loop-member l =
    map node_view l.nodes.items ++ map (λ f. filter_node (filter_view f)) (drop l.member-index l.member-items)
    ≡ map (λ f. filter_node (filter_view f)) l.member-items

abbrev pub invariant-loop-member-2 : goal.invariant-loop-member-2
invariant-loop-member-2 l =
    map node_view l.nodes.items ++ map (λ f. filter_node (filter_view f)) (drop l.member-index l.member-items)
    ≡ map (λ f. filter_node (filter_view f)) l.member-items
