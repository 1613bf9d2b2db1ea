-- Those found so far, with those that the rest has, are those of the nodes.
use Rattle.std.proofs.Common.{◌≡◌, ◌++◌, drop}
use Rattle.std.specs.List.{filter}
use Rattle.x5_match.specs.FilterView.{filter_view}
use Rattle.x5_eval.specs.Scopes.{is_selected}
use Rattle.x5_eval.proofs.scope.selected.Given as goal

abbrev pub invariant-loop-node : goal.invariant-loop-node
invariant-loop-node l =
    l.found.items ++ filter (is_selected l.tree.nodes (filter_view l.wanted)) (drop l.node-index l.nodes)
    ≡ filter (is_selected l.tree.nodes (filter_view l.wanted)) l.nodes
