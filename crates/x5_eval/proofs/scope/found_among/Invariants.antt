-- Those found so far, with those that the rest has, are those of the numbers.
use Rattle.std.proofs.Common.{◌≡◌, ◌++◌, drop, map}
use Rattle.std.specs.List.{filter}
use Rattle.x5_model.specs.Values.{key_of}
use Rattle.x5_match.specs.FilterView.{filter_view}
use Rattle.x5_ops.specs.RequestViews.{subset_view}
use Rattle.x5_eval.specs.Scopes.{is_found_at, as_id}
use Rattle.x5_eval.proofs.scope.found_among.Given as goal

abbrev pub invariant-loop-number : goal.invariant-loop-number
invariant-loop-number l =
    l.found.items ++ filter (is_found_at l.tree.nodes (subset_view l.subset) (key_of l.base) (filter_view l.wanted)) (map
    as_id (drop l.number-index l.numbers))
    ≡ filter (is_found_at l.tree.nodes (subset_view l.subset) (key_of l.base) (filter_view l.wanted)) (map as_id l.numbers)
