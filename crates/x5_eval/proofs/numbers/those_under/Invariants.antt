-- Those found so far, with those that the rest has, are those of the numbers.
use Rattle.std.proofs.Common.{◌≡◌, ◌++◌, drop}
use Rattle.std.specs.List.{filter}
use Rattle.x5_model.specs.Values.{key_of}
use Rattle.x5_ops.specs.RequestViews.{subset_view}
use Rattle.x5_holdings.specs.State.{holdings_view}
use Rattle.x5_eval.specs.Numbers.{held_number, is_under}
use Rattle.x5_eval.proofs.numbers.those_under.Given as goal

abbrev pub invariant-loop-number : goal.invariant-loop-number
invariant-loop-number l =
    l.found.items
    ++ filter (is_under (holdings_view l.state) (key_of l.base) (subset_view l.subset) (held_number (holdings_view l.state) l.above))
    (drop l.number-index l.numbers)
    ≡ filter (is_under (holdings_view l.state) (key_of l.base) (subset_view l.subset) (held_number (holdings_view l.state) l.above))
    l.numbers
