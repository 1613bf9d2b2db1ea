-- The numbers so far, with those that the rest has, are those of the places.
use Rattle.std.proofs.Common.{◌≡◌, ◌++◌, ◌+◌, drop, length, map}
use Rattle.std.specs.List.{filter}
use Rattle.x5_ops.specs.RequestViews.{request_view}
use Rattle.x5_holdings.specs.State.{holdings_view}
use Rattle.x5_eval.specs.Numbers.{copy_number, counts}
use Rattle.x5_eval.proofs.numbers.counted.Given as goal

abbrev pub invariant-loop-place : goal.invariant-loop-place
invariant-loop-place l =
    l.numbers.items
    ++ filter (λ n. counts (request_view l.request) (holdings_view l.state) (copy_number (holdings_view l.state) n))
    (map (λ place. length l.state.own + place) (drop l.place-index l.places))
    ≡ filter (λ n. counts (request_view l.request) (holdings_view l.state) (copy_number (holdings_view l.state) n))
    (map (λ place. length l.state.own + place) l.places)
