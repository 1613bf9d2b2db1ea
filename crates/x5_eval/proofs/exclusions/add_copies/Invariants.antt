-- Those added so far, with what is left to add, are all.
use Rattle.std.proofs.Common.{◌≡◌, ◌++◌, drop, map}
use Rattle.std.specs.List.{flat_map}
use Rattle.x5_ops.specs.RequestViews.{request_view}
use Rattle.x5_holdings.specs.State.{copy_view, holdings_view}
use Rattle.x5_eval.specs.Rest.{at_place, copy_last}
use Rattle.x5_eval.proofs.exclusions.add_copies.Given as goal

abbrev pub invariant-loop-place : goal.invariant-loop-place
invariant-loop-place l =
    l.rdns.items ++ flat_map (at_place (copy_last (request_view l.request) (holdings_view l.state)) (map copy_view l.state.copies)) (drop l.place-index l.places)
    ≡ l.initial.rdns.items ++ flat_map (at_place (copy_last (request_view l.request) (holdings_view l.state)) (map copy_view l.state.copies)) l.places
