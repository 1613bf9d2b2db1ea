-- Those added so far, with what is left to add, are all.
use Rattle.std.proofs.Common.{◌≡◌, ◌++◌, drop, map}
use Rattle.std.specs.List.{flat_map}
use Rattle.x5_holdings.specs.State.{held_view}
use Rattle.x5_eval.specs.Rest.{at_place, own_last}
use Rattle.x5_eval.proofs.exclusions.add_owns.Given as goal

abbrev pub invariant-loop-place : goal.invariant-loop-place
invariant-loop-place l =
    l.rdns.items ++ flat_map (at_place own_last (map held_view l.state.own)) (drop l.place-index l.places)
    ≡ l.initial.rdns.items ++ flat_map (at_place own_last (map held_view l.state.own)) l.places
