-- Those added so far, with what is left to add, are all.
use Rattle.std.proofs.Common.{◌≡◌, ◌++◌, drop, map}
use Rattle.std.specs.List.{flat_map}
use Rattle.x5_ops.specs.KnowledgeViews.{specific_view}
use Rattle.x5_eval.specs.Rest.{at_place, pin_last}
use Rattle.x5_eval.proofs.exclusions.add_pins.Given as goal

abbrev pub invariant-loop-place : goal.invariant-loop-place
invariant-loop-place l =
    l.rdns.items ++ flat_map (at_place pin_last (map specific_view l.references)) (drop l.place-index l.places)
    ≡ l.initial.rdns.items ++ flat_map (at_place pin_last (map specific_view l.references)) l.places
