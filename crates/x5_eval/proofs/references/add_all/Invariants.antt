-- Those added so far, with what is left to add, are all.
use Rattle.std.proofs.Common.{◌++◌, drop, length, map}
use Rattle.std.specs.List.{flat_map}
use Rattle.x5_ops.specs.KnowledgeViews.{specific_view}
use Rattle.x5_ops.specs.ReferenceViews.{chained_view, reference_view}
use Rattle.x5_ops.specs.RequestViews.{subset_view}
use Rattle.x5_holdings.specs.State.{holdings_view}
use Rattle.x5_eval.specs.Rest.{at_place, pin_needs}
use Rattle.x5_eval.proofs.Adding.{Adds}
use Rattle.x5_eval.proofs.references.add_all.Given as goal

abbrev pub invariant-loop-place : goal.invariant-loop-place
invariant-loop-place l =
    Adds (length l.names) (at_place (pin_needs (holdings_view l.state) (chained_view l.names l.message) (subset_view l.subset)) (map specific_view l.references))
    (map (reference_view l.names) l.initial.found ++ flat_map (at_place (pin_needs (holdings_view l.state) (chained_view l.names l.message) (subset_view l.subset)) (map specific_view l.references)) l.places)
    (map (reference_view l.names) l.found) (drop l.place-index l.places)
