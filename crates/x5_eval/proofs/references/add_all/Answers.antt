-- One more is added.
use Rattle.std.proofs.Common.{get_or, length, map}
use Rattle.std.proofs.lemmas.List.{get_or_default}
use Rattle.x5_ops.specs.KnowledgeViews.{specific_view}
use Rattle.x5_ops.specs.ReferenceViews.{chained_view}
use Rattle.x5_ops.specs.RequestViews.{subset_view}
use Rattle.x5_holdings.specs.State.{holdings_view}
use Rattle.x5_eval.specs.Rest.{at_place, pin_needs}
use Rattle.x5_eval.proofs.Adding.{adds_more, next_known}
use Rattle.x5_eval.proofs.references.add_all.Goals as goal

pub add_at-requires-clause-known : goal.add_at-requires-clause-known
add_at-requires-clause-known c =
    next_known (length c.args.names.now) (at_place (pin_needs (holdings_view c.args.state.now) (chained_view c.args.names.now c.args.message.now) (subset_view c.args.subset)) (map specific_view c.args.references.now))
    c.args.places.now c.loop-place.place-index (get_or c.args.places.now c.loop-place.place-index 0) c.loop-place-test.true
    (get_or_default c.args.places.now c.loop-place.place-index 0 _ c.loop-place-test.true) c.loop-place.invariant.known

pub loop-place-preserved : goal.loop-place-preserved
loop-place-preserved c =
    adds_more (length c.args.names.now) (at_place (pin_needs (holdings_view c.args.state.now) (chained_view c.args.names.now c.args.message.now) (subset_view c.args.subset)) (map specific_view c.args.references.now))
    c.args.places.now c.loop-place.place-index (get_or c.args.places.now c.loop-place.place-index 0) c.loop-place-test.true
    (get_or_default c.args.places.now c.loop-place.place-index 0 _ c.loop-place-test.true) _ _ _ c.loop-place.invariant
    c.in_ok-add_at.ensures
