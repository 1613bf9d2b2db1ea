-- One more is added.
use Rattle.std.proofs.Common.{get_or, length, map}
use Rattle.std.proofs.lemmas.List.{get_or_default}
use Rattle.x5_ops.specs.KnowledgeViews.{nssr_view}
use Rattle.x5_ops.specs.ReferenceViews.{chained_view}
use Rattle.x5_ops.specs.RequestViews.{subset_view}
use Rattle.x5_holdings.specs.State.{held_view, holdings_view}
use Rattle.x5_eval.specs.Rest.{at_place, nssr_needs}
use Rattle.x5_eval.proofs.Adding.{adds_more, next_known}
use Rattle.x5_eval.proofs.references.add_nssrs.Goals as goal

pub add_nssr_at-requires-clause-known : goal.add_nssr_at-requires-clause-known
add_nssr_at-requires-clause-known c =
    next_known (length c.args.names.now) (at_place (nssr_needs (holdings_view c.args.state.now) (chained_view c.args.names.now c.args.message.now) (subset_view c.args.subset) (held_view c.args.held.now)) (map nssr_view c.args.held.now.nssrs))
    c.args.places.now c.loop-place.place-index (get_or c.args.places.now c.loop-place.place-index 0) c.loop-place-test.true
    (get_or_default c.args.places.now c.loop-place.place-index 0 _ c.loop-place-test.true) c.loop-place.invariant.known

pub loop-place-preserved : goal.loop-place-preserved
loop-place-preserved c =
    adds_more (length c.args.names.now) (at_place (nssr_needs (holdings_view c.args.state.now) (chained_view c.args.names.now c.args.message.now) (subset_view c.args.subset) (held_view c.args.held.now)) (map nssr_view c.args.held.now.nssrs))
    c.args.places.now c.loop-place.place-index (get_or c.args.places.now c.loop-place.place-index 0) c.loop-place-test.true
    (get_or_default c.args.places.now c.loop-place.place-index 0 _ c.loop-place-test.true) _ _ _ c.loop-place.invariant
    c.in_ok-add_nssr_at.ensures
