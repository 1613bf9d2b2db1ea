-- What is asked for by subordinate references, and then what is by NSSRs.
use Rattle.std.proofs.Common.{length, map}
use Rattle.x5_ops.specs.ReferenceViews.{chained_view, reference_view}
use Rattle.x5_ops.specs.KnowledgeViews.{specific_view}
use Rattle.x5_ops.specs.RequestViews.{subset_view}
use Rattle.x5_model_run.specs.Needs.{below_needs, wide_needs}
use Rattle.x5_holdings.specs.State.{held_view, holdings_view}
use Rattle.x5_eval.proofs.Adding.{on_ok}
use Rattle.x5_eval.proofs.Wholes.{alike_twice, left_known, right_known}
use Rattle.x5_eval.proofs.references.add_context.Goals as goal

pub add_below-requires-clause-known : goal.add_below-requires-clause-known
add_below-requires-clause-known c =
    left_known (length c.args.names.now) (below_needs (holdings_view c.args.state.now) (chained_view c.args.names.now c.args.message.now) (subset_view c.args.subset) (map specific_view c.args.held.now.subordinate))
    (wide_needs (holdings_view c.args.state.now) (chained_view c.args.names.now c.args.message.now) (subset_view c.args.subset) (held_view c.args.held.now)) c.requires.known

pub add_wide-requires-clause-known : goal.add_wide-requires-clause-known
add_wide-requires-clause-known c =
    right_known (length c.args.names.now) (below_needs (holdings_view c.args.state.now) (chained_view c.args.names.now c.args.message.now) (subset_view c.args.subset) (map specific_view c.args.held.now.subordinate))
    (wide_needs (holdings_view c.args.state.now) (chained_view c.args.names.now c.args.message.now) (subset_view c.args.subset) (held_view c.args.held.now)) c.requires.known

pub returns : goal.returns
returns c =
    on_ok _ _ (λ e. alike_twice (map (reference_view c.args.names.now) c.args.found.now) (map (reference_view c.args.names.now) c.add_below.new.found)
    (map (reference_view c.args.names.now) c.add_wide.new.found)
    (below_needs (holdings_view c.args.state.now) (chained_view c.args.names.now c.args.message.now) (subset_view c.args.subset) (map specific_view c.args.held.now.subordinate))
    (wide_needs (holdings_view c.args.state.now) (chained_view c.args.names.now c.args.message.now) (subset_view c.args.subset) (held_view c.args.held.now)) c.in_ok-add_below.ensures e)
    c.add_wide.result c.add_wide.ensures
