-- The places are those of the pins that may be in the subset.
use Rattle.std.proofs.Common.{◌∙◌, length, map}
use Rattle.x5_ops.specs.ReferenceViews.{chained_view, reference_view}
use Rattle.x5_ops.specs.RequestViews.{subset_view}
use Rattle.x5_holdings.specs.State.{holdings_view}
use Rattle.x5_eval.proofs.Adding.{on_ok}
use Rattle.x5_eval.proofs.Resting.{below_found, below_there}
use Rattle.x5_eval.proofs.references.add_below.Goals as goal

pub add_all-requires-clause-known : goal.add_all-requires-clause-known
add_all-requires-clause-known c =
    below_there (holdings_view c.args.state.now) (chained_view c.args.names.now c.args.message.now) (subset_view c.args.subset)
    c.args.held.now.subordinate c.subordinate-references.result.now c.subordinate-references.ensures c.deref.result.now
    (length c.args.names.now) (c.deref.ensures.value ∙ c.in_ok-places.ensures) c.requires.known

pub returns : goal.returns
returns c =
    on_ok _ _ (λ e. below_found (holdings_view c.args.state.now) (chained_view c.args.names.now c.args.message.now) (subset_view c.args.subset)
    c.args.held.now.subordinate c.subordinate-references.result.now c.subordinate-references.ensures c.deref.result.now
    (map (reference_view c.args.names.now) c.args.found.now) (map (reference_view c.args.names.now) c.add_all.new.found)
    (c.deref.ensures.value ∙ c.in_ok-places.ensures) e)
    c.add_all.result c.add_all.ensures
