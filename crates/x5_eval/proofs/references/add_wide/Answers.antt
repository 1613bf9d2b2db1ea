-- The places are those of all NSSRs at or below the base.
use Rattle.std.proofs.Common.{◌∙◌, ap, length, map, refl}
use Rattle.x5_model.specs.Values.{Name, key_of}
use Rattle.x5_holdings.specs.Runs.{run_of}
use Rattle.x5_ops.specs.ReferenceViews.{chained_view, reference_view}
use Rattle.x5_ops.specs.RequestViews.{subset_view}
use Rattle.x5_holdings.specs.State.{held_view, holdings_view}
use Rattle.x5_eval.specs.Numbers.{own_place}
use Rattle.x5_eval.proofs.Adding.{on_ok}
use Rattle.x5_eval.proofs.Resting.{wide_found, wide_there}
use Rattle.x5_eval.proofs.references.add_wide.Goals as goal

pub add_nssrs-requires-clause-known : goal.add_nssrs-requires-clause-known
add_nssrs-requires-clause-known c =
    wide_there (holdings_view c.args.state.now) (chained_view c.args.names.now c.args.message.now) (subset_view c.args.subset)
    (held_view c.args.held.now) c.args.held.now.nssrs refl c.deref.result.now
    (c.deref.ensures.value ∙ c.in_ok-places.ensures ∙ ap (map own_place) (c.nssrs_under.ensures
    ∙ ap (λ (n : Name). run_of (map (λ k. key_of k.at) c.args.held.now.nssrs) (key_of n)) c.rdns.ensures))
    (length c.args.names.now) c.requires.known

pub returns : goal.returns
returns c =
    on_ok _ _ (λ e. wide_found (holdings_view c.args.state.now) (chained_view c.args.names.now c.args.message.now) (subset_view c.args.subset)
    (held_view c.args.held.now) c.args.held.now.nssrs refl c.deref.result.now
    (c.deref.ensures.value ∙ c.in_ok-places.ensures ∙ ap (map own_place) (c.nssrs_under.ensures
    ∙ ap (λ (n : Name). run_of (map (λ k. key_of k.at) c.args.held.now.nssrs) (key_of n)) c.rdns.ensures))
    (map (reference_view c.args.names.now) c.args.found.now) (map (reference_view c.args.names.now) c.add_nssrs.new.found) e)
    c.add_nssrs.result c.add_nssrs.ensures
