-- What stands at the place, if something does.
use Rattle.std.proofs.Common.{◌++◌, ◌∙◌, List, ap, length, map, subst, sym}
use Rattle.std.specs.List.{slice_get}
use Rattle.x5_ops.specs.declared.knowledge.Nssr.{Nssr}
use Rattle.x5_model.specs.References as model
use Rattle.x5_ops.specs.KnowledgeViews.{nssr_view}
use Rattle.x5_ops.specs.ReferenceViews.{chained_view, reference_view}
use Rattle.x5_ops.specs.RequestViews.{subset_view}
use Rattle.x5_holdings.specs.State.{held_view, holdings_view}
use Rattle.x5_holdings.proofs.Holding.{none_got, some_got}
use Rattle.x5_eval.specs.Rest.{AreKnown, nssr_needs}
use Rattle.x5_eval.proofs.Adding.{no_more, none_at, on_ok, some_at}
use Rattle.x5_eval.proofs.references.add_nssr_at.Goals as goal

pub add_nssr-requires-clause-known : goal.add_nssr-requires-clause-known
add_nssr-requires-clause-known c =
    subst (λ (l : List model.Reference). AreKnown (length c.args.names.now) l)
    (some_at (nssr_needs (holdings_view c.args.state.now) (chained_view c.args.names.now c.args.message.now) (subset_view c.args.subset) (held_view c.args.held.now)) nssr_view c.args.held.now.nssrs c.args.place c.in-Some.nssr.now
    (ap (λ (l : List Nssr). slice_get l c.args.place) (sym c.nssrs.ensures)
    ∙ some_got c.nssrs.result.now c.args.place c.get.result c.in-Some.nssr c.get.ensures.lookup c.in-Some.is)) c.requires.known

pub returns-in-Some : goal.returns-in-Some
returns-in-Some c =
    on_ok _ _ (λ e. e ∙ ap (λ (l : List model.Reference). map (reference_view c.args.names.now) c.args.found.now ++ l) (sym
    (some_at (nssr_needs (holdings_view c.args.state.now) (chained_view c.args.names.now c.args.message.now) (subset_view c.args.subset) (held_view c.args.held.now)) nssr_view c.args.held.now.nssrs c.args.place c.in-Some.nssr.now
    (ap (λ (l : List Nssr). slice_get l c.args.place) (sym c.nssrs.ensures)
    ∙ some_got c.nssrs.result.now c.args.place c.get.result c.in-Some.nssr c.get.ensures.lookup c.in-Some.is))))
    c.add_nssr.result c.add_nssr.ensures

pub returns-in-None : goal.returns-in-None
returns-in-None c =
    no_more (map (reference_view c.args.names.now) c.args.found.now) _
    (none_at (nssr_needs (holdings_view c.args.state.now) (chained_view c.args.names.now c.args.message.now) (subset_view c.args.subset) (held_view c.args.held.now)) nssr_view c.args.held.now.nssrs c.args.place
    (ap (λ (l : List Nssr). slice_get l c.args.place) (sym c.nssrs.ensures)
    ∙ none_got c.nssrs.result.now c.args.place c.get.result c.get.ensures.lookup c.in-None.is))
