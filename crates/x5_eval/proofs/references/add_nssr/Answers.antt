-- The entry's, where it is there.
use Rattle.std.proofs.Common.{◌++◌, ℕ, List, Some, ap, length, map, subst, sym, ◌∙◌}
use Rattle.x5_model.specs.References as model
use Rattle.x5_ops.specs.KnowledgeViews.{nssr_view}
use Rattle.x5_ops.specs.ReferenceViews.{chained_view, reference_view}
use Rattle.x5_ops.specs.RequestViews.{subset_view}
use Rattle.x5_holdings.specs.State.{held_view, holdings_view}
use Rattle.x5_eval.specs.Rest.{AreKnown, entry_needs}
use Rattle.x5_eval.proofs.Adding.{on_ok}
use Rattle.x5_eval.proofs.Resting.{named_is}
use Rattle.x5_eval.proofs.references.add_nssr.Goals as goal

pub add_entry-requires-clause-known : goal.add_entry-requires-clause-known
add_entry-requires-clause-known c =
    subst (λ (l : List model.Reference). AreKnown (length c.args.names.now) l)
    (named_is (holdings_view c.args.state.now) (chained_view c.args.names.now c.args.message.now) (subset_view c.args.subset) (held_view c.args.held.now) (nssr_view c.args.nssr.now) (Some c.in-Some.name) (sym c.in-Some.is ∙ c.in_ok-name.ensures)
    ∙ ap (λ (l : List ℕ). entry_needs (holdings_view c.args.state.now) (chained_view c.args.names.now c.args.message.now) (subset_view c.args.subset) (held_view c.args.held.now) l c.in-Some.name) (sym c.as_slice-agents.ensures))
    c.requires.known

pub returns-in-Some : goal.returns-in-Some
returns-in-Some c =
    on_ok _ _ (λ e. e ∙ ap (λ (l : List model.Reference). map (reference_view c.args.names.now) c.args.found.now ++ l) (sym
    (named_is (holdings_view c.args.state.now) (chained_view c.args.names.now c.args.message.now) (subset_view c.args.subset) (held_view c.args.held.now) (nssr_view c.args.nssr.now) (Some c.in-Some.name) (sym c.in-Some.is ∙ c.in_ok-name.ensures)
    ∙ ap (λ (l : List ℕ). entry_needs (holdings_view c.args.state.now) (chained_view c.args.names.now c.args.message.now) (subset_view c.args.subset) (held_view c.args.held.now) l c.in-Some.name) (sym c.as_slice-agents.ensures))))
    c.add_entry.result c.add_entry.ensures
