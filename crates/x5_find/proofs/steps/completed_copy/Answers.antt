-- The copy where it may be used, and else its supplier.
use Rattle.std.proofs.Common.{◌≡◌, ℕ, List, [], ◌∷◌, get_or, Some, sym, subst, ap, ◌∙◌}
use Rattle.std.specs.Option.{option_map}
use Rattle.x5_model.specs.Words.{first_of}
use Rattle.x5_model.specs.References.{Done, Supplier}
use Rattle.x5_model_run.specs.Needs.{reference}
use Rattle.x5_model_serve.specs.Finding as finding
use Rattle.x5_ops.specs.RequestViews.{request_view}
use Rattle.x5_ops.specs.ReferenceViews.{chained_view, progress_view}
use Rattle.x5_dse.specs.Linked.{Nodes, id_of}
use Rattle.x5_holdings.specs.State.{CopyKept, copy_view}
use Rattle.x5_holdings.proofs.Holding.{got, within}
use Rattle.x5_find.proofs.Ends.{done_is, done_in_copy, done_supplier, same_prefix}
use Rattle.x5_find.proofs.steps.completed_copy.Goals as goal

pub returns-in-Some : goal.returns-in-Some
returns-in-Some c = λ names.
    done_in_copy c.args.state.now (chained_view names c.args.message.now)
    (done_is (progress_view c.args.message.now.progress) c.requires.done) c.requires.specific c.requires.fits
    c.requires.no_own c.args.copy c.index-copies-copy.result
    (got c.args.state.now.copies c.args.copy c.index-copies-copy.result
    (within c.args.state.now.copies c.args.copy c.requires.place.1)
    (c.index-copies-copy.is ∙ ap (λ (l : List CopyKept). get_or l c.args.copy c.index-copies-copy.result)
    c.copies.ensures.copies))
    (c.requires.place.0 ∙ ap (option_map copy_view)
    (got c.args.state.now.copies c.args.copy c.index-copies-copy.result
    (within c.args.state.now.copies c.args.copy c.requires.place.1)
    (c.index-copies-copy.is ∙ ap (λ (l : List CopyKept). get_or l c.args.copy c.index-copies-copy.result)
    c.copies.ensures.copies))) c.copies.ensures.once c.in-Some.held.now c.top.result c.in-Some.ensures
    c.tree.ensures.kept
    (same_prefix (request_view c.args.message.now.request) c.index-copies-copy.result c.in-Some.held.now
    c.in-Some.ensures c.prefix-prefix.ensures.brought)
    (subst (λ (n : Nodes). option_map id_of (first_of n.nodes) ≡ Some c.top.result) c.tree.ensures.nodes c.top.ensures)

pub returns-in-None : goal.returns-in-None
returns-in-None c = λ names.
    done_supplier c.args.state.now (chained_view names c.args.message.now)
    (done_is (progress_view c.args.message.now.progress) c.requires.done) c.requires.specific c.requires.fits
    c.requires.no_own c.args.copy c.index-copies-copy.result
    (got c.args.state.now.copies c.args.copy c.index-copies-copy.result
    (within c.args.state.now.copies c.args.copy c.requires.place.1)
    (c.index-copies-copy.is ∙ ap (λ (l : List CopyKept). get_or l c.args.copy c.index-copies-copy.result)
    c.copies.ensures.copies))
    (c.requires.place.0 ∙ ap (option_map copy_view)
    (got c.args.state.now.copies c.args.copy c.index-copies-copy.result
    (within c.args.state.now.copies c.args.copy c.requires.place.1)
    (c.index-copies-copy.is ∙ ap (λ (l : List CopyKept). get_or l c.args.copy c.index-copies-copy.result)
    c.copies.ensures.copies))) c.copies.ensures.once c.in-None.ensures
    ∙ ap (λ (a : ℕ). finding.Onward (reference c.args.message.now.target Done Supplier (a ∷ [])))
    (sym c.supplier.ensures)
