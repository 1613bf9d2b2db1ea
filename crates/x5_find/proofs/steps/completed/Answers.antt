-- A context that is mastered has its prefix's entry first.
use Rattle.std.proofs.Common.{◌≡◌, List, get_or, Some, sym, subst, ap, ◌∙◌}
use Rattle.std.specs.Option.{option_map}
use Rattle.x5_model.specs.Words.{first_of}
use Rattle.x5_model.specs.Values.{Name, key_of}
use Rattle.x5_model_run.specs.Holdings.{held_at}
use Rattle.x5_ops.specs.ReferenceViews.{chained_view, progress_view}
use Rattle.x5_dse.specs.Linked.{Nodes, id_of}
use Rattle.x5_holdings.specs.State.{Kept, held_view, holdings_view}
use Rattle.x5_holdings.proofs.Holding.{got, within}
use Rattle.x5_find.proofs.Ends.{done_is, done_here}
use Rattle.x5_find.proofs.steps.completed.Goals as goal

pub returns-in-Some : goal.returns-in-Some
returns-in-Some c = λ names.
    done_here c.args.state.now (chained_view names c.args.message.now)
    (done_is (progress_view c.args.message.now.progress) c.requires.done) c.requires.specific c.in-Some.own
    c.index-own-own.result c.top-node.result
    (got c.args.state.now.own c.in-Some.own c.index-own-own.result
    (within c.args.state.now.own c.in-Some.own c.in-Some.ensures.1)
    (c.index-own-own.is ∙ ap (λ (l : List Kept). get_or l c.in-Some.own c.index-own-own.result) c.own.ensures.own))
    (ap (λ (n : Name). held_at (holdings_view c.args.state.now).own (key_of n)) (sym c.rdns-prefix.ensures) ∙
    (c.in-Some.ensures.0 ∙ ap (option_map held_view)
    (got c.args.state.now.own c.in-Some.own c.index-own-own.result
    (within c.args.state.now.own c.in-Some.own c.in-Some.ensures.1)
    (c.index-own-own.is ∙ ap (λ (l : List Kept). get_or l c.in-Some.own c.index-own-own.result) c.own.ensures.own))))
    c.tree.ensures.kept
    (subst (λ (n : Nodes). option_map id_of (first_of n.nodes) ≡ Some c.top-node.result) c.tree.ensures.nodes
    c.top-node.ensures)
