-- Where the walk begins, and what it comes to from there.
use Rattle.std.proofs.Common.{ℕ, List, sym, subst}
use Rattle.x5_model_run.specs.Needs.{begins_at}
use Rattle.x5_ops.specs.ReferenceViews.{chained_view}
use Rattle.x5_ops.specs.RequestViews.{request_view, subset_view}
use Rattle.x5_holdings.specs.State.{holdings_view}
use Rattle.x5_eval.specs.Walks.{Begins}
use Rattle.x5_eval.proofs.Parting.{asks}
use Rattle.x5_eval.proofs.evaluating.evaluate.Goals as goal

pub unreachable-requires : goal.unreachable-requires
unreachable-requires c = asks (chained_view c.args.names.now c.args.message.now) c.requires.query (c.in_default.ensures c.args.names.now)

pub part_from-requires-clause-begins : goal.part_from-requires-clause-begins
part_from-requires-clause-begins c = λ names.
    let h = holdings_view c.args.state.now in
    subst (λ (l : List ℕ). Begins (request_view c.args.message.now.request) h (begins_at h (chained_view names c.args.message.now) (subset_view c.in-Some.subset)) l)
    (sym c.deref.ensures.value) (c.in_ok-begins.ensures names)
