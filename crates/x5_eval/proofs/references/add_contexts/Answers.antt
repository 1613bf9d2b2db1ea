-- One more is added.
use Rattle.std.proofs.Common.{◌++◌, Bor, length, map}
use Rattle.std.specs.List.{flat_map}
use Rattle.x5_ops.specs.ReferenceViews.{chained_view, reference_view}
use Rattle.x5_ops.specs.RequestViews.{subset_view}
use Rattle.x5_holdings.specs.State.{Kept, held_view, holdings_view}
use Rattle.x5_eval.specs.Rest.{context_needs}
use Rattle.x5_eval.proofs.Wholes.{alike_all, alike_next, next_known, others_known}
use Rattle.x5_eval.proofs.references.add_contexts.Goals as goal

pub add_context-requires-clause-known : goal.add_context-requires-clause-known
add_context-requires-clause-known c =
    next_known (context_needs (holdings_view c.args.state.now) (chained_view c.args.names.now c.args.message.now) (subset_view c.args.subset)) (λ (b : Bor Kept). held_view b.now) c.args.contexts.now c.loop-held.held-index
    (length c.args.names.now) c.held-item.result c.loop-held-test.true c.held-item.is c.loop-held.invariant.known

pub loop-held-preserved : goal.loop-held-preserved
loop-held-preserved c = record {
  so_far = alike_next (context_needs (holdings_view c.args.state.now) (chained_view c.args.names.now c.args.message.now) (subset_view c.args.subset)) (λ (b : Bor Kept). held_view b.now) c.args.contexts.now c.loop-held.held-index
      c.held-item.result c.loop-held-test.true c.held-item.is (map (reference_view c.args.names.now) c.loop-held.found) (map (reference_view c.args.names.now) c.add_context.new.found)
      (map (reference_view c.args.names.now) c.args.found.now ++ flat_map (context_needs (holdings_view c.args.state.now) (chained_view c.args.names.now c.args.message.now) (subset_view c.args.subset)) (map (λ (b : Bor Kept). held_view b.now) c.args.contexts.now))
      c.loop-held.invariant.so_far c.in_ok-add_context.ensures;
  known = others_known (context_needs (holdings_view c.args.state.now) (chained_view c.args.names.now c.args.message.now) (subset_view c.args.subset)) (λ (b : Bor Kept). held_view b.now) c.args.contexts.now c.loop-held.held-index
      (length c.args.names.now) c.held-item.result c.loop-held-test.true c.held-item.is c.loop-held.invariant.known;
}

pub returns : goal.returns
returns c =
    alike_all (context_needs (holdings_view c.args.state.now) (chained_view c.args.names.now c.args.message.now) (subset_view c.args.subset)) (λ (b : Bor Kept). held_view b.now) c.args.contexts.now c.loop-held.held-index
    (map (reference_view c.args.names.now) c.loop-held.found)
    (map (reference_view c.args.names.now) c.args.found.now ++ flat_map (context_needs (holdings_view c.args.state.now) (chained_view c.args.names.now c.args.message.now) (subset_view c.args.subset)) (map (λ (b : Bor Kept). held_view b.now) c.args.contexts.now))
    c.loop-held-test.false c.loop-held.invariant.so_far
