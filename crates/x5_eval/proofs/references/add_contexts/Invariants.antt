-- Those added so far, with what is left to add, are all, put in order.
use Rattle.std.proofs.Common.{◌++◌, drop, length, map}
use Rattle.std.specs.List.{flat_map}
use Rattle.x5_ops.specs.ReferenceViews.{chained_view, reference_view}
use Rattle.x5_ops.specs.RequestViews.{subset_view}
use Rattle.x5_holdings.specs.State.{held_view, holdings_view}
use Rattle.x5_eval.specs.Rest.{AreAlike, AreKnown, context_needs}
use Rattle.x5_eval.proofs.references.add_contexts.Given as goal

abbrev pub invariant-loop-held : goal.invariant-loop-held
invariant-loop-held l = record {
  so_far : AreAlike (map (reference_view l.names) l.found ++ flat_map (context_needs (holdings_view l.state) (chained_view l.names l.message) (subset_view l.subset)) (map (λ c. held_view c.now) (drop l.held-index l.contexts)))
      (map (reference_view l.names) l.initial.found ++ flat_map (context_needs (holdings_view l.state) (chained_view l.names l.message) (subset_view l.subset)) (map (λ c. held_view c.now) l.contexts));
  known : AreKnown (length l.names) (flat_map (context_needs (holdings_view l.state) (chained_view l.names l.message) (subset_view l.subset)) (map (λ c. held_view c.now) (drop l.held-index l.contexts)));
}
