-- What the root and the contexts ask for, put in order.
use Rattle.std.proofs.Common.{◌++◌, Bor, List, length, map, subst, ◌∙◌}
use Rattle.x5_ops.specs.ReferenceViews.{chained_view, reference_view}
use Rattle.x5_ops.specs.RequestViews.{subset_view}
use Rattle.x5_ops.specs.declared.references.Reference.{Reference}
use Rattle.x5_eval.specs.Rest.{AreAlike, root_needs}
use Rattle.x5_holdings.specs.State.{Kept, held_view, holdings_view}
use Rattle.x5_eval.proofs.Telling.{ok_by}
use Rattle.x5_eval.proofs.Wholes.{contexts_known, rest_is, root_known}
use Rattle.x5_eval.proofs.references.rest.Goals as goal

pub add_root-requires-clause-known : goal.add_root-requires-clause-known
add_root-requires-clause-known c =
    root_known (holdings_view c.args.state.now) (chained_view c.args.names.now c.args.message.now) (subset_view c.args.subset) (c.requires.subset c.args.names.now) (length c.args.names.now) c.requires.known

pub add_contexts-requires-clause-known : goal.add_contexts-requires-clause-known
add_contexts-requires-clause-known c =
    contexts_known (holdings_view c.args.state.now) (chained_view c.args.names.now c.args.message.now) (subset_view c.args.subset) (c.requires.subset c.args.names.now) (λ (x : Bor Kept). held_view x.now) c.args.contexts.now c.requires.contexts
    (length c.args.names.now) c.requires.known

pub returns : goal.returns
returns c =
    ok_by _ _ (λ all e. e c.args.names.now ∙ rest_is (holdings_view c.args.state.now) (chained_view c.args.names.now c.args.message.now) (subset_view c.args.subset) (c.requires.subset c.args.names.now) (λ (x : Bor Kept). held_view x.now) c.args.contexts.now c.requires.contexts
    (map (reference_view c.args.names.now) c.add_root.new.found) (map (reference_view c.args.names.now) c.add_contexts.new.found)
    (subst (λ (l : List Reference). AreAlike (map (reference_view c.args.names.now) c.add_root.new.found) (map (reference_view c.args.names.now) l ++ root_needs (holdings_view c.args.state.now) (chained_view c.args.names.now c.args.message.now) (subset_view c.args.subset)))
    c.new-found.ensures c.in_ok-add_root.ensures) c.in_ok-add_contexts.ensures)
    c.in_order.result c.in_order.ensures
