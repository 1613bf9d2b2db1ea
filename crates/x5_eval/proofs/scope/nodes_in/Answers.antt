-- The node of the base has the base's key.
use Rattle.std.proofs.Common.{map, ◌∙◌}
use Rattle.x5_model.specs.Values.{key_of}
use Rattle.x5_ops.specs.RequestViews.{subset_view}
use Rattle.x5_dse.specs.Linked.{id_of}
use Rattle.x5_dse.proofs.Callers.{found_live}
use Rattle.x5_eval.specs.Scopes.{asked_nodes}
use Rattle.x5_eval.proofs.Telling.{ok_by}
use Rattle.x5_eval.proofs.Within.{key_found}
use Rattle.x5_eval.proofs.scope.nodes_in.Goals as goal

pub entry-requires : goal.entry-requires
entry-requires c = found_live c.tree-tree.result.now.nodes (key_of c.args.base.now) c.in-Some.node c.in-Some.ensures

pub nodes_from-requires-clause-live : goal.nodes_from-requires-clause-live
nodes_from-requires-clause-live c =
    found_live c.tree-tree.result.now.nodes (key_of c.args.base.now) c.in-Some.node c.in-Some.ensures

pub returns-in-Some : goal.returns-in-Some
returns-in-Some c =
    let key = key_found c.tree-tree.result.now.nodes (key_of c.args.base.now) c.in-Some.node c.in-Some.ensures
    c.entry.ensures.numbered in
    ok_by _ _ (λ found e. e ∙ (λ i. map id_of (asked_nodes (c.tree-tree.ensures.nodes i).nodes
    (subset_view c.args.subset) (key i)))) c.nodes_from.result c.nodes_from.ensures
