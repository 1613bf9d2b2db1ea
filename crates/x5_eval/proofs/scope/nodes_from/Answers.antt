-- A key stands once.
use Rattle.std.proofs.Common.{List, map, sym, ap, ◌∙◌}
use Rattle.std.proofs.lemmas.Iterator.{items_from_drains}
use Rattle.std.proofs.lemmas.Iterator.Consumers.{YieldsList-from_first}
use Rattle.std.proofs.lemmas.List.{map-id}
use Rattle.x5_ops.specs.RequestViews.{subset_view}
use Rattle.x5_ops.specs.declared.requests.Subset.{Subset}
use Rattle.x5_dse.specs.declared.node.NodeId.{NodeId}
use Rattle.x5_dse.specs.Linked.{id_of, key_with, children_of, subtree_of}
use Rattle.x5_eval.specs.Scopes.{asked_nodes}
use Rattle.x5_eval.proofs.Within.{alone}
use Rattle.x5_eval.proofs.scope.nodes_from.Goals as goal

pub returns-in_ok-vec-in-Base : goal.returns-in_ok-vec-in-Base
returns-in_ok-vec-in-Base c =
    c.in_ok-vec-in-Base.ensures.items ∙ alone c.args.tree.now.nodes c.requires.linked c.args.node c.requires.live
    ∙ ap (λ (s : Subset). map id_of (asked_nodes c.args.tree.now.nodes (subset_view s) (key_with c.args.tree.now.nodes
    c.args.node))) (sym c.in-Base.is)

pub returns-in_ok-collect-in-One : goal.returns-in_ok-collect-in-One
returns-in_ok-collect-in-One c =
    let ran = c.in_ok-collect-in-One.ensures.ran in
    let nodes = c.args.tree.now.nodes in
    let all = children_of nodes c.args.node in
    ran.2.0 ∙ sym (map-id ran.0)
    ∙ items_from_drains ran.0 ran.1 (YieldsList-from_first (λ (x : NodeId). x) (λ (l : List NodeId). l) all
    c.children.ensures)
    ∙ ap (λ (s : Subset). map id_of (asked_nodes nodes (subset_view s) (key_with nodes c.args.node))) (sym c.in-One.is)

pub returns-in_ok-collect-in-Tree : goal.returns-in_ok-collect-in-Tree
returns-in_ok-collect-in-Tree c =
    let ran = c.in_ok-collect-in-Tree.ensures.ran in
    let nodes = c.args.tree.now.nodes in
    let all = subtree_of nodes c.args.node in
    ran.2.0 ∙ sym (map-id ran.0)
    ∙ items_from_drains ran.0 ran.1 (YieldsList-from_first (λ (x : NodeId). x) (λ (l : List NodeId). l) all
    c.walk.ensures)
    ∙ ap (λ (s : Subset). map id_of (asked_nodes nodes (subset_view s) (key_with nodes c.args.node))) (sym c.in-Tree.is)
