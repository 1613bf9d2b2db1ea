-- Only the prefix, or all entries with it, can be asked for.
use Rattle.std.proofs.Common.{◌≡◌, Option, None, Some, map, refl, sym, ap, ◌∙◌}
use Rattle.std.specs.Option.{option_map}
use Rattle.x5_model.specs.Values.{key_of}
use Rattle.x5_model_tree.specs.Ask.{in_subset}
use Rattle.x5_ops.specs.RequestViews.{subset_view}
use Rattle.x5_dse.specs.Linked.{Node, Nodes, id_of, prefix_of}
use Rattle.x5_eval.proofs.Telling.{ok_by}
use Rattle.x5_eval.proofs.Within.{above_base, above_one, above_tree, none_asked}
use Rattle.x5_eval.proofs.scope.nodes_above.Goals as goal

nothing : (o : Option Node) → option_map id_of o ≡ None → o ≡ None
nothing None e = refl
nothing (Some n) e = cc

pub returns-then-not-is_in_subset : goal.returns-then-not-is_in_subset
returns-then-not-is_in_subset c =
    let nodes = c.args.held.now.nodes.nodes in
    let base = key_of c.args.base.now in
    let subset = subset_view c.args.subset in
    let place : c.key-2.result.now ≡ prefix_of nodes = c.key-2.ensures ∙ ap key_of c.prefix.ensures.prefix
    ∙ sym c.prefix.ensures.kept.prefixed in
    let no = (λ i. in_subset subset (sym c.key.ensures i) (sym place i)) ∙ sym c.is_in_subset.ensures
    ∙ c.if-not-is_in_subset.true in
    c.new.ensures.items ∙ sym (ap (map id_of) (none_asked nodes c.requires.linked base (nothing _ c.requires.absent)
    subset no))

pub returns-in-Tree : goal.returns-in-Tree
returns-in-Tree c =
    let nodes = c.args.held.now.nodes.nodes in
    let base = key_of c.args.base.now in
    let subset = subset_view c.args.subset in
    let place : c.key-2.result.now ≡ prefix_of nodes = c.key-2.ensures ∙ ap key_of c.prefix.ensures.prefix
    ∙ sym c.prefix.ensures.kept.prefixed in
    let yes = (λ i. in_subset subset (sym c.key.ensures i) (sym place i)) ∙ sym c.is_in_subset.ensures
    ∙ c.if-not-is_in_subset.false in
    ok_by _ _ (λ found e. e ∙ ap (map id_of) (above_tree c.tree-tree.result.now.nodes nodes c.requires.linked
    (ap (λ (ns : Nodes). ns.nodes) c.tree-tree.ensures.nodes) c.top.result c.top.ensures base subset
    (ap subset_view c.in-Tree.is) yes)) c.nodes_from.result c.nodes_from.ensures

pub returns-in-One : goal.returns-in-One
returns-in-One c =
    let nodes = c.args.held.now.nodes.nodes in
    let base = key_of c.args.base.now in
    let subset = subset_view c.args.subset in
    let place : c.key-2.result.now ≡ prefix_of nodes = c.key-2.ensures ∙ ap key_of c.prefix.ensures.prefix
    ∙ sym c.prefix.ensures.kept.prefixed in
    let yes = (λ i. in_subset subset (sym c.key.ensures i) (sym place i)) ∙ sym c.is_in_subset.ensures
    ∙ c.if-not-is_in_subset.false in
    ok_by _ _ (λ found e. e ∙ ap (map id_of) (above_one c.tree-tree.result.now.nodes nodes c.requires.linked
    (ap (λ (ns : Nodes). ns.nodes) c.tree-tree.ensures.nodes) c.top-in-One.result c.top-in-One.ensures base subset
    (ap subset_view c.in-One.is) yes)) c.nodes_from-in-One.result c.nodes_from-in-One.ensures

pub returns-in-Base : goal.returns-in-Base
returns-in-Base c =
    let nodes = c.args.held.now.nodes.nodes in
    let base = key_of c.args.base.now in
    let subset = subset_view c.args.subset in
    let place : c.key-2.result.now ≡ prefix_of nodes = c.key-2.ensures ∙ ap key_of c.prefix.ensures.prefix
    ∙ sym c.prefix.ensures.kept.prefixed in
    let yes = (λ i. in_subset subset (sym c.key.ensures i) (sym place i)) ∙ sym c.is_in_subset.ensures
    ∙ c.if-not-is_in_subset.false in
    ok_by _ _ (λ found e. e ∙ ap (map id_of) (above_base c.tree-tree.result.now.nodes nodes c.requires.linked
    (ap (λ (ns : Nodes). ns.nodes) c.tree-tree.ensures.nodes) c.top-in-Base.result c.top-in-Base.ensures base subset
    (ap subset_view c.in-Base.is) yes)) c.nodes_from-in-Base.result c.nodes_from-in-Base.ensures
