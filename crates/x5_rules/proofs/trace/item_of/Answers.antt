-- Four parts are an item's, and any other number are not.
use Rattle.std.proofs.Common.{◌≡◌, List, length, map, ap, sym, ◌∙◌}
use Rattle.std.proofs.lemmas.List.{length-map}
use Rattle.x5_model_typed.specs.Nodes as nodes
use Rattle.x5_types.specs.declared.node.Node.{Node}
use Rattle.x5_types.specs.NodeView.{node_view}
use Rattle.x5_rules.proofs.Traces.{just_four, not_four}
use Rattle.x5_rules.proofs.trace.item_of.Goals as goal

pub returns-then-parts-ne4 : goal.returns-then-parts-ne4
returns-then-parts-ne4 c =
    not_four (nodes.parts (node_view c.args.node.now))
    (λ e. c.if-parts-ne4.true (sym (length-map c.parts-parts.result.now node_view)
    ∙ ap (λ (l : List nodes.Node). length l) c.parts-parts.ensures ∙ e))

pub returns : goal.returns
returns c =
    sym c.parts-parts.ensures
    ∙ ap (λ (l : List Node). map node_view l)
    (just_four c.parts-parts.result.now c.index-parts-0.result c.index-parts-1.result c.index-parts-2.result
    c.index-parts-3.result c.if-parts-ne4.false (sym c.index-parts-0.is) (sym c.index-parts-1.is)
    (sym c.index-parts-2.is) (sym c.index-parts-3.is))
