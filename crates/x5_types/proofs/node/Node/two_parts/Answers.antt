-- Two members are the two parts, and any other number are not two.
use Rattle.std.proofs.Common.{List, length, map, ap, sym, ◌∙◌, arith}
use Rattle.std.proofs.lemmas.List.{length-map}
use Rattle.x5_model_typed.specs.Nodes as nodes
use Rattle.x5_types.specs.declared.node.Node.{Node}
use Rattle.x5_types.specs.NodeView.{node_view}
use Rattle.x5_types.proofs.TwoParts.{just_two, not_two}
use Rattle.x5_types.proofs.node.Node.two_parts.Goals as goal

pub returns-then-parts-ne2 : goal.returns-then-parts-ne2
returns-then-parts-ne2 c =
    not_two (nodes.parts (node_view c.args.self.now))
    (λ e. c.if-parts-ne2.true (sym (length-map c.parts-parts.result.now node_view)
    ∙ ap (λ (l : List nodes.Node). length l) c.parts-parts.ensures ∙ e))

pub returns : goal.returns
returns c =
    sym c.parts-parts.ensures
    ∙ ap (λ (l : List Node). map node_view l)
    (just_two c.parts-parts.result.now c.index-parts-0.result c.index-parts-1.result
    (omega (arith, c.if-parts-ne2.false)) (omega (arith, c.if-parts-ne2.false)) (sym c.index-parts-0.is)
    (sym c.index-parts-1.is))
