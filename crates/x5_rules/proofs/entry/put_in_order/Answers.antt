-- The attribute goes before the first that isn't below it.
use Rattle.std.proofs.Common.{not, List, length, map, insert, ap, sym, ◌∙◌, arith}
use Rattle.std.specs.List.{position_or_len}
use Rattle.x5_model_typed.specs.Nodes as nodes
use Rattle.x5_model_typed.specs.Rules as rules
use Rattle.x5_types.specs.declared.node.Node.{Node}
use Rattle.x5_types.specs.NodeView.{node_view}
use Rattle.x5_rules.proofs.InOrder.{inserted_is, map_insert}
use Rattle.x5_rules.proofs.entry.put_in_order.Goals as goal

pub returns : goal.returns
returns c =
    let items = c.args.nodes.now.items in
    let place = c.place_of_type-place.ensures.place
    ∙ ap (λ (l : List Node). position_or_len (λ (y : nodes.Node). not
    (rules.attribute_below y (node_view c.args.node))) (map node_view l)) c.deref.ensures.value in
    ap (λ (l : List Node). map node_view l) c.in_ok-insert.ensures.items
    ∙ map_insert node_view items c.place_of_type-place.result c.args.node
    (omega (arith, c.place_of_type-place.ensures.inside, ap (λ (l : List Node). length l) c.deref.ensures.value))
    ∙ ap (λ n. insert (map node_view items) n (node_view c.args.node)) place
    ∙ sym (inserted_is rules.attribute_below (node_view c.args.node) (map node_view items))
