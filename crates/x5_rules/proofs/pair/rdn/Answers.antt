-- The rule of an RDN over the members.
use Rattle.std.proofs.Common.{◌≡◌, ◌&&◌, nat_lt, nat_le, List, Bool, true, false, ap, sym, ◌∙◌, length, map}
use Rattle.std.specs.declared.option.Option.TheVariants.{Some}
use Rattle.x5_model.specs.Normal as normal
use Rattle.x5_model.specs.Words.{distinct}
use Rattle.x5_model_typed.specs.Nodes as nodes
use Rattle.x5_model_typed.specs.Rules as rules
use Rattle.x5_types.specs.declared.node.Node.{Node}
use Rattle.x5_types.specs.NodeView.{node_view}
use Rattle.x5_types.proofs.Nodes.{many_of_items, parts_are}
use Rattle.x5_rules.proofs.Pairs.{rdn_is}
use Rattle.x5_rules.proofs.pair.rdn.Goals as goal

abbrev test : List Node → Bool
test l = nat_lt 0 (length l) && nat_le (length l) normal.most_pairs && distinct rules.same_type (map node_view l)

pub returns-then-not-are_pairs : goal.returns-then-not-are_pairs
returns-then-not-are_pairs c =
    let wrong : false ≡ test c.in-Many.pairs.items = sym c.if-not-are_pairs.true ∙ c.are_pairs.ensures
    ∙ ap test c.deref.ensures.value in
    rdn_is (node_view (Rattle.x5_types.specs.declared.node.Node.Many c.in-Many.pairs)) c.in-Many.pairs.items false
    (parts_are c.in-Many.pairs) wrong ∙ sym (ap (λ (n : Node). rules.rdn_rule (node_view n)) c.in-Many.is)

pub returns : goal.returns
returns c =
    let right : true ≡ test c.in-Many.pairs.items = sym c.if-not-are_pairs.false ∙ c.are_pairs.ensures
    ∙ ap test c.deref.ensures.value in
    ap (λ (n : nodes.Node). Some n) (sym (many_of_items c.in_ok-in_order.field-0)
    ∙ ap (λ (l : List nodes.Node). nodes.Many (nodes.row l)) c.in_ok-in_order.ensures)
    ∙ rdn_is (node_view (Rattle.x5_types.specs.declared.node.Node.Many c.in-Many.pairs)) c.in-Many.pairs.items true
    (parts_are c.in-Many.pairs) right ∙ sym (ap (λ (n : Node). rules.rdn_rule (node_view n)) c.in-Many.is)
