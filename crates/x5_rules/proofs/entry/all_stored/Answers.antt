-- The last attribute that is left goes where the order has it, or the attributes aren't stored so.
use Rattle.std.proofs.Common.{◌≡◌, ◌&&◌, ◌++◌, Bool, true, false, not, List, [], ◌∷◌, map, drop, take, length, refl}
use Rattle.std.proofs.Common.{ap, sym, ◌∙◌}
use Rattle.x5_model.specs.Words.{has, insert_sorted, sorted}
use Rattle.x5_model_typed.specs.Nodes as nodes
use Rattle.x5_model_typed.specs.Rules as rules
use Rattle.x5_types.specs.declared.node.Node.{Node}
use Rattle.x5_types.specs.NodeView.{node_view}
use Rattle.x5_rules.proofs.InOrder.{last_taken}
use Rattle.x5_rules.proofs.Once.{each_once, has_mapped, has_sorted, last_fails, last_joins, none_so}
use Rattle.x5_rules.proofs.Stored.{same_stays}
use Rattle.x5_rules.proofs.entry.all_stored.Goals as goal

abbrev kept : Node → nodes.Node
kept n = rules.in_order (node_view n)

through : (l : List Node) → map rules.in_order (map node_view l) ≡ map kept l
through [] = refl
through (n ∷ l) = ap (λ (ns : List nodes.Node). kept n ∷ ns) (through l)

there : (done : List nodes.Node) (rest : List nodes.Node) (n : nodes.Node) → done ≡ sorted rules.attribute_below (map rules.in_order rest)
    → has rules.same_attribute done n ≡ has rules.same_attribute rest n
there done rest n e =
    ap (λ (l : List nodes.Node). has rules.same_attribute l n) e
    ∙ has_sorted rules.same_attribute rules.attribute_below n (map rules.in_order rest)
    ∙ has_mapped rules.same_attribute rules.in_order same_stays n rest

pub loop-attribute-preserved : goal.loop-attribute-preserved
loop-attribute-preserved c =
    let i = c.loop-attribute.invariant in
    let all = c.args.attributes.items in
    let old = c.loop-attribute.attributes.items in
    let new = c.pop.new.self.items in
    let v = c.in-Some.attribute in
    let rest = map node_view (drop (length old) all) in
    let put : c.in_ok-put.put ≡ true = c.if-not-put.false in
    let before : map node_view c.loop-attribute.done.items ≡ sorted rules.attribute_below (map kept (drop (length old) all)) =
    i.same ∙ ap (sorted rules.attribute_below) (through (drop (length old) all)) in
    let both = last_taken kept rules.attribute_below all old new v (map node_view c.loop-attribute.done.items)
    (map node_view c.put_attribute.new.nodes.items) i.left c.in-Some.ensures.items before (c.in_ok-put.ensures.put put) in
    let holds : (rules.is_stored (node_view v) && not (has rules.same_attribute rest (node_view v))) ≡ true =
    ap (λ (b : Bool). rules.is_stored (node_view v) && not b) (sym (there (map node_view c.loop-attribute.done.items) rest (node_view v) i.same))
    ∙ sym c.in_ok-put.ensures.new ∙ put in
    record {
      left = both.0;
      same = both.1 ∙ ap (sorted rules.attribute_below) (sym (through (drop (length new) all)));
      once = last_joins node_view rules.is_stored rules.same_attribute all old new v i.left c.in-Some.ensures.items holds i.once;
    }

pub returns-then-not-put : goal.returns-then-not-put
returns-then-not-put c =
    let i = c.loop-attribute.invariant in
    let all = c.args.attributes.items in
    let old = c.loop-attribute.attributes.items in
    let v = c.in-Some.attribute in
    let rest = map node_view (drop (length old) all) in
    let fails : (rules.is_stored (node_view v) && not (has rules.same_attribute rest (node_view v))) ≡ false =
    ap (λ (b : Bool). rules.is_stored (node_view v) && not b) (sym (there (map node_view c.loop-attribute.done.items) rest (node_view v) i.same))
    ∙ sym c.in_ok-put.ensures.new ∙ c.if-not-put.true in
    sym (none_so (each_once rules.is_stored rules.same_attribute (map node_view all))
    (sorted rules.attribute_below (map rules.in_order (map node_view all)))
    (last_fails node_view rules.is_stored rules.same_attribute all old c.pop.new.self.items v i.left c.in-Some.ensures.items fails))
