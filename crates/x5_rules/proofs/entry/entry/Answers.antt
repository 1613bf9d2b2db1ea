-- The last of three parts is put in order.
use Rattle.std.proofs.Common.{◌≡◌, true, false, List, map, ap, sym, ◌∙◌, Vec, Global}
use Rattle.std.specs.Option.{option_map}
use Rattle.std.specs.declared.option.Option.{Option}
use Rattle.std.specs.declared.option.Option.TheVariants.{None, Some}
use Rattle.x5_model.specs.Words.{sorted}
use Rattle.x5_model_typed.specs.Leaves.{where_so}
use Rattle.x5_model_typed.specs.Nodes as nodes
use Rattle.x5_model_typed.specs.Rules as rules
use Rattle.x5_types.specs.declared.node.Node.{Node, Many}
use Rattle.x5_types.specs.NodeView.{node_view}
use Rattle.x5_types.proofs.Nodes.{parts_are}
use Rattle.x5_rules.specs.Stored.{from_entry_in}
use Rattle.x5_rules.proofs.Once.{each_once}
use Rattle.x5_rules.proofs.Stored.{entry_option, no_entry, last_is}
use Rattle.x5_rules.proofs.entry.entry.Goals as goal

-- what is kept of attributes
abbrev kept_of : List nodes.Node → Option (List nodes.Node)
kept_of l =
    where_so (each_once rules.is_stored rules.same_attribute l) (sorted rules.attribute_below (map rules.in_order l))

abbrev kept : Node → Option nodes.Node
kept n = rules.entry_rule (node_view n)

pub returns-then-not-is_from_entry : goal.returns-then-not-is_from_entry
returns-then-not-is_from_entry c =
    let from : from_entry_in (nodes.parts (node_view (Many c.in-Many.parts))) ≡ false =
    ap from_entry_in (parts_are c.in-Many.parts)
    ∙ (sym (c.is_from_entry.ensures ∙ ap (λ (l : List Node). from_entry_in (map node_view l)) c.deref.ensures.value)
    ∙ c.if-not-is_from_entry.true) in
    no_entry (node_view (Many c.in-Many.parts)) from ∙ sym (ap (λ (n : Node). kept n) c.in-Many.is)

pub returns-in_default-2 : goal.returns-in_default-2
returns-in_default-2 c =
    let from : from_entry_in (nodes.parts (node_view (Many c.in-Many.parts))) ≡ true =
    ap from_entry_in (parts_are c.in-Many.parts)
    ∙ (sym (c.is_from_entry.ensures ∙ ap (λ (l : List Node). from_entry_in (map node_view l)) c.deref.ensures.value)
    ∙ c.if-not-is_from_entry.false) in
    let attributes : None ≡ kept_of (nodes.parts (node_view c.in-Some.attributes)) =
    sym (ap (option_map (λ (v : Vec Node Global). map node_view v.items)) c.in_default-2.is) ∙ c.in_ok-attributes.ensures
    ∙ ap (λ (l : List nodes.Node). kept_of l) c.members_of.ensures in
    entry_option c.in-Many.parts c.pop.new.self.items c.in-Some.attributes None c.in-Some.ensures.items from attributes
    ∙ sym (ap (λ (n : Node). kept n) c.in-Many.is)

pub returns : goal.returns
returns c =
    let from : from_entry_in (nodes.parts (node_view (Many c.in-Many.parts))) ≡ true =
    ap from_entry_in (parts_are c.in-Many.parts)
    ∙ (sym (c.is_from_entry.ensures ∙ ap (λ (l : List Node). from_entry_in (map node_view l)) c.deref.ensures.value)
    ∙ c.if-not-is_from_entry.false) in
    let attributes : Some (map node_view c.in-Some-2.attributes.items) ≡ kept_of (nodes.parts (node_view c.in-Some.attributes)) =
    sym (ap (option_map (λ (v : Vec Node Global). map node_view v.items)) c.in-Some-2.is) ∙ c.in_ok-attributes.ensures
    ∙ ap (λ (l : List nodes.Node). kept_of l) c.members_of.ensures in
    ap (λ (n : nodes.Node). Some n)
    (last_is c.push.new.self c.in-Some-2.attributes c.pop.new.self.items c.in_ok-push.ensures.items)
    ∙ entry_option c.in-Many.parts c.pop.new.self.items c.in-Some.attributes (Some (map node_view c.in-Some-2.attributes.items))
    c.in-Some.ensures.items from attributes
    ∙ sym (ap (λ (n : Node). kept n) c.in-Many.is)
