-- The last of two parts is put in order.
use Rattle.std.proofs.Common.{◌≡◌, ℕ, List, map, ap, sym, ◌∙◌, Vec, Global}
use Rattle.std.specs.Option.{option_map}
use Rattle.std.specs.declared.option.Option.{Option}
use Rattle.std.specs.declared.option.Option.TheVariants.{None, Some}
use Rattle.x5_model.specs.Words.{sorted}
use Rattle.x5_model_typed.specs.Leaves.{where_so}
use Rattle.x5_model_typed.specs.Nodes as nodes
use Rattle.x5_model_typed.specs.Rules as rules
use Rattle.x5_types.specs.declared.node.Node.{Node, Many}
use Rattle.x5_types.specs.NodeView.{node_view}
use Rattle.x5_types.proofs.Nodes.{parts_are}
use Rattle.x5_rules.specs.Stored.{stored_type_in}
use Rattle.x5_rules.proofs.Once.{each_once}
use Rattle.x5_rules.proofs.Stored.{stored_option, untyped, last_is}
use Rattle.x5_rules.proofs.entry.stored.Goals as goal

-- what is kept of values
abbrev kept_of : ℕ → List nodes.Node → Option (List nodes.Node)
kept_of k l = where_so (each_once (rules.is_of_type k) (rules.same_value k) l) (sorted (rules.value_below k) l)

-- what is kept of an attribute
abbrev kept : Node → Option nodes.Node
kept n = where_so (rules.is_stored (node_view n)) (rules.in_order (node_view n))

pub returns-in_default-stored_type : goal.returns-in_default-stored_type
returns-in_default-stored_type c =
    let type : stored_type_in (nodes.parts (node_view (Many c.in-Many.parts))) ≡ None =
    ap stored_type_in (parts_are c.in-Many.parts)
    ∙ sym (c.in_default-stored_type.ensures ∙ ap (λ (l : List Node). stored_type_in (map node_view l)) c.deref.ensures.value) in
    untyped (node_view (Many c.in-Many.parts)) type ∙ sym (ap (λ (n : Node). kept n) c.in-Many.is)

pub returns-in_default-2 : goal.returns-in_default-2
returns-in_default-2 c =
    let k = c.in-Some.kind in
    let type : stored_type_in (nodes.parts (node_view (Many c.in-Many.parts))) ≡ Some k =
    ap stored_type_in (parts_are c.in-Many.parts)
    ∙ sym (c.in-Some.ensures ∙ ap (λ (l : List Node). stored_type_in (map node_view l)) c.deref.ensures.value) in
    let values : None ≡ kept_of k (nodes.parts (node_view c.in-Some-pop.values)) =
    sym (ap (option_map (λ (v : Vec Node Global). map node_view v.items)) c.in_default-2.is) ∙ c.in_ok-values.ensures
    ∙ ap (λ (l : List nodes.Node). kept_of k l) c.members_of.ensures in
    stored_option c.in-Many.parts c.pop.new.self.items c.in-Some-pop.values k None c.in-Some-pop.ensures.items type values
    ∙ sym (ap (λ (n : Node). kept n) c.in-Many.is)

pub returns : goal.returns
returns c =
    let k = c.in-Some.kind in
    let type : stored_type_in (nodes.parts (node_view (Many c.in-Many.parts))) ≡ Some k =
    ap stored_type_in (parts_are c.in-Many.parts)
    ∙ sym (c.in-Some.ensures ∙ ap (λ (l : List Node). stored_type_in (map node_view l)) c.deref.ensures.value) in
    let values : Some (map node_view c.in-Some-2.values.items) ≡ kept_of k (nodes.parts (node_view c.in-Some-pop.values)) =
    sym (ap (option_map (λ (v : Vec Node Global). map node_view v.items)) c.in-Some-2.is) ∙ c.in_ok-values.ensures
    ∙ ap (λ (l : List nodes.Node). kept_of k l) c.members_of.ensures in
    ap (λ (n : nodes.Node). Some n)
    (last_is c.push.new.self c.in-Some-2.values c.pop.new.self.items c.in_ok-push.ensures.items)
    ∙ stored_option c.in-Many.parts c.pop.new.self.items c.in-Some-pop.values k (Some (map node_view c.in-Some-2.values.items))
    c.in-Some-pop.ensures.items type values
    ∙ sym (ap (λ (n : Node). kept n) c.in-Many.is)
