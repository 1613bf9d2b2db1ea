-- A live number is that of a used slot, whose name goes down from the prefix.
use Rattle.std.proofs.Common.{◌≡◌, true, sym, ap, subst, ◌∙◌, Some, Ok, Err}
use Rattle.std.specs.Prelude.{IfOk}
use Rattle.std.specs.Option.{option_map}
use Rattle.std.specs.declared.result.Result.{Result}
use Rattle.x5_model.specs.Values.{Name}
use Rattle.x5_dse.specs.Linked.{Nodes, name_in, node_with, is_live}
use Rattle.x5_dse.specs.Inside.{Slots, is_used, name_at, nodes_of}
use Rattle.x5_dse.proofs.Named.{live_used, live_node}
use Rattle.x5_dse.proofs.tree.DseTree.name.Goals as goal

pub name_of-requires-clause-used : goal.name_of-requires-clause-used
name_of-requires-clause-used c =
    let live : is_live (nodes_of c.self.inside.prefix c.self.inside.slots.items c.self.inside.order.items) c.args.node ≡ true = subst (λ (n : Nodes). is_live n.nodes c.args.node ≡ true) (sym c.self.view_is) c.requires in
    subst (λ (s : Slots). is_used s c.args.node ≡ true) (sym c.deref.ensures.value) (live_used c.self.inside.prefix c.self.inside.slots.items c.self.inside.order.items c.self.invariant.0.row c.args.node live)

at_ok : {T E : Type 0} (r : Result T E) (P Q : T → Type 0) → ((x : T) → P x → Q x) → IfOk r P → IfOk r Q
at_ok (Ok x) P Q f h = f x h
at_ok (Err e) P Q f h = tt

pub returns : goal.returns
returns c =
    let row = c.self.invariant.0.row in
    let live : is_live (nodes_of c.self.inside.prefix c.self.inside.slots.items c.self.inside.order.items) c.args.node ≡ true = subst (λ (n : Nodes). is_live n.nodes c.args.node ≡ true) (sym c.self.view_is) c.requires in
    at_ok c.name_of.result (λ (n : Name). n ≡ name_at c.self.inside.prefix c.deref.result.now c.args.node) (λ (n : Name). option_map name_in (node_with c.args.self.now.nodes c.args.node) ≡ Some n)
    (λ n e. ap (λ (k : Nodes). option_map name_in (node_with k.nodes c.args.node)) (sym c.self.view_is)
    ∙ ap (option_map name_in) (live_node c.self.inside.prefix c.self.inside.slots.items c.self.inside.order.items row c.args.node (live_used c.self.inside.prefix c.self.inside.slots.items c.self.inside.order.items row c.args.node live))
    ∙ ap (λ (k : Name). Some k) (ap (λ (s : Slots). name_at c.self.inside.prefix s c.args.node) (sym c.deref.ensures.value) ∙ sym e))
    c.name_of.ensures
