-- A live number is that of a used slot, which holds the node's entry.
use Rattle.std.proofs.Common.{◌≡◌, true, sym, ap, subst, ◌∙◌, Some}
use Rattle.std.specs.Option.{option_map}
use Rattle.x5_dse.specs.Linked.{Nodes, entry_in, node_with, is_live, IsLinked, AreNumbered}
use Rattle.x5_dse.specs.Slot.{Slot}
use Rattle.x5_dse.specs.Inside.{Slots, slot_at, is_used, held, nodes_of}
use Rattle.x5_dse.proofs.Named.{live_used, live_node, linked, numbered}
use Rattle.x5_dse.proofs.tree.DseTree.entry.Goals as goal

pub held_at-requires : goal.held_at-requires
held_at-requires c =
    let live : is_live (nodes_of c.self.inside.prefix c.self.inside.slots.items c.self.inside.order.items) c.args.node ≡ true = subst (λ (n : Nodes). is_live n.nodes c.args.node ≡ true) (sym c.self.view_is) c.requires in
    subst (λ (s : Slots). is_used s c.args.node ≡ true) (sym c.deref.ensures.value) (live_used c.self.inside.prefix c.self.inside.slots.items c.self.inside.order.items c.self.invariant.0.row c.args.node live)

pub returns-clause-entry : goal.returns-clause-entry
returns-clause-entry c =
    let row = c.self.invariant.0.row in
    let live : is_live (nodes_of c.self.inside.prefix c.self.inside.slots.items c.self.inside.order.items) c.args.node ≡ true = subst (λ (n : Nodes). is_live n.nodes c.args.node ≡ true) (sym c.self.view_is) c.requires in
    let used = live_used c.self.inside.prefix c.self.inside.slots.items c.self.inside.order.items row c.args.node live in
    let e : held (slot_at c.self.inside.slots.items c.args.node) ≡ c.held_at.result.now = ap (λ (s : Slots). held (slot_at s c.args.node)) (sym c.deref.ensures.value) ∙ sym c.held_at.ensures in
    ap (λ (n : Nodes). option_map entry_in (node_with n.nodes c.args.node)) (sym c.self.view_is)
    ∙ ap (option_map entry_in) (live_node c.self.inside.prefix c.self.inside.slots.items c.self.inside.order.items row c.args.node used)
    ∙ ap (λ (x : Slot). Some x.entry) (e ∙ sym c.behind-deref.view_is)

pub returns-clause-linked : goal.returns-clause-linked
returns-clause-linked c = subst (λ (n : Nodes). IsLinked n.nodes) c.self.view_is (linked c.self.inside.prefix c.self.inside.slots.items c.self.inside.order.items c.self.invariant.0.row)

pub returns-clause-numbered : goal.returns-clause-numbered
returns-clause-numbered c = subst (λ (n : Nodes). AreNumbered n.nodes) c.self.view_is (numbered c.self.inside.prefix c.self.inside.slots.items c.self.inside.order.items c.self.invariant.0.row)
