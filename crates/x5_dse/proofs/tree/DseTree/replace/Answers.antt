-- The slot gets what it had, with another entry.
use Rattle.std.proofs.Common.{◌≡◌, ◌<◌, true, length, set, sym, ap, subst, ◌∙◌, arith, Some, None}
use Rattle.std.proofs.lemmas.List.{set-set}
use Rattle.std.specs.Vec.{vec_len}
use Rattle.x5_dse.specs.Linked.{Nodes, is_live, prefix_of}
use Rattle.x5_dse.specs.Changes.{Replaced}
use Rattle.x5_dse.specs.Slot.{Slot, own_rdn}
use Rattle.x5_dse.specs.Inside.{Slots, nodes_of, IsKept}
use Rattle.x5_dse.proofs.Ids.{used_within}
use Rattle.x5_dse.proofs.Named.{live_used, prefix_key}
use Rattle.x5_dse.proofs.Replacing.{replaced_kept, replaced}
use Rattle.x5_dse.proofs.tree.DseTree.replace.Goals as goal

pub take_out-held-requires : goal.take_out-held-requires
take_out-held-requires c =
    let live : is_live (nodes_of c.self.inside.prefix c.self.inside.slots.items c.self.inside.order.items) c.args.node ≡ true = subst (λ (n : Nodes). is_live n.nodes c.args.node ≡ true) (sym c.self.view_is) c.requires in
    live_used c.self.inside.prefix c.self.inside.slots.items c.self.inside.order.items c.self.invariant.0.row c.args.node live

pub index_mut-requires : goal.index_mut-requires
index_mut-requires c =
    let live : is_live (nodes_of c.self.inside.prefix c.self.inside.slots.items c.self.inside.order.items) c.args.node ≡ true = subst (λ (n : Nodes). is_live n.nodes c.args.node ≡ true) (sym c.self.view_is) c.requires in
    let l : c.args.node.0 < length c.self.inside.slots.items = used_within c.self.inside.slots.items c.args.node (live_used c.self.inside.prefix c.self.inside.slots.items c.self.inside.order.items c.self.invariant.0.row c.args.node live) in
    omega (arith, c.self.inside.slots.ok.0, c.take_out-held.ensures.len)

pub invariant_of-self : goal.invariant_of-self
invariant_of-self c =
    let live : is_live (nodes_of c.self.inside.prefix c.self.inside.slots.items c.self.inside.order.items) c.args.node ≡ true = subst (λ (n : Nodes). is_live n.nodes c.args.node ≡ true) (sym c.self.view_is) c.requires in
    let used = live_used c.self.inside.prefix c.self.inside.slots.items c.self.inside.order.items c.self.invariant.0.row c.args.node live in
    let s : Slot = record { parent = c.held.inside.parent; depth = c.held.inside.depth; rdn = own_rdn c.held.inside.own; entry = c.args.entry } in
    let was = c.held.view_is ∙ c.take_out-held.ensures.held in
    let slots : set c.take_out-held.new.slots.items c.args.node.0 (Some s) ≡ set c.self.inside.slots.items c.args.node.0 (Some s) = ap (λ (l : Slots). set l c.args.node.0 (Some s)) c.take_out-held.ensures.slots ∙ set-set c.self.inside.slots.items c.args.node.0 None (Some s) in
    let room = c.self.invariant.1 in (
      subst (λ (l : Slots). IsKept l c.self.inside.order.items c.self.inside.free.items) (sym slots)
          (replaced_kept c.self.inside.prefix c.self.inside.slots.items c.self.inside.order.items c.self.inside.free.items c.self.invariant.0 c.args.node used s (ap (λ (t : Slot). t.parent) was) (ap (λ (t : Slot). t.depth) was) (ap (λ (t : Slot). t.rdn) was)),
      record {
        all = omega (arith, room.all, c.take_out-held.ensures.len);
        for_order = omega (arith, room.for_order, c.take_out-held.ensures.len);
        for_free = omega (arith, room.for_free, c.take_out-held.ensures.len);
      },
    )

pub returns-clause-replaced : goal.returns-clause-replaced
returns-clause-replaced c =
    let live : is_live (nodes_of c.self.inside.prefix c.self.inside.slots.items c.self.inside.order.items) c.args.node ≡ true = subst (λ (n : Nodes). is_live n.nodes c.args.node ≡ true) (sym c.self.view_is) c.requires in
    let used = live_used c.self.inside.prefix c.self.inside.slots.items c.self.inside.order.items c.self.invariant.0.row c.args.node live in
    let s : Slot = record { parent = c.held.inside.parent; depth = c.held.inside.depth; rdn = own_rdn c.held.inside.own; entry = c.args.entry } in
    let was = c.held.view_is ∙ c.take_out-held.ensures.held in
    let slots : set c.take_out-held.new.slots.items c.args.node.0 (Some s) ≡ set c.self.inside.slots.items c.args.node.0 (Some s) = ap (λ (l : Slots). set l c.args.node.0 (Some s)) c.take_out-held.ensures.slots ∙ set-set c.self.inside.slots.items c.args.node.0 None (Some s) in
    subst (λ (l : Slots). Replaced c.args.self.now c.args.node c.args.entry c.held.inside.entry (record { nodes = nodes_of c.self.inside.prefix l c.self.inside.order.items; spare = vec_len c.self.inside.free })) (sym slots)
    (subst (λ (n : Nodes). Replaced n c.args.node c.args.entry c.held.inside.entry (record { nodes = nodes_of c.self.inside.prefix (set c.self.inside.slots.items c.args.node.0 (Some s)) c.self.inside.order.items; spare = vec_len c.self.inside.free })) c.self.view_is
    (replaced c.self.inside.prefix c.self.inside.slots.items c.self.inside.order.items c.self.inside.free.items c.self.invariant.0 c.args.node used s (ap (λ (t : Slot). t.parent) was) (ap (λ (t : Slot). t.depth) was) (ap (λ (t : Slot). t.rdn) was)
    c.held.inside.entry (ap (λ (t : Slot). t.entry) (sym was)) (vec_len c.self.inside.free)))

pub returns-clause-prefix : goal.returns-clause-prefix
returns-clause-prefix c =
    let live : is_live (nodes_of c.self.inside.prefix c.self.inside.slots.items c.self.inside.order.items) c.args.node ≡ true = subst (λ (n : Nodes). is_live n.nodes c.args.node ≡ true) (sym c.self.view_is) c.requires in
    let used = live_used c.self.inside.prefix c.self.inside.slots.items c.self.inside.order.items c.self.invariant.0.row c.args.node live in
    let s : Slot = record { parent = c.held.inside.parent; depth = c.held.inside.depth; rdn = own_rdn c.held.inside.own; entry = c.args.entry } in
    let was = c.held.view_is ∙ c.take_out-held.ensures.held in
    let slots : set c.take_out-held.new.slots.items c.args.node.0 (Some s) ≡ set c.self.inside.slots.items c.args.node.0 (Some s) = ap (λ (l : Slots). set l c.args.node.0 (Some s)) c.take_out-held.ensures.slots ∙ set-set c.self.inside.slots.items c.args.node.0 None (Some s) in
    let kept = replaced_kept c.self.inside.prefix c.self.inside.slots.items c.self.inside.order.items c.self.inside.free.items c.self.invariant.0 c.args.node used s (ap (λ (t : Slot). t.parent) was) (ap (λ (t : Slot). t.depth) was) (ap (λ (t : Slot). t.rdn) was) in
    ap (λ (l : Slots). prefix_of (nodes_of c.self.inside.prefix l c.self.inside.order.items)) slots
    ∙ (prefix_key c.self.inside.prefix (set c.self.inside.slots.items c.args.node.0 (Some s)) c.self.inside.order.items kept.row
    ∙ (sym (prefix_key c.self.inside.prefix c.self.inside.slots.items c.self.inside.order.items c.self.invariant.0.row) ∙ ap (λ (n : Nodes). prefix_of n.nodes) c.self.view_is))
