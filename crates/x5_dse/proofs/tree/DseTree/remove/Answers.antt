-- The leaf's slot is free, and its number stands in order no more.
use Rattle.std.proofs.Common.{◌≡◌, ◌+◌, ◌<◌, Bool, true, false, not, List, [], ◌∷◌, ◌++◌, length, take, drop, set, get_or, suc, refl, sym, ap, subst, ◌∙◌, arith, if◌then◌else◌, is_ok, None}
use Rattle.std.specs.Vec.{vec_len}
use Rattle.x5_model.specs.Members.{In}
use Rattle.x5_dse.specs.declared.node.NodeId.{NodeId}
use Rattle.x5_dse.specs.declared.node.DseFault.TheVariants.{NotLeaf}
use Rattle.x5_dse.specs.Linked.{Nodes, is_first, is_live, prefix_of}
use Rattle.x5_dse.specs.Changes.{Removed, NotRemoved}
use Rattle.x5_dse.specs.Slot.{Slot}
use Rattle.x5_dse.specs.Inside.{Slots, nodes_of, node_of, parent_at, IsKept}
use Rattle.x5_dse.proofs.Named.{live_used, live_node, prefix_key}
use Rattle.x5_dse.proofs.Removing.{not_first, no_leaf, removed_kept, removed}
use Rattle.x5_dse.proofs.tree.DseTree.remove.Goals as goal

pub returns-then-has_children-clause-fault : goal.returns-then-has_children-clause-fault
returns-then-has_children-clause-fault c =
    let row = c.self.invariant.0.row in
    let live : is_live (nodes_of c.self.inside.prefix c.self.inside.slots.items c.self.inside.order.items) c.args.node ≡ true = subst (λ (n : Nodes). is_live n.nodes c.args.node ≡ true) (sym c.self.view_is) c.requires.live in
    let used = live_used c.self.inside.prefix c.self.inside.slots.items c.self.inside.order.items row c.args.node live in
    let found : (k : NodeId) × In k c.deref-2.result.now × (parent_at c.deref.result.now k ≡ c.args.node) = c.if-has_children.ensures in
    let child : In found.0 c.self.inside.order.items = subst (λ (ns : List NodeId). In found.0 ns) c.deref-2.ensures.value found.1 in
    let below : parent_at c.self.inside.slots.items found.0 ≡ c.args.node = subst (λ (s : Slots). parent_at s found.0 ≡ c.args.node) c.deref.ensures.value found.2 in
    subst (λ (n : Nodes). NotRemoved n.nodes c.args.node NotLeaf) c.self.view_is (record {
      node = node_of c.self.inside.prefix c.self.inside.slots.items c.args.node;
      there = live_node c.self.inside.prefix c.self.inside.slots.items c.self.inside.order.items row c.args.node used;
      below = no_leaf c.self.inside.prefix c.self.inside.slots.items c.self.inside.order.items row c.args.node used found.0 child below;
      is = refl;
    })

pub place_of_node-place-requires-clause-ordered : goal.place_of_node-place-requires-clause-ordered
place_of_node-place-requires-clause-ordered c =
    let row = c.self.invariant.0.row in
    let live : is_live (nodes_of c.self.inside.prefix c.self.inside.slots.items c.self.inside.order.items) c.args.node ≡ true = subst (λ (n : Nodes). is_live n.nodes c.args.node ≡ true) (sym c.self.view_is) c.requires.live in
    let other : is_first (nodes_of c.self.inside.prefix c.self.inside.slots.items c.self.inside.order.items) c.args.node ≡ false = subst (λ (n : Nodes). is_first n.nodes c.args.node ≡ false) (sym c.self.view_is) c.requires.other in
    subst (λ (ns : List NodeId). In c.args.node ns) (sym c.deref-4.ensures.value)
    (not_first c.self.inside.prefix c.self.inside.slots.items c.self.inside.order.items row c.args.node (live_used c.self.inside.prefix c.self.inside.slots.items c.self.inside.order.items row c.args.node live) other)

pub take_out-held-requires : goal.take_out-held-requires
take_out-held-requires c =
    let live : is_live (nodes_of c.self.inside.prefix c.self.inside.slots.items c.self.inside.order.items) c.args.node ≡ true = subst (λ (n : Nodes). is_live n.nodes c.args.node ≡ true) (sym c.self.view_is) c.requires.live in
    live_used c.self.inside.prefix c.self.inside.slots.items c.self.inside.order.items c.self.invariant.0.row c.args.node live

pub invariant_of-self : goal.invariant_of-self
invariant_of-self c =
    let row = c.self.invariant.0.row in
    let live : is_live (nodes_of c.self.inside.prefix c.self.inside.slots.items c.self.inside.order.items) c.args.node ≡ true = subst (λ (n : Nodes). is_live n.nodes c.args.node ≡ true) (sym c.self.view_is) c.requires.live in
    let other : is_first (nodes_of c.self.inside.prefix c.self.inside.slots.items c.self.inside.order.items) c.args.node ≡ false = subst (λ (n : Nodes). is_first n.nodes c.args.node ≡ false) (sym c.self.view_is) c.requires.other in
    let used = live_used c.self.inside.prefix c.self.inside.slots.items c.self.inside.order.items row c.args.node live in
    let placed = not_first c.self.inside.prefix c.self.inside.slots.items c.self.inside.order.items row c.args.node used other in
    let leaf : (k : NodeId) → In k c.deref-2.result.now → parent_at c.deref.result.now k ≡ c.args.node → ⊥ = c.if-has_children.ensures in
    let none : (k : NodeId) → In k c.self.inside.order.items → parent_at c.self.inside.slots.items k ≡ c.args.node → ⊥ =
    λ k i e. leaf k (subst (λ (ns : List NodeId). In k ns) (sym c.deref-2.ensures.value) i) (subst (λ (s : Slots). parent_at s k ≡ c.args.node) (sym c.deref.ensures.value) e) in
    let within : c.place_of_node-place.result < length c.self.inside.order.items = subst (λ (ns : List NodeId). c.place_of_node-place.result < length ns) c.deref-4.ensures.value c.place_of_node-place.ensures.0 in
    let at : get_or c.self.inside.order.items c.place_of_node-place.result c.args.node ≡ c.args.node = subst (λ (ns : List NodeId). get_or ns c.place_of_node-place.result c.args.node ≡ c.args.node) c.deref-4.ensures.value (c.place_of_node-place.ensures.1 c.args.node) in
    let ok : is_ok c.push.result ≡ true = c.is_err.ensures.negation ∙ ap not c.if-is_err.false in
    let free : c.push.new.self.items ≡ c.self.inside.free.items ++ c.args.node ∷ [] = c.push.ensures.items ∙ ap (λ (b : Bool). if b then c.self.inside.free.items ++ c.args.node ∷ [] else c.self.inside.free.items) ok in
    let free_len : vec_len c.push.new.self ≡ vec_len c.self.inside.free + 1 = c.push.ensures.len ∙ ap (λ (b : Bool). if b then vec_len c.self.inside.free + 1 else vec_len c.self.inside.free) ok in
    let room = c.self.invariant.1 in (
      subst (λ (s : Slots). IsKept s c.remove.new.self.items c.push.new.self.items) (sym c.take_out-held.ensures.slots)
          (subst (λ (ns : List NodeId). IsKept (set c.self.inside.slots.items c.args.node.0 None) ns c.push.new.self.items) (sym c.remove.ensures.items)
          (subst (λ (ns : List NodeId). IsKept (set c.self.inside.slots.items c.args.node.0 None) (take c.place_of_node-place.result c.self.inside.order.items ++ drop (suc c.place_of_node-place.result) c.self.inside.order.items) ns) (sym free)
          (removed_kept c.self.inside.prefix c.self.inside.slots.items c.self.inside.order.items c.self.inside.free.items c.self.invariant.0 c.args.node placed none c.place_of_node-place.result within at))),
      record {
        all = omega (arith, room.all, free_len, c.remove.ensures.len, c.take_out-held.ensures.len);
        for_order = omega (arith, room.for_order, c.remove.ensures.capacity, c.take_out-held.ensures.len);
        for_free = omega (arith, room.for_free, c.push.ensures.capacity, c.take_out-held.ensures.len);
      },
    )

pub returns-clause-ok : goal.returns-clause-ok
returns-clause-ok c =
    let row = c.self.invariant.0.row in
    let live : is_live (nodes_of c.self.inside.prefix c.self.inside.slots.items c.self.inside.order.items) c.args.node ≡ true = subst (λ (n : Nodes). is_live n.nodes c.args.node ≡ true) (sym c.self.view_is) c.requires.live in
    let other : is_first (nodes_of c.self.inside.prefix c.self.inside.slots.items c.self.inside.order.items) c.args.node ≡ false = subst (λ (n : Nodes). is_first n.nodes c.args.node ≡ false) (sym c.self.view_is) c.requires.other in
    let used = live_used c.self.inside.prefix c.self.inside.slots.items c.self.inside.order.items row c.args.node live in
    let placed = not_first c.self.inside.prefix c.self.inside.slots.items c.self.inside.order.items row c.args.node used other in
    let leaf : (k : NodeId) → In k c.deref-2.result.now → parent_at c.deref.result.now k ≡ c.args.node → ⊥ = c.if-has_children.ensures in
    let none : (k : NodeId) → In k c.self.inside.order.items → parent_at c.self.inside.slots.items k ≡ c.args.node → ⊥ =
    λ k i e. leaf k (subst (λ (ns : List NodeId). In k ns) (sym c.deref-2.ensures.value) i) (subst (λ (s : Slots). parent_at s k ≡ c.args.node) (sym c.deref.ensures.value) e) in
    let within : c.place_of_node-place.result < length c.self.inside.order.items = subst (λ (ns : List NodeId). c.place_of_node-place.result < length ns) c.deref-4.ensures.value c.place_of_node-place.ensures.0 in
    let at : get_or c.self.inside.order.items c.place_of_node-place.result c.args.node ≡ c.args.node = subst (λ (ns : List NodeId). get_or ns c.place_of_node-place.result c.args.node ≡ c.args.node) c.deref-4.ensures.value (c.place_of_node-place.ensures.1 c.args.node) in
    let ok : is_ok c.push.result ≡ true = c.is_err.ensures.negation ∙ ap not c.if-is_err.false in
    let free_len : vec_len c.push.new.self ≡ vec_len c.self.inside.free + 1 = c.push.ensures.len ∙ ap (λ (b : Bool). if b then vec_len c.self.inside.free + 1 else vec_len c.self.inside.free) ok in
    let was = c.held.view_is ∙ c.take_out-held.ensures.held in
    subst (λ (s : Slots). Removed c.args.self.now c.args.node c.held.inside.entry (record { nodes = nodes_of c.self.inside.prefix s c.remove.new.self.items; spare = vec_len c.push.new.self })) (sym c.take_out-held.ensures.slots)
    (subst (λ (ns : List NodeId). Removed c.args.self.now c.args.node c.held.inside.entry (record { nodes = nodes_of c.self.inside.prefix (set c.self.inside.slots.items c.args.node.0 None) ns; spare = vec_len c.push.new.self })) (sym c.remove.ensures.items)
    (subst (λ (n : Nodes). Removed n c.args.node c.held.inside.entry (record { nodes = nodes_of c.self.inside.prefix (set c.self.inside.slots.items c.args.node.0 None) (take c.place_of_node-place.result c.self.inside.order.items ++ drop (suc c.place_of_node-place.result) c.self.inside.order.items); spare = vec_len c.push.new.self })) c.self.view_is
    (removed c.self.inside.prefix c.self.inside.slots.items c.self.inside.order.items c.self.inside.free.items c.self.invariant.0 c.args.node placed none c.place_of_node-place.result within at
    c.held.inside.entry (ap (λ (t : Slot). t.entry) (sym was)) (vec_len c.self.inside.free) (vec_len c.push.new.self) free_len)))

pub returns-clause-prefix : goal.returns-clause-prefix
returns-clause-prefix c =
    let row = c.self.invariant.0.row in
    let live : is_live (nodes_of c.self.inside.prefix c.self.inside.slots.items c.self.inside.order.items) c.args.node ≡ true = subst (λ (n : Nodes). is_live n.nodes c.args.node ≡ true) (sym c.self.view_is) c.requires.live in
    let other : is_first (nodes_of c.self.inside.prefix c.self.inside.slots.items c.self.inside.order.items) c.args.node ≡ false = subst (λ (n : Nodes). is_first n.nodes c.args.node ≡ false) (sym c.self.view_is) c.requires.other in
    let used = live_used c.self.inside.prefix c.self.inside.slots.items c.self.inside.order.items row c.args.node live in
    let placed = not_first c.self.inside.prefix c.self.inside.slots.items c.self.inside.order.items row c.args.node used other in
    let leaf : (k : NodeId) → In k c.deref-2.result.now → parent_at c.deref.result.now k ≡ c.args.node → ⊥ = c.if-has_children.ensures in
    let none : (k : NodeId) → In k c.self.inside.order.items → parent_at c.self.inside.slots.items k ≡ c.args.node → ⊥ =
    λ k i e. leaf k (subst (λ (ns : List NodeId). In k ns) (sym c.deref-2.ensures.value) i) (subst (λ (s : Slots). parent_at s k ≡ c.args.node) (sym c.deref.ensures.value) e) in
    let within : c.place_of_node-place.result < length c.self.inside.order.items = subst (λ (ns : List NodeId). c.place_of_node-place.result < length ns) c.deref-4.ensures.value c.place_of_node-place.ensures.0 in
    let at : get_or c.self.inside.order.items c.place_of_node-place.result c.args.node ≡ c.args.node = subst (λ (ns : List NodeId). get_or ns c.place_of_node-place.result c.args.node ≡ c.args.node) c.deref-4.ensures.value (c.place_of_node-place.ensures.1 c.args.node) in
    let ok : is_ok c.push.result ≡ true = c.is_err.ensures.negation ∙ ap not c.if-is_err.false in
    let free_len : vec_len c.push.new.self ≡ vec_len c.self.inside.free + 1 = c.push.ensures.len ∙ ap (λ (b : Bool). if b then vec_len c.self.inside.free + 1 else vec_len c.self.inside.free) ok in
    let was = c.held.view_is ∙ c.take_out-held.ensures.held in
    let kept = removed_kept c.self.inside.prefix c.self.inside.slots.items c.self.inside.order.items c.self.inside.free.items c.self.invariant.0 c.args.node placed none c.place_of_node-place.result within at in
    ap (λ (l : Slots). prefix_of (nodes_of c.self.inside.prefix l c.remove.new.self.items)) c.take_out-held.ensures.slots
    ∙ (ap (λ (ns : List NodeId). prefix_of (nodes_of c.self.inside.prefix (set c.self.inside.slots.items c.args.node.0 None) ns)) c.remove.ensures.items
    ∙ (prefix_key c.self.inside.prefix (set c.self.inside.slots.items c.args.node.0 None) (take c.place_of_node-place.result c.self.inside.order.items ++ drop (suc c.place_of_node-place.result) c.self.inside.order.items) kept.row
    ∙ (sym (prefix_key c.self.inside.prefix c.self.inside.slots.items c.self.inside.order.items row) ∙ ap (λ (n : Nodes). prefix_of n.nodes) c.self.view_is)))
