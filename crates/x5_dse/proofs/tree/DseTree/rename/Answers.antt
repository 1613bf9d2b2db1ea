-- The node's number is taken from its place, and put at the new one.
use Rattle.std.proofs.Common.{◌≡◌, ◌+◌, ◌<◌, ◌++◌, Bool, true, false, not, List, ◌∷◌, length, take, drop, set, suc, sym, ap, subst, ◌∙◌, arith, if◌then◌else◌, is_ok, Some, None}
use Rattle.std.proofs.lemmas.List.{set-set}
use Rattle.std.specs.Vec.{vec_len}
use Rattle.x5_model.specs.Members.{In}
use Rattle.x5_model.specs.Values.{Rdn, key_of_rdn}
use Rattle.x5_dse.specs.declared.node.NodeId.{NodeId}
use Rattle.x5_dse.specs.declared.node.DseFault.TheVariants.{Exists}
use Rattle.std.specs.Option.{option_map}
use Rattle.x5_dse.specs.Linked.{Nodes, is_first, is_live, entry_in, node_with, prefix_of, IsLinked, AreNumbered}
use Rattle.x5_dse.specs.Changes.{Renamed, NotRenamed}
use Rattle.x5_dse.specs.Slot.{Slot}
use Rattle.x5_dse.specs.Inside.{Slots, nodes_of, IsKept, IsMove, IsOther}
use Rattle.x5_dse.proofs.Ids.{used_within}
use Rattle.x5_dse.proofs.Named.{live_used, live_node, prefix_key, linked, numbered}
use Rattle.x5_dse.proofs.Removing.{not_first}
use Rattle.x5_dse.proofs.Renaming.{renamed_kept, renamed, not_renamed}
use Rattle.x5_dse.proofs.tree.DseTree.rename.Goals as goal

pub move_of-requires-clause-ordered : goal.move_of-requires-clause-ordered
move_of-requires-clause-ordered c =
    let row = c.self.invariant.0.row in
    let live : is_live (nodes_of c.self.inside.prefix c.self.inside.slots.items c.self.inside.order.items) c.args.node ≡ true = subst (λ (n : Nodes). is_live n.nodes c.args.node ≡ true) (sym c.self.view_is) c.requires.live in
    let other : is_first (nodes_of c.self.inside.prefix c.self.inside.slots.items c.self.inside.order.items) c.args.node ≡ false = subst (λ (n : Nodes). is_first n.nodes c.args.node ≡ false) (sym c.self.view_is) c.requires.other in
    let used = live_used c.self.inside.prefix c.self.inside.slots.items c.self.inside.order.items row c.args.node live in
    let placed = not_first c.self.inside.prefix c.self.inside.slots.items c.self.inside.order.items row c.args.node used other in
    subst (λ (ns : List NodeId). In c.args.node ns) (sym c.deref-2.ensures.value) placed

pub returns-in_default-clause-fault : goal.returns-in_default-clause-fault
returns-in_default-clause-fault c =
    let row = c.self.invariant.0.row in
    let live : is_live (nodes_of c.self.inside.prefix c.self.inside.slots.items c.self.inside.order.items) c.args.node ≡ true = subst (λ (n : Nodes). is_live n.nodes c.args.node ≡ true) (sym c.self.view_is) c.requires.live in
    let other : is_first (nodes_of c.self.inside.prefix c.self.inside.slots.items c.self.inside.order.items) c.args.node ≡ false = subst (λ (n : Nodes). is_first n.nodes c.args.node ≡ false) (sym c.self.view_is) c.requires.other in
    let used = live_used c.self.inside.prefix c.self.inside.slots.items c.self.inside.order.items row c.args.node live in
    let placed = not_first c.self.inside.prefix c.self.inside.slots.items c.self.inside.order.items row c.args.node used other in
    let other : IsOther c.self.inside.slots.items c.self.inside.order.items c.args.node (key_of_rdn c.args.rdn) =
    subst (λ (l : Slots). IsOther l c.self.inside.order.items c.args.node (key_of_rdn c.args.rdn)) c.deref.ensures.value
    (subst (λ (ns : List NodeId). IsOther c.deref.result.now ns c.args.node (key_of_rdn c.args.rdn)) c.deref-2.ensures.value
    (subst (λ (r : Rdn). IsOther c.deref.result.now c.deref-2.result.now c.args.node (key_of_rdn r)) c.pairs.ensures c.in_default.ensures)) in
    subst (λ (n : Nodes). NotRenamed n.nodes c.args.node c.args.rdn Exists) c.self.view_is (not_renamed c.self.inside.prefix c.self.inside.slots.items c.self.inside.order.items row c.args.node placed c.args.rdn other)

pub take_out-held-requires : goal.take_out-held-requires
take_out-held-requires c =
    let live : is_live (nodes_of c.self.inside.prefix c.self.inside.slots.items c.self.inside.order.items) c.args.node ≡ true = subst (λ (n : Nodes). is_live n.nodes c.args.node ≡ true) (sym c.self.view_is) c.requires.live in
    live_used c.self.inside.prefix c.self.inside.slots.items c.self.inside.order.items c.self.invariant.0.row c.args.node live

pub index_mut-requires : goal.index_mut-requires
index_mut-requires c =
    let live : is_live (nodes_of c.self.inside.prefix c.self.inside.slots.items c.self.inside.order.items) c.args.node ≡ true = subst (λ (n : Nodes). is_live n.nodes c.args.node ≡ true) (sym c.self.view_is) c.requires.live in
    let l : c.args.node.0 < length c.self.inside.slots.items = used_within c.self.inside.slots.items c.args.node (live_used c.self.inside.prefix c.self.inside.slots.items c.self.inside.order.items c.self.invariant.0.row c.args.node live) in
    omega (arith, c.self.inside.slots.ok.0, c.take_out-held.ensures.len)

pub invariant_of-self : goal.invariant_of-self
invariant_of-self c =
    let row = c.self.invariant.0.row in
    let live : is_live (nodes_of c.self.inside.prefix c.self.inside.slots.items c.self.inside.order.items) c.args.node ≡ true = subst (λ (n : Nodes). is_live n.nodes c.args.node ≡ true) (sym c.self.view_is) c.requires.live in
    let other : is_first (nodes_of c.self.inside.prefix c.self.inside.slots.items c.self.inside.order.items) c.args.node ≡ false = subst (λ (n : Nodes). is_first n.nodes c.args.node ≡ false) (sym c.self.view_is) c.requires.other in
    let used = live_used c.self.inside.prefix c.self.inside.slots.items c.self.inside.order.items row c.args.node live in
    let placed = not_first c.self.inside.prefix c.self.inside.slots.items c.self.inside.order.items row c.args.node used other in
    let s : Slot = record { parent = c.held.inside.parent; depth = c.held.inside.depth; rdn = c.args.rdn; entry = c.args.entry } in
    let was = c.held.view_is ∙ c.take_out-held.ensures.held in
    let move : IsMove c.self.inside.slots.items c.self.inside.order.items c.args.node (key_of_rdn c.args.rdn) c.in-Some.from c.in-Some.to =
    subst (λ (l : Slots). IsMove l c.self.inside.order.items c.args.node (key_of_rdn c.args.rdn) c.in-Some.from c.in-Some.to) c.deref.ensures.value
    (subst (λ (ns : List NodeId). IsMove c.deref.result.now ns c.args.node (key_of_rdn c.args.rdn) c.in-Some.from c.in-Some.to) c.deref-2.ensures.value
    (subst (λ (r : Rdn). IsMove c.deref.result.now c.deref-2.result.now c.args.node (key_of_rdn r) c.in-Some.from c.in-Some.to) c.pairs.ensures c.in-Some.ensures)) in
    let ok : is_ok c.insert.result ≡ true = c.is_err.ensures.negation ∙ ap not c.if-is_err.false in
    let order : c.insert.new.self.items ≡ take c.in-Some.to (take c.in-Some.from c.self.inside.order.items ++ drop (suc c.in-Some.from) c.self.inside.order.items) ++ c.args.node ∷ drop c.in-Some.to (take c.in-Some.from c.self.inside.order.items ++ drop (suc c.in-Some.from) c.self.inside.order.items) =
    c.insert.ensures.items ∙ ap (λ (b : Bool). if b then take c.in-Some.to c.remove.new.self.items ++ c.args.node ∷ drop c.in-Some.to c.remove.new.self.items else c.remove.new.self.items) ok
    ∙ ap (λ (ns : List NodeId). take c.in-Some.to ns ++ c.args.node ∷ drop c.in-Some.to ns) c.remove.ensures.items in
    let slots : set c.take_out-held.new.slots.items c.args.node.0 (Some s) ≡ set c.self.inside.slots.items c.args.node.0 (Some s) = ap (λ (l : Slots). set l c.args.node.0 (Some s)) c.take_out-held.ensures.slots ∙ set-set c.self.inside.slots.items c.args.node.0 None (Some s) in
    let order_len : vec_len c.insert.new.self ≡ vec_len c.remove.new.self + 1 = c.insert.ensures.len ∙ ap (λ (b : Bool). if b then vec_len c.remove.new.self + 1 else vec_len c.remove.new.self) ok in
    let room = c.self.invariant.1 in (
      subst (λ (l : Slots). IsKept l c.insert.new.self.items c.self.inside.free.items) (sym slots)
          (subst (λ (ns : List NodeId). IsKept (set c.self.inside.slots.items c.args.node.0 (Some s)) ns c.self.inside.free.items) (sym order)
          (renamed_kept c.self.inside.prefix c.self.inside.slots.items c.self.inside.order.items c.self.inside.free.items c.self.invariant.0 c.args.node placed s (ap (λ (t : Slot). t.parent) was) (ap (λ (t : Slot). t.depth) was) c.in-Some.from c.in-Some.to move)),
      record {
        all = omega (arith, room.all, order_len, c.remove.ensures.len, c.take_out-held.ensures.len);
        for_order = omega (arith, room.for_order, c.remove.ensures.capacity, c.insert.ensures.capacity, c.take_out-held.ensures.len);
        for_free = omega (arith, room.for_free, c.take_out-held.ensures.len);
      },
    )

pub returns-clause-ok : goal.returns-clause-ok
returns-clause-ok c =
    let row = c.self.invariant.0.row in
    let live : is_live (nodes_of c.self.inside.prefix c.self.inside.slots.items c.self.inside.order.items) c.args.node ≡ true = subst (λ (n : Nodes). is_live n.nodes c.args.node ≡ true) (sym c.self.view_is) c.requires.live in
    let other : is_first (nodes_of c.self.inside.prefix c.self.inside.slots.items c.self.inside.order.items) c.args.node ≡ false = subst (λ (n : Nodes). is_first n.nodes c.args.node ≡ false) (sym c.self.view_is) c.requires.other in
    let used = live_used c.self.inside.prefix c.self.inside.slots.items c.self.inside.order.items row c.args.node live in
    let placed = not_first c.self.inside.prefix c.self.inside.slots.items c.self.inside.order.items row c.args.node used other in
    let s : Slot = record { parent = c.held.inside.parent; depth = c.held.inside.depth; rdn = c.args.rdn; entry = c.args.entry } in
    let was = c.held.view_is ∙ c.take_out-held.ensures.held in
    let move : IsMove c.self.inside.slots.items c.self.inside.order.items c.args.node (key_of_rdn c.args.rdn) c.in-Some.from c.in-Some.to =
    subst (λ (l : Slots). IsMove l c.self.inside.order.items c.args.node (key_of_rdn c.args.rdn) c.in-Some.from c.in-Some.to) c.deref.ensures.value
    (subst (λ (ns : List NodeId). IsMove c.deref.result.now ns c.args.node (key_of_rdn c.args.rdn) c.in-Some.from c.in-Some.to) c.deref-2.ensures.value
    (subst (λ (r : Rdn). IsMove c.deref.result.now c.deref-2.result.now c.args.node (key_of_rdn r) c.in-Some.from c.in-Some.to) c.pairs.ensures c.in-Some.ensures)) in
    let ok : is_ok c.insert.result ≡ true = c.is_err.ensures.negation ∙ ap not c.if-is_err.false in
    let order : c.insert.new.self.items ≡ take c.in-Some.to (take c.in-Some.from c.self.inside.order.items ++ drop (suc c.in-Some.from) c.self.inside.order.items) ++ c.args.node ∷ drop c.in-Some.to (take c.in-Some.from c.self.inside.order.items ++ drop (suc c.in-Some.from) c.self.inside.order.items) =
    c.insert.ensures.items ∙ ap (λ (b : Bool). if b then take c.in-Some.to c.remove.new.self.items ++ c.args.node ∷ drop c.in-Some.to c.remove.new.self.items else c.remove.new.self.items) ok
    ∙ ap (λ (ns : List NodeId). take c.in-Some.to ns ++ c.args.node ∷ drop c.in-Some.to ns) c.remove.ensures.items in
    let slots : set c.take_out-held.new.slots.items c.args.node.0 (Some s) ≡ set c.self.inside.slots.items c.args.node.0 (Some s) = ap (λ (l : Slots). set l c.args.node.0 (Some s)) c.take_out-held.ensures.slots ∙ set-set c.self.inside.slots.items c.args.node.0 None (Some s) in
    subst (λ (l : Slots). Renamed c.args.self.now c.args.node c.args.rdn c.args.entry (record { nodes = nodes_of c.self.inside.prefix l c.insert.new.self.items; spare = vec_len c.self.inside.free })) (sym slots)
    (subst (λ (ns : List NodeId). Renamed c.args.self.now c.args.node c.args.rdn c.args.entry (record { nodes = nodes_of c.self.inside.prefix (set c.self.inside.slots.items c.args.node.0 (Some s)) ns; spare = vec_len c.self.inside.free })) (sym order)
    (subst (λ (n : Nodes). Renamed n c.args.node c.args.rdn c.args.entry (record { nodes = nodes_of c.self.inside.prefix (set c.self.inside.slots.items c.args.node.0 (Some s)) (take c.in-Some.to (take c.in-Some.from c.self.inside.order.items ++ drop (suc c.in-Some.from) c.self.inside.order.items) ++ c.args.node ∷ drop c.in-Some.to (take c.in-Some.from c.self.inside.order.items ++ drop (suc c.in-Some.from) c.self.inside.order.items)); spare = vec_len c.self.inside.free })) c.self.view_is
    (renamed c.self.inside.prefix c.self.inside.slots.items c.self.inside.order.items c.self.inside.free.items c.self.invariant.0 c.args.node placed s (ap (λ (t : Slot). t.parent) was) (ap (λ (t : Slot). t.depth) was) c.in-Some.from c.in-Some.to move (vec_len c.self.inside.free))))

pub returns-clause-prefix : goal.returns-clause-prefix
returns-clause-prefix c =
    let row = c.self.invariant.0.row in
    let live : is_live (nodes_of c.self.inside.prefix c.self.inside.slots.items c.self.inside.order.items) c.args.node ≡ true = subst (λ (n : Nodes). is_live n.nodes c.args.node ≡ true) (sym c.self.view_is) c.requires.live in
    let other : is_first (nodes_of c.self.inside.prefix c.self.inside.slots.items c.self.inside.order.items) c.args.node ≡ false = subst (λ (n : Nodes). is_first n.nodes c.args.node ≡ false) (sym c.self.view_is) c.requires.other in
    let used = live_used c.self.inside.prefix c.self.inside.slots.items c.self.inside.order.items row c.args.node live in
    let placed = not_first c.self.inside.prefix c.self.inside.slots.items c.self.inside.order.items row c.args.node used other in
    let s : Slot = record { parent = c.held.inside.parent; depth = c.held.inside.depth; rdn = c.args.rdn; entry = c.args.entry } in
    let was = c.held.view_is ∙ c.take_out-held.ensures.held in
    let move : IsMove c.self.inside.slots.items c.self.inside.order.items c.args.node (key_of_rdn c.args.rdn) c.in-Some.from c.in-Some.to =
    subst (λ (l : Slots). IsMove l c.self.inside.order.items c.args.node (key_of_rdn c.args.rdn) c.in-Some.from c.in-Some.to) c.deref.ensures.value
    (subst (λ (ns : List NodeId). IsMove c.deref.result.now ns c.args.node (key_of_rdn c.args.rdn) c.in-Some.from c.in-Some.to) c.deref-2.ensures.value
    (subst (λ (r : Rdn). IsMove c.deref.result.now c.deref-2.result.now c.args.node (key_of_rdn r) c.in-Some.from c.in-Some.to) c.pairs.ensures c.in-Some.ensures)) in
    let ok : is_ok c.insert.result ≡ true = c.is_err.ensures.negation ∙ ap not c.if-is_err.false in
    let order : c.insert.new.self.items ≡ take c.in-Some.to (take c.in-Some.from c.self.inside.order.items ++ drop (suc c.in-Some.from) c.self.inside.order.items) ++ c.args.node ∷ drop c.in-Some.to (take c.in-Some.from c.self.inside.order.items ++ drop (suc c.in-Some.from) c.self.inside.order.items) =
    c.insert.ensures.items ∙ ap (λ (b : Bool). if b then take c.in-Some.to c.remove.new.self.items ++ c.args.node ∷ drop c.in-Some.to c.remove.new.self.items else c.remove.new.self.items) ok
    ∙ ap (λ (ns : List NodeId). take c.in-Some.to ns ++ c.args.node ∷ drop c.in-Some.to ns) c.remove.ensures.items in
    let slots : set c.take_out-held.new.slots.items c.args.node.0 (Some s) ≡ set c.self.inside.slots.items c.args.node.0 (Some s) = ap (λ (l : Slots). set l c.args.node.0 (Some s)) c.take_out-held.ensures.slots ∙ set-set c.self.inside.slots.items c.args.node.0 None (Some s) in
    let kept = renamed_kept c.self.inside.prefix c.self.inside.slots.items c.self.inside.order.items c.self.inside.free.items c.self.invariant.0 c.args.node placed s (ap (λ (t : Slot). t.parent) was) (ap (λ (t : Slot). t.depth) was) c.in-Some.from c.in-Some.to move in
    ap (λ (l : Slots). prefix_of (nodes_of c.self.inside.prefix l c.insert.new.self.items)) slots
    ∙ (ap (λ (ns : List NodeId). prefix_of (nodes_of c.self.inside.prefix (set c.self.inside.slots.items c.args.node.0 (Some s)) ns)) order
    ∙ (prefix_key c.self.inside.prefix (set c.self.inside.slots.items c.args.node.0 (Some s)) (take c.in-Some.to (take c.in-Some.from c.self.inside.order.items ++ drop (suc c.in-Some.from) c.self.inside.order.items) ++ c.args.node ∷ drop c.in-Some.to (take c.in-Some.from c.self.inside.order.items ++ drop (suc c.in-Some.from) c.self.inside.order.items)) kept.row
    ∙ (sym (prefix_key c.self.inside.prefix c.self.inside.slots.items c.self.inside.order.items row) ∙ ap (λ (n : Nodes). prefix_of n.nodes) c.self.view_is)))

pub returns-clause-before : goal.returns-clause-before
returns-clause-before c =
    let row = c.self.invariant.0.row in
    let live : is_live (nodes_of c.self.inside.prefix c.self.inside.slots.items c.self.inside.order.items) c.args.node ≡ true = subst (λ (n : Nodes). is_live n.nodes c.args.node ≡ true) (sym c.self.view_is) c.requires.live in
    let used = live_used c.self.inside.prefix c.self.inside.slots.items c.self.inside.order.items row c.args.node live in
    let was = c.held.view_is ∙ c.take_out-held.ensures.held in
    subst (λ (n : Nodes). option_map entry_in (node_with n.nodes c.args.node) ≡ Some c.held.inside.entry) c.self.view_is
    (ap (option_map entry_in) (live_node c.self.inside.prefix c.self.inside.slots.items c.self.inside.order.items row c.args.node used)
    ∙ ap Some (ap (λ (t : Slot). t.entry) (sym was)))

pub returns-in_default-clause-linked : goal.returns-in_default-clause-linked
returns-in_default-clause-linked c = subst (λ (n : Nodes). IsLinked n.nodes) c.self.view_is (linked c.self.inside.prefix c.self.inside.slots.items c.self.inside.order.items c.self.invariant.0.row)

pub returns-in_default-clause-numbered : goal.returns-in_default-clause-numbered
returns-in_default-clause-numbered c = subst (λ (n : Nodes). AreNumbered n.nodes) c.self.view_is (numbered c.self.inside.prefix c.self.inside.slots.items c.self.inside.order.items c.self.invariant.0.row)

pub returns-clause-linked : goal.returns-clause-linked
returns-clause-linked c = subst (λ (n : Nodes). IsLinked n.nodes) c.self.view_is (linked c.self.inside.prefix c.self.inside.slots.items c.self.inside.order.items c.self.invariant.0.row)

pub returns-clause-numbered : goal.returns-clause-numbered
returns-clause-numbered c = subst (λ (n : Nodes). AreNumbered n.nodes) c.self.view_is (numbered c.self.inside.prefix c.self.inside.slots.items c.self.inside.order.items c.self.invariant.0.row)
