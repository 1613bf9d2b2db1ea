-- The slot that was taken is put at its site.
use Rattle.std.proofs.Common.{◌≡◌, ◌+◌, ◌-◌, ◌≤◌, ◌<◌, ◌++◌, Bool, true, not, ◌∷◌, List, length, take, drop, set, sym, ap, subst, ◌∙◌, arith, if◌then◌else◌, is_ok, Some}
use Rattle.std.specs.Vec.{vec_len}
use Rattle.x5_model.specs.Values.{last_rdn}
use Rattle.x5_dse.specs.declared.node.NodeId.{NodeId}
use Rattle.x5_dse.specs.Linked.{Nodes, prefix_of}
use Rattle.x5_dse.specs.Changes.{Inserted}
use Rattle.x5_dse.specs.Inside.{Slots, nodes_of, IsSite}
use Rattle.x5_dse.proofs.Inserting.{kept_now, inserted, popped_within, length_fits}
use Rattle.x5_dse.proofs.Named.{prefix_key}
use Rattle.x5_dse.proofs.tree.DseTree.insert.Goals as goal

pub overflow_sub-depth : goal.overflow_sub-depth
overflow_sub-depth c =
    let site : IsSite c.self.inside.prefix c.self.inside.slots.items c.self.inside.order.items c.args.name c.in_ok-parent.parent c.in_ok-parent.place =
    subst (λ (s : Slots). IsSite c.self.inside.prefix s c.self.inside.order.items c.args.name c.in_ok-parent.parent c.in_ok-parent.place) c.deref.ensures.value
    (subst (λ (o : List NodeId). IsSite c.self.inside.prefix c.deref.result.now o c.args.name c.in_ok-parent.parent c.in_ok-parent.place) c.deref-2.ensures.value c.in_ok-parent.ensures) in
    let l : length c.self.inside.prefix ≤ length c.args.name = length_fits c.self.inside.prefix c.self.inside.slots.items c.self.inside.order.items c.self.invariant.0.row c.args.name c.in_ok-parent.parent c.in_ok-parent.place site in
    omega (arith, c.len.ensures, c.len-2.ensures)

pub index_mut-requires : goal.index_mut-requires
index_mut-requires c =
    let l : c.in-Some.node.0 < length c.self.inside.slots.items = popped_within c.self.inside.slots.items c.self.inside.order.items c.self.inside.free.items c.self.invariant.0 c.in-Some.node c.pop.new.self.items c.in-Some.ensures.items in
    omega (arith, c.self.inside.slots.ok.0)

pub invariant_of-self : goal.invariant_of-self
invariant_of-self c =
    let site : IsSite c.self.inside.prefix c.self.inside.slots.items c.self.inside.order.items c.args.name c.in_ok-parent.parent c.in_ok-parent.place =
    subst (λ (s : Slots). IsSite c.self.inside.prefix s c.self.inside.order.items c.args.name c.in_ok-parent.parent c.in_ok-parent.place) c.deref.ensures.value
    (subst (λ (o : List NodeId). IsSite c.self.inside.prefix c.deref.result.now o c.args.name c.in_ok-parent.parent c.in_ok-parent.place) c.deref-2.ensures.value c.in_ok-parent.ensures) in
    let deep : c.len.result - c.len-2.result ≡ length c.args.name - length c.self.inside.prefix = (λ i. c.len.ensures i - c.len-2.ensures i) in
    let ok : is_ok c.insert.result ≡ true = c.is_err.ensures.negation ∙ ap not c.if-is_err.false in
    let order : c.insert.new.self.items ≡ take c.in_ok-parent.place c.self.inside.order.items ++ c.in-Some.node ∷ drop c.in_ok-parent.place c.self.inside.order.items =
    c.insert.ensures.items ∙ ap (λ (b : Bool). if b then take c.in_ok-parent.place c.self.inside.order.items ++ c.in-Some.node ∷ drop c.in_ok-parent.place c.self.inside.order.items else c.self.inside.order.items) ok in
    let order_len : vec_len c.insert.new.self ≡ vec_len c.self.inside.order + 1 = c.insert.ensures.len ∙ ap (λ (b : Bool). if b then vec_len c.self.inside.order + 1 else vec_len c.self.inside.order) ok in
    let room = c.self.invariant.1 in (
      kept_now c.self.inside.prefix c.self.inside.slots.items c.self.inside.order.items c.self.inside.free.items c.self.invariant.0 c.args.name c.args.entry c.in_ok-parent.parent c.in_ok-parent.place site
          (c.len.result - c.len-2.result) deep c.in-Some.node c.pop.new.self.items c.in-Some.ensures.items c.insert.new.self.items order,
      record {
        all = omega (arith, order_len, room.all, c.in-Some.ensures.cases);
        for_order = omega (arith, room.for_order, c.insert.ensures.capacity);
        for_free = omega (arith, room.for_free, c.in-Some.ensures.capacity);
      },
    )

pub returns-clause-ok : goal.returns-clause-ok
returns-clause-ok c =
    let site : IsSite c.self.inside.prefix c.self.inside.slots.items c.self.inside.order.items c.args.name c.in_ok-parent.parent c.in_ok-parent.place =
    subst (λ (s : Slots). IsSite c.self.inside.prefix s c.self.inside.order.items c.args.name c.in_ok-parent.parent c.in_ok-parent.place) c.deref.ensures.value
    (subst (λ (o : List NodeId). IsSite c.self.inside.prefix c.deref.result.now o c.args.name c.in_ok-parent.parent c.in_ok-parent.place) c.deref-2.ensures.value c.in_ok-parent.ensures) in
    let deep : c.len.result - c.len-2.result ≡ length c.args.name - length c.self.inside.prefix = (λ i. c.len.ensures i - c.len-2.ensures i) in
    let ok : is_ok c.insert.result ≡ true = c.is_err.ensures.negation ∙ ap not c.if-is_err.false in
    let order : c.insert.new.self.items ≡ take c.in_ok-parent.place c.self.inside.order.items ++ c.in-Some.node ∷ drop c.in_ok-parent.place c.self.inside.order.items =
    c.insert.ensures.items ∙ ap (λ (b : Bool). if b then take c.in_ok-parent.place c.self.inside.order.items ++ c.in-Some.node ∷ drop c.in_ok-parent.place c.self.inside.order.items else c.self.inside.order.items) ok in
    let less : vec_len c.pop.new.self + 1 ≡ vec_len c.self.inside.free = c.in-Some.ensures.cases in
    subst (λ (n : Nodes). Inserted n c.args.name c.args.entry c.in-Some.node (record { nodes = nodes_of c.self.inside.prefix (set c.self.inside.slots.items c.in-Some.node.0 (Some (record { parent = c.in_ok-parent.parent; depth = c.len.result - c.len-2.result; rdn = last_rdn c.args.name; entry = c.args.entry }))) c.insert.new.self.items; spare = vec_len c.pop.new.self })) c.self.view_is
    (inserted c.self.inside.prefix c.self.inside.slots.items c.self.inside.order.items c.self.inside.free.items c.self.invariant.0 c.args.name c.args.entry c.in_ok-parent.parent c.in_ok-parent.place site
    (c.len.result - c.len-2.result) deep c.in-Some.node c.pop.new.self.items c.in-Some.ensures.items c.insert.new.self.items order (vec_len c.self.inside.free) (vec_len c.pop.new.self) less)

pub returns-clause-prefix : goal.returns-clause-prefix
returns-clause-prefix c =
    let site : IsSite c.self.inside.prefix c.self.inside.slots.items c.self.inside.order.items c.args.name c.in_ok-parent.parent c.in_ok-parent.place =
    subst (λ (s : Slots). IsSite c.self.inside.prefix s c.self.inside.order.items c.args.name c.in_ok-parent.parent c.in_ok-parent.place) c.deref.ensures.value
    (subst (λ (o : List NodeId). IsSite c.self.inside.prefix c.deref.result.now o c.args.name c.in_ok-parent.parent c.in_ok-parent.place) c.deref-2.ensures.value c.in_ok-parent.ensures) in
    let deep : c.len.result - c.len-2.result ≡ length c.args.name - length c.self.inside.prefix = (λ i. c.len.ensures i - c.len-2.ensures i) in
    let ok : is_ok c.insert.result ≡ true = c.is_err.ensures.negation ∙ ap not c.if-is_err.false in
    let order : c.insert.new.self.items ≡ take c.in_ok-parent.place c.self.inside.order.items ++ c.in-Some.node ∷ drop c.in_ok-parent.place c.self.inside.order.items =
    c.insert.ensures.items ∙ ap (λ (b : Bool). if b then take c.in_ok-parent.place c.self.inside.order.items ++ c.in-Some.node ∷ drop c.in_ok-parent.place c.self.inside.order.items else c.self.inside.order.items) ok in
    let kept = kept_now c.self.inside.prefix c.self.inside.slots.items c.self.inside.order.items c.self.inside.free.items c.self.invariant.0 c.args.name c.args.entry c.in_ok-parent.parent c.in_ok-parent.place site
    (c.len.result - c.len-2.result) deep c.in-Some.node c.pop.new.self.items c.in-Some.ensures.items c.insert.new.self.items order in
    prefix_key c.self.inside.prefix (set c.self.inside.slots.items c.in-Some.node.0 (Some (record { parent = c.in_ok-parent.parent; depth = c.len.result - c.len-2.result; rdn = last_rdn c.args.name; entry = c.args.entry }))) c.insert.new.self.items kept.row
    ∙ (sym (prefix_key c.self.inside.prefix c.self.inside.slots.items c.self.inside.order.items c.self.invariant.0.row) ∙ ap (λ (n : Nodes). prefix_of n.nodes) c.self.view_is)
