-- A slot more that is free leaves all nodes as they are, and what was reserved is room for its number.
use Rattle.std.proofs.Common.{◌≡◌, ◌+◌, ◌++◌, Bool, true, not, [], ◌∷◌, length, List, sym, ap, subst, ◌∙◌, arith, if◌then◌else◌, None, is_ok}
use Rattle.std.specs.Vec.{vec_len}
use Rattle.x5_dse.specs.declared.node.NodeId.{NodeId}
use Rattle.x5_dse.specs.Linked.{Nodes}
use Rattle.x5_dse.specs.Inside.{Slots, nodes_of, IsKept}
use Rattle.x5_dse.proofs.Changing.{nodes_same}
use Rattle.x5_dse.proofs.Growing.{grown, grown_same}
use Rattle.x5_dse.proofs.tree.DseTree.grow.Goals as goal

pub invariant_of-self-2 : goal.invariant_of-self-2
invariant_of-self-2 c =
    let next : NodeId = record { 0 = c.len.result } in
    let at : next.0 ≡ length c.self.inside.slots.items = c.len.ensures ∙ c.self.inside.slots.ok.0 in
    let ok : is_ok c.push-2.result ≡ true = c.is_err.ensures.negation ∙ ap not c.if-is_err.false in
    let free : c.push-2.new.self.items ≡ c.self.inside.free.items ++ next ∷ [] =
    c.push-2.ensures.items ∙ ap (λ (b : Bool). if b then c.reserve-2.new.self.items ++ next ∷ [] else c.reserve-2.new.self.items) ok
    ∙ ap (λ (ns : List NodeId). ns ++ next ∷ []) c.in_ok-reserve-2.ensures.items in
    let free_len : vec_len c.push-2.new.self ≡ vec_len c.reserve-2.new.self + 1 = c.push-2.ensures.len ∙ ap (λ (b : Bool). if b then vec_len c.reserve-2.new.self + 1 else vec_len c.reserve-2.new.self) ok in
    let kept : IsKept (c.self.inside.slots.items ++ None ∷ []) c.self.inside.order.items (c.self.inside.free.items ++ next ∷ []) = grown c.self.inside.slots.items c.self.inside.order.items c.self.inside.free.items next at c.self.invariant.0 in
    let room = c.self.invariant.1 in (
      subst (λ (s : Slots). IsKept s c.reserve.new.self.items c.push-2.new.self.items) (sym c.in_ok-push.ensures.items)
          (subst (λ (ns : List NodeId). IsKept (c.self.inside.slots.items ++ None ∷ []) ns c.push-2.new.self.items) (sym c.in_ok-reserve.ensures.items)
          (subst (λ (ns : List NodeId). IsKept (c.self.inside.slots.items ++ None ∷ []) c.self.inside.order.items ns) (sym free) kept)),
      record {
        all = omega (arith, free_len, room.all, c.in_ok-push.ensures.len, c.in_ok-reserve.ensures.len, c.in_ok-reserve-2.ensures.len);
        for_order = omega (arith, room.all, c.in_ok-push.ensures.len, c.in_ok-reserve.ensures.len, c.in_ok-reserve.ensures.ok, c.len-2.ensures);
        for_free = omega (arith, room.all, c.in_ok-push.ensures.len, c.in_ok-reserve.ensures.len, c.in_ok-reserve-2.ensures.len, c.in_ok-reserve-2.ensures.ok, c.len-3.ensures, c.push-2.ensures.capacity);
      },
    )

pub returns-clause-nodes : goal.returns-clause-nodes
returns-clause-nodes c =
    (λ i. nodes_of c.self.inside.prefix (c.in_ok-push.ensures.items i) (c.in_ok-reserve.ensures.items i))
    ∙ nodes_same c.self.inside.slots.items (c.self.inside.slots.items ++ None ∷ []) (grown_same c.self.inside.slots.items) c.self.inside.order.items c.self.invariant.0.row c.self.inside.prefix
    ∙ ap (λ (n : Nodes). n.nodes) c.self.view_is
