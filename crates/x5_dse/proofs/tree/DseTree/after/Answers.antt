-- A walk from a node on is that node and the walk from the next one on.
use Rattle.std.proofs.Common.{◌≡◌, [], ◌∷◌, true, sym, subst}
use Rattle.x5_model.specs.Words.{in_option}
use Rattle.x5_dse.specs.Linked.{Nodes, IsWithin, IsAt, walk_from}
use Rattle.x5_dse.specs.Inside.{Slots, is_used, nodes_of}
use Rattle.x5_dse.specs.Step.{IsStep, IsUnder}
use Rattle.x5_dse.proofs.Named.{live_used}
use Rattle.x5_dse.proofs.Walking.{under_any}
use Rattle.x5_dse.proofs.Steps.{within_under, walk_step, at_step}
use Rattle.x5_dse.proofs.tree.DseTree.after.Goals as goal

pub after-requires-clause-from_used : goal.after-requires-clause-from_used
after-requires-clause-from_used c =
    let within : IsWithin (nodes_of c.self.inside.prefix c.self.inside.slots.items c.self.inside.order.items) c.args.from c.args.node = subst (λ (n : Nodes). IsWithin n.nodes c.args.from c.args.node) (sym c.self.view_is) c.requires in
    let from_used = live_used c.self.inside.prefix c.self.inside.slots.items c.self.inside.order.items c.self.invariant.0.row c.args.from within.from_live in
    let used = live_used c.self.inside.prefix c.self.inside.slots.items c.self.inside.order.items c.self.invariant.0.row c.args.node within.live in
    subst (λ (s : Slots). is_used s c.args.from ≡ true) (sym c.deref.ensures.value) from_used

pub after-requires-clause-used : goal.after-requires-clause-used
after-requires-clause-used c =
    let within : IsWithin (nodes_of c.self.inside.prefix c.self.inside.slots.items c.self.inside.order.items) c.args.from c.args.node = subst (λ (n : Nodes). IsWithin n.nodes c.args.from c.args.node) (sym c.self.view_is) c.requires in
    let from_used = live_used c.self.inside.prefix c.self.inside.slots.items c.self.inside.order.items c.self.invariant.0.row c.args.from within.from_live in
    let used = live_used c.self.inside.prefix c.self.inside.slots.items c.self.inside.order.items c.self.invariant.0.row c.args.node within.live in
    subst (λ (s : Slots). is_used s c.args.node ≡ true) (sym c.deref.ensures.value) used

pub after-requires-clause-under : goal.after-requires-clause-under
after-requires-clause-under c =
    let within : IsWithin (nodes_of c.self.inside.prefix c.self.inside.slots.items c.self.inside.order.items) c.args.from c.args.node = subst (λ (n : Nodes). IsWithin n.nodes c.args.from c.args.node) (sym c.self.view_is) c.requires in
    let from_used = live_used c.self.inside.prefix c.self.inside.slots.items c.self.inside.order.items c.self.invariant.0.row c.args.from within.from_live in
    let used = live_used c.self.inside.prefix c.self.inside.slots.items c.self.inside.order.items c.self.invariant.0.row c.args.node within.live in
    subst (λ (s : Slots). IsUnder s c.args.from c.args.node) (sym c.deref.ensures.value)
    (under_any c.self.inside.prefix c.self.inside.slots.items c.args.from c.args.node (within_under c.self.inside.prefix c.self.inside.slots.items c.self.inside.order.items c.self.invariant.0.row c.args.from c.args.node from_used used within.under))

pub returns-clause-rest : goal.returns-clause-rest
returns-clause-rest c =
    let within : IsWithin (nodes_of c.self.inside.prefix c.self.inside.slots.items c.self.inside.order.items) c.args.from c.args.node = subst (λ (n : Nodes). IsWithin n.nodes c.args.from c.args.node) (sym c.self.view_is) c.requires in
    let from_used = live_used c.self.inside.prefix c.self.inside.slots.items c.self.inside.order.items c.self.invariant.0.row c.args.from within.from_live in
    let used = live_used c.self.inside.prefix c.self.inside.slots.items c.self.inside.order.items c.self.invariant.0.row c.args.node within.live in
    let step : IsStep c.self.inside.prefix c.self.inside.slots.items c.args.from c.args.node c.after.result = subst (λ (s : Slots). IsStep c.self.inside.prefix s c.args.from c.args.node c.after.result) c.deref.ensures.value (c.after.ensures c.self.inside.prefix) in
    subst (λ (n : Nodes). walk_from n.nodes c.args.from c.args.node ≡ c.args.node ∷ in_option [] (walk_from n.nodes c.args.from) c.after.result) c.self.view_is
    (walk_step c.self.inside.prefix c.self.inside.slots.items c.self.inside.order.items c.self.invariant.0.row c.args.from c.args.node from_used used (within_under c.self.inside.prefix c.self.inside.slots.items c.self.inside.order.items c.self.invariant.0.row c.args.from c.args.node from_used used within.under) c.after.result step)

pub returns-clause-next : goal.returns-clause-next
returns-clause-next c =
    let within : IsWithin (nodes_of c.self.inside.prefix c.self.inside.slots.items c.self.inside.order.items) c.args.from c.args.node = subst (λ (n : Nodes). IsWithin n.nodes c.args.from c.args.node) (sym c.self.view_is) c.requires in
    let from_used = live_used c.self.inside.prefix c.self.inside.slots.items c.self.inside.order.items c.self.invariant.0.row c.args.from within.from_live in
    let used = live_used c.self.inside.prefix c.self.inside.slots.items c.self.inside.order.items c.self.invariant.0.row c.args.node within.live in
    let step : IsStep c.self.inside.prefix c.self.inside.slots.items c.args.from c.args.node c.after.result = subst (λ (s : Slots). IsStep c.self.inside.prefix s c.args.from c.args.node c.after.result) c.deref.ensures.value (c.after.ensures c.self.inside.prefix) in
    subst (λ (n : Nodes). IsAt n.nodes c.args.from c.after.result) c.self.view_is (at_step c.self.inside.prefix c.self.inside.slots.items c.self.inside.order.items c.self.invariant.0.row c.args.from c.args.node from_used c.after.result step)
