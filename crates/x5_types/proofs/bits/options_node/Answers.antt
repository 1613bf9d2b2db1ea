-- The two that were pushed are the parts.
use Rattle.std.proofs.Common.{◌≡◌, [], ◌∷◌, refl}
use Rattle.x5_types.specs.declared.node.Node.{Flag}
use Rattle.x5_types.proofs.Nodes.{many_is}
use Rattle.x5_types.proofs.bits.options_node.Goals as goal

pub returns : goal.returns
returns c =
    let items : c.push-2.new.self.items ≡ Flag c.args.nocopy ∷ Flag c.args.nochain ∷ [] =
    simp (c.in_ok-push-2.ensures.items, c.in_ok-push.ensures.items, c.new-parts.ensures.items) refl in
    many_is c.push-2.new.self (Flag c.args.nocopy ∷ Flag c.args.nochain ∷ []) items
